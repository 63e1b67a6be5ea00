-- What a server that listens has come to, turn by turn.
use Rattle.std.proofs.Common.{◌≡◌, ℕ, ◌+◌, ◌*◌, ◌^◌, ◌≤◌, ◌<◌, inl, inr, Bool, ◌||◌, Some, None, Result, Ok, Err}
use Rattle.std.proofs.Common.{IfOk, IfErr, List, [], ◌∷◌, ◌++◌, Option}
use Rattle.std.proofs.Common.{refl, sym, ap, ◌∙◌, arith, subst}
use Rattle.std.specs.Global.{Global}
use Rattle.std.specs.Io.KnownBytes.{Appends}
use Rattle.text_lines.specs.Line.{text_of}
use Rattle.text_lines.specs.Writing.{WritesAllBut-refl, Appends-from_all}
use Rattle.text_words.specs.declared.fault.TextFault.{TextFault}
use Rattle.text_words.specs.Words.{has_refusal}
use Rattle.server_desk.specs.declared.setting.DeviceSetting.{DeviceSetting}
use Rattle.server_core.specs.declared.entry.Entry.{Entry}
use Rattle.server_core.specs.declared.event.Event.{Event}
use Rattle.run_lines.specs.Datagram.{datagram_event}
use Rattle.run_lines.specs.ReplayText.{entry_lines}
use Rattle.run_lines.specs.declared.uplink_counts.UplinkCounts.{UplinkCounts}
use Rattle.run_lines.specs.UplinkCounts.{counts_of, counts_sum, counts_of-append, AreCountsUpTo}
use Rattle.run_server.specs.WorkersRun.{run_state, IsDone}
use Rattle.std.proofs.Math.Bool.{or-false}
use Rattle.airbook_text.specs.Receives.{datagram_room, Received, Seen, AreMade}
use Rattle.airbook_text.specs.ListenTurns.{Account, empty_account, Said, nothing, said_both, HasAnswer, IsAnswered, IsTurn, AreTurns}
use Rattle.airbook_text.specs.Listening.{IsReport, Hears, HearsInPart, SaysInPart, ReportsInPart}
use Rattle.airbook_text.specs.ListenSteps.{Progress, opened, HasSaid, Says, Turns, TurnsInPart, Reports}
use Rattle.airbook_text.proofs.SourceLemmas.{made_none, made_more}
use Rattle.airbook_text.proofs.SaidLemmas.{turns_more, appends_both, refused_both}

-- so many turns have led here
pub record HasListened (ids : List ℕ) (devices : List DeviceSetting) (turns : ℕ) (seen seen_now : Seen) (now : Progress)
    (before after : Option (List ℕ)) : Type 0 where
  pub received : List Received
  pub made : AreMade datagram_room turns seen seen_now received
  pub said : Said
  pub turned : AreTurns ids devices 1 received empty_account now.account said
  pub counts : now.counts ≡ counts_of said.entries
  pub small : AreCountsUpTo (turns * 2 ^ 64) now.counts
  pub refused : now.refused ≡ has_refusal said.lines
  pub written : Appends before after (text_of said.lines)

pub listened_none : (ids : List ℕ) (devices : List DeviceSetting) (seen : Seen) (a : Option (List ℕ))
    → HasListened ids devices 0 seen seen opened a a
listened_none ids devices seen a =
    record {
      received = [];
      made = made_none datagram_room seen;
      said = nothing;
      turned = (refl, refl);
      counts = refl;
      small = record { sent = omega arith; unanswered = omega arith; silent = omega arith };
      refused = refl;
      written = Appends-from_all a a [] (WritesAllBut-refl a []);
    }

-- there is room for one turn more
pub counts_have_room : (turns most : ℕ) (t : UplinkCounts) → AreCountsUpTo (turns * 2 ^ 64) t → turns < most → most ≤ 1000000
    → AreCountsUpTo (2 ^ 126) t
counts_have_room turns most t small less limit =
    record {
      sent = omega (arith, small.sent);
      unanswered = omega (arith, small.unanswered);
      silent = omega (arith, small.silent);
    }

small_more : (turns : ℕ) (t u v : UplinkCounts) → AreCountsUpTo (turns * 2 ^ 64) t → AreCountsUpTo (2 ^ 64) u → v ≡ counts_sum t u
    → AreCountsUpTo ((turns + 1) * 2 ^ 64) v
small_more turns t u v a b e =
    subst (AreCountsUpTo ((turns + 1) * 2 ^ 64)) (sym e)
    (record {
      sent = omega (arith, a.sent, b.sent);
      unanswered = omega (arith, a.unanswered, b.unanswered);
      silent = omega (arith, a.silent, b.silent);
    })

module _ (ids : List ℕ) (devices : List DeviceSetting) (turns : ℕ) (s0 s1 : Seen) (t : Progress) (a b : Option (List ℕ))
    (so_far : HasListened ids devices turns s0 s1 t a b) where
  -- what is said in one turn more
  next_turns : (r : Received) (account : Account) (more : Said) → IsTurn ids devices (turns + 1) r t.account account more
      → AreTurns ids devices 1 (so_far.received ++ r ∷ []) empty_account account (said_both so_far.said more)
  next_turns r account more turn =
      turns_more ids devices 1 so_far.received r empty_account t.account account so_far.said more so_far.turned
      (subst (λ n. IsTurn ids devices n r t.account account more) (omega (arith, so_far.made.number)) turn)

  -- one turn more
  pub listened_more : (s2 : Seen) (u : Progress) (c : Option (List ℕ))
      → Turns (λ r. IsTurn ids devices (turns + 1) r t.account) s1 s2 t u b c → HasListened ids devices (turns + 1) s0 s2 u a c
  listened_more s2 u c turned =
      let more : Said = turned.2.0 in
      let step = turned.2.2 in
      record {
        received = so_far.received ++ turned.0 ∷ [];
        made = made_more datagram_room turns s0 s1 s2 so_far.received turned.0 so_far.made turned.1;
        said = said_both so_far.said more;
        turned = next_turns turned.0 u.account more turned.2.1;
        counts = step.counts ∙ ap (λ k. counts_sum k (counts_of more.entries)) so_far.counts
            ∙ counts_of-append so_far.said.entries more.entries;
        small = small_more turns t.counts (counts_of more.entries) u.counts so_far.small step.small step.counts;
        refused = refused_both so_far.said.lines more.lines t.refused u.refused so_far.refused step.refused;
        written = appends_both a b c so_far.said.lines more.lines so_far.written step.written;
      }

  -- all turns, and the report
  pub listened_all : (c : Option (List ℕ)) (refused : Bool) → refused ≡ t.refused → Reports ids t b c
      → Hears turns ids devices s0 s1 a c refused
  listened_all c refused same reports =
      let report : List (List ℕ) = reports.0 in (
        so_far.received,
        so_far.made,
        record {
          account = t.account;
          said = so_far.said;
          report = report;
          turns = so_far.turned;
          reported = subst (λ k. IsReport ids t.account k report) so_far.counts reports.1;
          written = appends_both a b c so_far.said.lines report so_far.written reports.3;
          told = refused_both so_far.said.lines report t.refused refused so_far.refused
              (same ∙ sym (or-false t.refused) ∙ ap (λ k. t.refused || k) (sym reports.2));
        },
      )

  -- all turns, and the report in part
  pub listened_all_in_part : (c : Option (List ℕ)) (fault : TextFault)
      → ReportsInPart ids t.account t.counts b c fault → HearsInPart turns ids devices s0 s1 a c fault
  listened_all_in_part c fault stopped =
      inr (record {
        received = so_far.received;
        made = so_far.made;
        account = t.account;
        said = so_far.said;
        turned = so_far.turned;
        between = b;
        written = so_far.written;
        stopped = subst (λ k. ReportsInPart ids t.account k b c fault) so_far.counts stopped;
      })

  -- one turn more in part, of so many that are left
  pub listened_more_in_part : (most : ℕ) (s2 : Seen) (c : Option (List ℕ)) (fault : TextFault) → turns < most
      → TurnsInPart (HasAnswer devices (turns + 1)) (λ r. IsTurn ids devices (turns + 1) r t.account) s1 s2 b c fault
      → HearsInPart most ids devices s0 s2 a c fault
  listened_more_in_part most s2 c fault less stopped =
      inl (record {
        turn = turns + 1;
        within = omega arith;
        received = so_far.received;
        last = stopped.0;
        made = made_more datagram_room turns s0 s1 s2 so_far.received stopped.0 so_far.made stopped.1;
        given = stopped.2;
        answered = stopped.3;
        account = t.account;
        said = so_far.said;
        turned = so_far.turned;
        between = b;
        written = so_far.written;
        stopped = stopped.4;
      })

  -- the same of the call that writes the report
  pub listened_closed : {E : Type 0} (same : List ℕ) (c : Option (List ℕ)) (r : Result Bool E) → same ≡ ids
      → IfOk r (λ x. x ≡ t.refused) → IfOk r (λ x. Reports same t b c) → IfOk r (Hears turns ids devices s0 s1 a c)
  listened_closed same c (Ok refused) e told reports = listened_all c refused told (subst (λ l. Reports l t b c) e reports)
  listened_closed same c (Err fault) e told reports = tt

  pub listened_closed_in_part : (same : List ℕ) (c : Option (List ℕ)) (r : Result Bool TextFault) → same ≡ ids
      → IfErr r (ReportsInPart same t.account t.counts b c) → IfErr r (HearsInPart turns ids devices s0 s1 a c)
  listened_closed_in_part same c (Ok refused) e reports = tt
  listened_closed_in_part same c (Err fault) e reports =
      listened_all_in_part c fault (subst (λ l. ReportsInPart l t.account t.counts b c fault) e reports)

abbrev counts_at : ℕ → ℕ → ℕ → UplinkCounts
counts_at sent unanswered silent = record { sent = sent; unanswered = unanswered; silent = silent }

counts_unchanged : (t : UplinkCounts) → t ≡ counts_sum t (counts_of {A = Global} [])
counts_unchanged t =
    let a : t.sent ≡ t.sent + 0 = omega arith in
    let b : t.unanswered ≡ t.unanswered + 0 = omega arith in
    let c : t.silent ≡ t.silent + 0 = omega arith in
    ap (λ x. counts_at x t.unanswered t.silent) a ∙ ap (λ x. counts_at (t.sent + 0) x t.silent) b
    ∙ ap (λ x. counts_at (t.sent + 0) (t.unanswered + 0) x) c

-- nothing was said
said_nothing : (s : Progress) (a : Option (List ℕ)) → HasSaid nothing s s a a
said_nothing s a =
    record {
      counts = counts_unchanged s.counts;
      small = record { sent = omega arith; unanswered = omega arith; silent = omega arith };
      refused = sym (or-false s.refused);
      written = Appends-from_all a a [] (WritesAllBut-refl a []);
    }

-- where nothing is asked for
pub nothing_asked : (ids : List ℕ) (devices : List DeviceSetting) (turn : ℕ) (datagram : List ℕ)
    (event : Option (Event Global)) (s : Progress) (a : Option (List ℕ)) → event ≡ datagram_event devices turn datagram
    → event ≡ None → Says (IsTurn ids devices turn (Some datagram) s.account) s s a a
nothing_asked ids devices turn datagram event s a asked none = (
  nothing,
  subst (λ e. IsAnswered ids turn e s.account s.account nothing) (sym none ∙ asked) (refl, refl),
  said_nothing s a,
)

-- what is said in part to the event that a datagram asks for
pub asked_in_part : {X : Type 0} (ids : List ℕ) (devices : List DeviceSetting) (turn : ℕ) (datagram : List ℕ)
    (asked : Option (Event Global)) (event : Event Global) (account : Account) (a b : Option (List ℕ))
    (r : Result X TextFault) → asked ≡ datagram_event devices turn datagram → asked ≡ Some event
    → IfErr r (SaysInPart (IsAnswered ids turn (Some event) account) a b)
    → IfErr r (SaysInPart (IsTurn ids devices turn (Some datagram) account) a b)
asked_in_part ids devices turn datagram asked event account a b r is some h =
    subst (λ e. IfErr r (SaysInPart (IsAnswered ids turn e account) a b)) (sym some ∙ is) h

-- an event was answered by the lines that were told for it
pub answered_by : (ids : List ℕ) (turn : ℕ) (event : Event Global) (old new : Account)
    (before told taken : List (Entry Global)) → before ≡ []
    → IsDone ids turn event (run_state old.till old.bookings before) (run_state new.till new.bookings told) → taken ≡ told
    → IsAnswered ids turn (Some event) old new (record { entries = taken; lines = entry_lines taken })
answered_by ids turn event old new before told taken none done same = (
  subst (λ l. IsDone ids turn event (run_state old.till old.bookings []) (run_state new.till new.bookings l)) (sym same)
      (subst (λ l. IsDone ids turn event (run_state old.till old.bookings l) (run_state new.till new.bookings told)) none done),
  refl,
)

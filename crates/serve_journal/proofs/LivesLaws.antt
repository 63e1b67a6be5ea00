use Rattle.std.specs.Prelude.{ℕ, ◌≡◌, ◌+◌, ◌≤◌, max, Bool, true, false, List, [], ◌∷◌, Option, Some, None, filter, All}
use Rattle.std.proofs.Common.{refl, sym, ap, subst, ◌∙◌, arith}
use Rattle.std.proofs.lemmas.Bool.{le-leb}
use Rattle.std.proofs.lemmas.Bool.Decides.{nat_tests}
use Rattle.std.proofs.lemmas.List.Elements.{All-head, All-tail}
use Rattle.radio_bands.specs.Band.{hour}
use Rattle.resv_list.specs.declared.reservation.Reservation.{Reservation}
use Rattle.resv_list.specs.Reservations.{start_of, end_of, airtime_us, place, IsByStart, IsFree}
use Rattle.resv_list.proofs.FilterLemmas.{filter-swap, filter-stronger}
use Rattle.resv_list.proofs.SortedLaws.{RisesFrom-place_by}
use Rattle.resv_list.proofs.SortLemmas.{own_rising}
use Rattle.gateway_book.specs.declared.ask.Ask.{Ask}
use Rattle.gateway_book.specs.declared.refusal.Refusal.{Refusal}
use Rattle.gateway_book.specs.Answer.{Rules, IsAsked, refusal_of}
use Rattle.gateway_book.specs.Kept.{is_kept, kept}
use Rattle.gateway_book.specs.Orderly.{IsOrderly}
use Rattle.gateway_book.specs.Step.{is_fit, is_fit-IsFit, made_if, reservation_of, terms_at}
use Rattle.gateway_book.proofs.AnswerLaws.{accepted}
use Rattle.gateway_book.proofs.KeptLaws.{filter-placed, kept-filtered, kept-by_start}
use Rattle.gateway_book.proofs.OrderlyLaws.{MayJoin, free_where_clear, may_join, orderly_nil, orderly_placed}
use Rattle.gateway_book.proofs.SightLaws.{overlap-kept, full_hour-kept}
use Rattle.serve_journal.specs.Lives.{Deed, Asks, Ticks, Life, Recorded, after_deed, after_deeds, opened, after_life, after_lives, HasGap}
use Rattle.serve_journal.specs.Lives.{EveryLifeKeepsDuty}
use Rattle.serve_journal.proofs.PartLaws.{joins_part, with_key, without_key, filter-with_key, filter-without_key, filter-left_out}

-- Over every list of lives what gets into the journal stays what one gateway may send.

-- the reservation of an ask that is fit
record HasFields (ask : Ask) (o : Option Reservation) : Type 0 where
  pub made : Reservation
  pub is : o ≡ Some made
  pub asked : IsAsked ask made

fitted : (ask : Ask) (t : Bool) (e : is_fit ask ≡ t) → t ≡ true → HasFields ask (made_if ask t e)
fitted ask true e h =
    record {
      made = record {
        number = ask.number;
        start = ask.start;
        freq_hz = ask.freq_hz;
        rate = ask.rate;
        len = ask.len;
        fit = is_fit-IsFit ask e;
      };
      is = refl;
      asked = record { number = refl; start = refl; freq_hz = refl; rate = refl; len = refl };
    }
fitted ask false e h = absurd (cc)

-- of what the journal has, the book of a life keeps at least what its floor has not put out of sight
record IsPart (journal : List Reservation) (floor : ℕ) (list : List Reservation) : Type 0 where
  pub rising : IsByStart list
  pub test : Reservation → Bool
  pub part : filter (is_kept floor) journal ≡ filter test list

later_is_kept : (floor later : ℕ) → floor ≤ later → (r : Reservation) → is_kept later r ≡ true → is_kept floor r ≡ true
later_is_kept floor later h r e = grind (arith, nat_tests)

-- it does so when its floor rises
part_later : (journal list : List Reservation) (floor later : ℕ) → floor ≤ later → IsPart journal floor list
    → IsPart journal later (kept list later)
part_later journal list floor later h p =
    record {
      rising = kept-by_start list later p.rising;
      test = p.test;
      part = sym (filter-stronger (is_kept later) (is_kept floor) (later_is_kept floor later h) journal)
          ∙ ap (filter (is_kept later)) p.part
          ∙ filter-swap (is_kept later) p.test list
          ∙ ap (filter p.test) (sym (kept-filtered list later p.rising));
    }

-- when a life opens
part_opened : (journal : List Reservation) (floor : ℕ) → IsByStart journal → IsPart journal floor (kept journal floor)
part_opened journal floor o =
    record {
      rising = kept-by_start journal floor o;
      test = is_kept floor;
      part = sym (filter-stronger (is_kept floor) (is_kept floor) (λ r h. h) journal)
          ∙ ap (filter (is_kept floor)) (sym (kept-filtered journal floor o));
    }

module _ (gap less : ℕ) (journal list : List Reservation) (floor : ℕ) (r : Reservation) (h : less ≤ gap)
    (o : IsOrderly less journal) (p : IsPart journal floor list) (j : MayJoin gap list r) (ahead : floor ≤ r.start) where
  late : is_kept floor r ≡ true
  late = le-leb floor (r.start + hour) (omega arith)

  free : IsFree r.start list
  free = free_where_clear gap list r p.rising j.clear

  joined_rises : IsByStart (place r list)
  joined_rises = RisesFrom-place_by start_of 0 r list (omega arith) free p.rising

  -- what may join the book's list may join the journal's
  joins : MayJoin less journal r
  joins =
      let part = joins_part gap less r p.test list h j in
      let P : List Reservation → Type 0 = λ l. MayJoin less l r in
      let seen : MayJoin less (kept journal floor) r =
      subst P (sym (kept-filtered journal floor o.by_start ∙ p.part)) part in
      let own = own_rising start_of 0 journal o.by_start in
      record {
        clear = sym (overlap-kept less journal floor r.start (end_of r) o.rested own ahead) ∙ seen.clear;
        duty = λ band e.
            sym (full_hour-kept journal band floor r.start (airtime_us r) own ahead) ∙ seen.duty band e;
      }

  same_key : with_key start_of r.start p.test r ≡ true
  same_key = grind (arith, nat_tests)

  no_key : without_key start_of r.start p.test r ≡ false
  no_key = grind (arith, nat_tests)

  -- it is noted
  part_noted : IsPart (place r journal) floor (place r list)
  part_noted =
      let test = with_key start_of r.start p.test in
      record {
        rising = joined_rises;
        test = test;
        part = filter-placed start_of (is_kept floor) 0 r journal late o.by_start
            ∙ ap (place r) (p.part ∙ sym (filter-with_key start_of r.start p.test list free))
            ∙ sym (filter-placed start_of test 0 r list same_key p.rising);
      }

  -- or it isn't
  part_left_out : IsPart journal floor (place r list)
  part_left_out =
      record {
        rising = joined_rises;
        test = without_key start_of r.start p.test;
        part = p.part ∙ sym (filter-without_key start_of r.start p.test list free)
            ∙ sym (filter-left_out start_of r.start p.test r list no_key);
      }

-- what a life keeps at all times
record IsFine (gap : ℕ) (r : Recorded) : Type 0 where
  pub orderly : IsOrderly gap r.journal
  pub part : IsPart r.journal r.book.floor r.book.list

module _ (gap : ℕ) (rules : Rules) (h : gap ≤ rules.gap) where
  accepted_by : (r : Recorded) (ask : Ask) (written : Bool) (m : Reservation) → reservation_of ask ≡ Some m → IsAsked ask m
      → refusal_of (terms_at rules r.book) r.book.list ask ≡ None → IsFine gap r → IsFine gap (after_deed rules (Asks ask written) r)
  accepted_by r ask true m e a n f =
      let j = may_join (terms_at rules r.book) r.book.list ask m a n in
      let ahead : r.book.floor ≤ m.start = rw a.start (accepted (terms_at rules r.book) r.book.list ask n).ahead in
      let joins = joins rules.gap gap r.journal r.book.list r.book.floor m h f.orderly f.part j ahead in
      let noted = part_noted rules.gap gap r.journal r.book.list r.book.floor m h f.orderly f.part j ahead in
      rw (n, e) (record {
        orderly = orderly_placed r.journal m f.orderly joins;
        part = part_later (place m r.journal) (place m r.book.list) r.book.floor r.book.floor (omega arith) noted;
      })
  accepted_by r ask false m e a n f =
      let j = may_join (terms_at rules r.book) r.book.list ask m a n in
      let ahead : r.book.floor ≤ m.start = rw a.start (accepted (terms_at rules r.book) r.book.list ask n).ahead in
      let left_out = part_left_out rules.gap gap r.journal r.book.list r.book.floor m h f.orderly f.part j ahead in
      rw (n, e) (record {
        orderly = f.orderly;
        part = part_later r.journal (place m r.book.list) r.book.floor r.book.floor (omega arith) left_out;
      })

  refused_by : (r : Recorded) (ask : Ask) (written : Bool) (refusal : Refusal)
      → refusal_of (terms_at rules r.book) r.book.list ask ≡ Some refusal → IsFine gap r
      → IsFine gap (after_deed rules (Asks ask written) r)
  refused_by r ask true refusal e f =
      rw e (record { orderly = f.orderly; part = part_later r.journal r.book.list r.book.floor r.book.floor (omega arith) f.part })
  refused_by r ask false refusal e f =
      rw e (record { orderly = f.orderly; part = part_later r.journal r.book.list r.book.floor r.book.floor (omega arith) f.part })

  asked_by : (r : Recorded) (ask : Ask) (written : Bool) (o : Option Refusal)
      → refusal_of (terms_at rules r.book) r.book.list ask ≡ o → IsFine gap r → IsFine gap (after_deed rules (Asks ask written) r)
  asked_by r ask written None e f =
      let made = fitted ask (is_fit ask) refl (accepted (terms_at rules r.book) r.book.list ask e).fit in
      accepted_by r ask written made.made made.is made.asked e f
  asked_by r ask written (Some refusal) e f = refused_by r ask written refusal e f

  fine_after : (d : Deed) (r : Recorded) → IsFine gap r → IsFine gap (after_deed rules d r)
  fine_after (Asks ask written) r f = asked_by r ask written (refusal_of (terms_at rules r.book) r.book.list ask) refl f
  fine_after (Ticks now) r f =
      record {
        orderly = f.orderly;
        part = part_later r.journal r.book.list r.book.floor (max r.book.floor now) (omega arith) f.part;
      }

  fine_after_all : (ds : List Deed) (r : Recorded) → IsFine gap r → IsFine gap (after_deeds rules ds r)
  fine_after_all [] r f = f
  fine_after_all (d ∷ ds) r f = fine_after_all ds (after_deed rules d r) (fine_after d r f)

orderly_after_life : (gap : ℕ) (life : Life) (journal : List Reservation) → HasGap gap life → IsOrderly gap journal
    → IsOrderly gap (after_life life journal)
orderly_after_life gap life journal h o =
    (fine_after_all gap life.rules h.0 life.deeds (opened life journal) (record {
      orderly = o;
      part = part_opened journal life.floor o.by_start;
    })).orderly

orderly_after_lives : (gap : ℕ) (lives : List Life) (journal : List Reservation) → All (HasGap gap) lives → IsOrderly gap journal
    → IsOrderly gap (after_lives lives journal)
orderly_after_lives gap [] journal h o = o
orderly_after_lives gap (life ∷ lives) journal h o =
    orderly_after_lives gap lives (after_life life journal) (All-tail (HasGap gap) life lives h)
    (orderly_after_life gap life journal (All-head (HasGap gap) life lives h) o)

pub every_life_keeps_duty : EveryLifeKeepsDuty
every_life_keeps_duty gap lives g h = orderly_after_lives gap lives [] h (orderly_nil gap g)

-- Time passes for a gateway, a transmission is cancelled, a candidate is tried: what holds of the world holds then.
use Rattle.server_core.proofs.Words
use Words.{arith, inr, subst, sym, ◌∙◌, All-filter, Err, List, None, Ok, Option, Result, Some, find, nat_le, not, refl, slice_get}
use Words.{ℕ, ◌+◌, ◌≡◌, airtime_us, place, start_of, Reservation, may_join, orderly_filter, orderly_placed, after_cancel}
use Words.{book_step, cancel_answer, is_fit-IsFit, is_named, tick_step, IsAsked, refusal_of, accepted, book_step-accepted}
use Words.{net_named, net-place, Ask, CancelFault, Refusal, numbered, Candidate, Job, ask_for, candidate_at, Answer, Booked, Open, Out}
use Words.{numbered-here, Gateway, World, SettingLists, cancel, refused, sent_by, terms, tick, tried_by, try}
use Rattle.server_core.proofs.DeskSteps.{tick_walk, cancel_walk, try_walk}
use Rattle.server_core.proofs.Holds.{IsInOrder, Holds, IsGoodStep, unchanged, AllBelong, Belongs, IsGood, IsJobAt, Stands}
use Rattle.server_core.proofs.Holds.{both_good}
use Rattle.server_core.proofs.Written.{gateway_written, with_gateway, with_answer, answer_written}
use Rattle.server_core.proofs.Members.{All-place_by}
use Rattle.gateway_book.proofs.StandingLaws.{same_without, was_found}

-- Time passes for a gateway.

pub tick_good : {settings : SettingLists} {past : List Gateway} {T : Job → Type 0} {w : World} → Holds settings past T w
    → (id now : ℕ) → IsGoodStep settings past T w (tick w id now)
tick_good {settings} {past} {T} {w} h id now = tick_walk w (IsGoodStep settings past T w) id now
    (record { good = unchanged h; used = tt })
    (λ i g e.
    let o = h.in_order i g e in
    record {
      good = gateway_written h i g (record g { state = tick_step g.state now }) e refl
          (record { orderly = o.orderly; balanced = o.balanced }) (h.belong i g e);
      used = tt;
    })

-- A transmission is cancelled.

abbrev cancelled : Gateway → Result Reservation CancelFault → ℕ → ℕ → Gateway
cancelled g r number start = record g { state = after_cancel r g.state number start }

module _ {settings : SettingLists} {past : List Gateway} {T : Job → Type 0} {w : World}
    (h : Holds settings past T w) (n : ℕ) where
  module _ (i : ℕ) (g : Gateway) (there : slice_get w.gateways i ≡ Some g) (start : ℕ) where
    cancelled_by : (r : Result Reservation CancelFault) → cancel_answer g.state.floor g.state.list n start ≡ r
        → IsGood settings past T w (with_gateway h i (cancelled g r n start))
    cancelled_by (Err fault) e = gateway_written h i g g there refl (h.in_order i g there) (h.belong i g there)
    cancelled_by (Ok r) e =
        let l = g.state.list in
        let o = h.in_order i g there in
        let found = was_found (find (is_named n start) l) (nat_le start g.state.floor) r e in
        let net_of = net_named l n start r o.orderly.by_start found (same_without n start l r o.orderly.by_start found) in
        gateway_written h i g (cancelled g (Ok r) n start) there refl
        (record {
          orderly = orderly_filter (λ m. not (is_named n start m)) l o.orderly;
          balanced = λ j p b s. omega (arith, net_of, o.balanced j p b s);
        })
        (All-filter (λ x. not (is_named n start x)) (Belongs settings past T w.reg.gathered.list w.answers g.id) l
        (h.belong i g there))

  pub cancel_good : IsGoodStep settings past T w (cancel w n)
  cancel_good = cancel_walk w (IsGoodStep settings past T w) n (record { good = unchanged h; used = tt })
      (λ sent i g e. record {
        good = cancelled_by i g e sent.start (cancel_answer g.state.floor g.state.list n sent.start) refl;
        used = tt;
      })

-- A gateway books a transmission for which it was asked.

-- the reservation with the asked fields
pub record IsBooked (g : Gateway) (ask : Ask) : Type 0 where
  pub made : Reservation
  pub asked : IsAsked ask made
  pub state : book_step g.rules g.state ask ≡ record (g.state)
      { list = place made g.state.list; booked = g.state.booked + airtime_us made }

module _ (g : Gateway) (ask : Ask) (e : refusal_of (terms g) g.state.list ask ≡ None) where
  pub booking : IsBooked g ask
  booking =
      let r : Reservation =
      record {
        number = ask.number;
        start = ask.start;
        freq_hz = ask.freq_hz;
        rate = ask.rate;
        len = ask.len;
        fit = is_fit-IsFit ask (accepted (terms g) g.state.list ask e).fit;
      } in
      let a : IsAsked ask r = record { number = refl; start = refl; freq_hz = refl; rate = refl; len = refl } in
      record { made = r; asked = a; state = book_step-accepted g.rules g.state ask r e a }

  pub booked_in_order : (past : List Gateway) → IsInOrder past g → (b : IsBooked g ask)
      → IsInOrder past (record g { state = book_step g.rules g.state ask })
  booked_in_order past o b =
      rw b.state (record {
        orderly = orderly_placed g.state.list b.made o.orderly (may_join (terms g) g.state.list ask b.made b.asked e);
        balanced = λ j p t s. omega (arith, net-place b.made g.state.list, o.balanced j p t s);
      })

-- A gateway is asked for the candidate at which an answer stands.

module _ {settings : SettingLists} {past : List Gateway} {T : Job → Type 0} {w : World}
    (h : Holds settings past T w) (n k : ℕ) (job : Job) (at_job : numbered n w.answers ≡ Some (Open k job)) where
  -- a refused answer goes on to the next candidate of its job
  next_by : (refusal : Refusal) (o : Option Candidate) → IsGood settings past T w (with_answer h n (refused k job refusal o))
  next_by refusal None = answer_written h n (Open k job) (Out refusal) at_job (λ s q. absurd (cc (q))) refl
      (λ i j q. absurd (cc (q)))
  next_by refusal (Some c) = answer_written h n (Open k job) (Open (k + 1) job) at_job (λ s q. absurd (cc (q))) refl
      (λ i j q. let same : job ≡ j = cc (q) in subst (IsJobAt settings T w.reg.gathered.list n) same (h.jobs n k job at_job))

  module _ (c : Candidate) (at : candidate_at job k ≡ Some c) (i : ℕ) (g : Gateway) (there : slice_get w.gateways i ≡ Some g)
      (here : g.id ≡ c.gateway) where
    abbrev new : Answer
    new = Booked (sent_by job c) c.window c.carries

    abbrev asked : World
    asked = with_answer h n new

    first : IsGood settings past T w asked
    first = answer_written h n (Open k job) new at_job (λ s q. absurd (cc (q))) refl (λ i j q. absurd (cc (q)))

    module _ (b : IsBooked g (ask_for job c)) where
      made_stands : Stands settings T w.reg.gathered.list asked.answers g.id b.made
      made_stands =
          let j = h.jobs n k job at_job in
          let number : n ≡ b.made.number = sym (b.asked.number ∙ j.number) in
          record {
            sent = sent_by job c;
            job = job;
            booking = record {
              start = sym b.asked.start;
              gateway = sym here;
              place = k;
              candidate = c;
              tried = at;
              here = sym here;
              asked = b.asked;
            };
            own = subst (λ m. IsJobAt settings T w.reg.gathered.list m job) number j;
            kept = record {
              member = new;
              there = subst (λ m. numbered m asked.answers ≡ Some new) number
                  (numbered-here (λ a. new) n w.answers (Open k job) at_job);
              is = refl;
            };
          }

      booked_belong : AllBelong settings past T w.reg.gathered.list asked.answers
          (record g { state = book_step g.rules g.state (ask_for job c) })
      booked_belong = rw b.state (All-place_by start_of (Belongs settings past T w.reg.gathered.list asked.answers g.id) b.made
          g.state.list (inr made_stands) (first.holds.belong i g there))

    tried_good : (o : Option Refusal) → refusal_of (terms g) g.state.list (ask_for job c) ≡ o
        → IsGoodStep settings past T w (tried_by w n k job c (i, g) o)
    tried_good (Some refusal) e = record { good = next_by refusal (candidate_at job (k + 1)); used = tt }
    tried_good None e =
        let b = booking g (ask_for job c) e in
        let v : Gateway = record g { state = book_step g.rules g.state (ask_for job c) } in
        record {
          good = both_good first (gateway_written first.holds i g v there refl
              (booked_in_order g (ask_for job c) e past (h.in_order i g there) b) (booked_belong b));
          used = tt;
        }

pub try_good : {settings : SettingLists} {past : List Gateway} {T : Job → Type 0} {w : World} → Holds settings past T w
    → (n : ℕ) → IsGoodStep settings past T w (try w n)
try_good {settings} {past} {T} {w} h n = try_walk w (IsGoodStep settings past T w) n (record { good = unchanged h; used = tt })
    (λ k job c i g e at there own. tried_good h n k job e c at i g there own)

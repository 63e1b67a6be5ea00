use Rattle.std.specs.Prelude.{ℕ, ◌≡◌, ◌+◌, max, not, None, List, filter, Result, Ok, Err}
use Rattle.std.proofs.Common.{refl, sym, ap, subst, ◌∙◌, arith}
use Rattle.resv_list.specs.declared.reservation.Reservation.{Reservation}
use Rattle.resv_list.specs.Reservations.{start_of, airtime_us, place}
use Rattle.resv_list.proofs.SortLemmas.{own_rising}
use Rattle.gateway_book.specs.declared.ask.Ask.{Ask}
use Rattle.gateway_book.specs.declared.cancel.CancelFault.{CancelFault}
use Rattle.gateway_book.specs.Answer.{IsAsked, Terms, refusal_of}
use Rattle.gateway_book.specs.Kept.{kept}
use Rattle.gateway_book.proofs.AnswerLaws.{accepted, book_step-accepted}
use Rattle.gateway_book.proofs.KeptLaws.{kept-place, kept-filter, kept-later}
use Rattle.gateway_book.proofs.SightLaws.{AreOwn}
use Rattle.gateway_book.proofs.ForgettingLaws.{refusal_of-kept, cancel_answer-kept}
use Rattle.gateway_book.specs.Orderly.{IsOrderly}
use Rattle.gateway_book.proofs.OrderlyLaws.{may_join, orderly_placed, orderly_filter}
use Rattle.gateway_book.specs.Step.{State, terms_at, book_step, cancel_answer, after_cancel, cancel_step, tick_step}
use Rattle.gateway_book.specs.Step.{is_named}
use Rattle.gateway_book.specs.Book.{Book, terms_of, state_of, with_booked, ticked}
use Rattle.gateway_book.specs.Remembers.{Remembers}

-- a book remembers what it is equal to, if all of that is kept
pub remembers_own : (b : Book) (s : State) → state_of b ≡ s → kept s.list s.floor ≡ s.list → Remembers b s
remembers_own b s e k = record { floor = cc; list = cc; booked = cc; cancelled = cc }

-- Of a book that remembers an orderly state: it answers as the state does, and what it becomes remembers the next state,
-- whose list is orderly too.

module _ (b : Book) (s : State) (o : IsOrderly b.rules.gap s.list) (r : Remembers b s) where
  own : AreOwn s.list
  own = own_rising start_of 0 s.list o.by_start

  same_terms : terms_of b ≡ terms_at b.rules s
  same_terms = rw (r.floor, r.booked) refl

  pub remembers_answer : (ask : Ask) → refusal_of (terms_of b) b.list ask ≡ refusal_of (terms_at b.rules s) s.list ask
  remembers_answer ask =
      ap (λ (t : Terms). refusal_of t b.list ask) same_terms
      ∙ ap (λ (l : List Reservation). refusal_of (terms_at b.rules s) l ask) r.list
      ∙ refusal_of-kept (terms_at b.rules s) s.list ask o.rested own

  module _ (ask : Ask) (m : Reservation) (a : IsAsked ask m) (e : refusal_of (terms_of b) b.list ask ≡ None) where
    unrefused : refusal_of (terms_at b.rules s) s.list ask ≡ None
    unrefused = sym (remembers_answer ask) ∙ e

    stepped : book_step b.rules s ask ≡ record s { list = place m s.list; booked = s.booked + airtime_us m }
    stepped = book_step-accepted b.rules s ask m unrefused a

    placed_orderly : IsOrderly b.rules.gap (place m s.list)
    placed_orderly = orderly_placed s.list m o (may_join (terms_at b.rules s) s.list ask m a unrefused)

    pub orderly_booked : IsOrderly b.rules.gap (book_step b.rules s ask).list
    orderly_booked = rw stepped placed_orderly

    pub remembers_booked : Remembers (with_booked b m) (book_step b.rules s ask)
    remembers_booked =
        let ahead = (accepted (terms_at b.rules s) s.list ask unrefused).ahead in
        let now : Remembers (with_booked b m) (record s { list = place m s.list; booked = s.booked + airtime_us m }) =
        record {
          floor = r.floor;
          list =
              ap (place m) r.list
              ∙ sym (kept-place m s.list s.floor o.by_start placed_orderly.by_start (rw a.start (omega (arith, ahead))));
          booked = ap (λ (n : ℕ). n + airtime_us m) r.booked;
          cancelled = r.cancelled;
        } in
        subst (Remembers (with_booked b m)) (sym stepped) now

  module _ (number start : ℕ) where
    pub remembers_cancel : cancel_answer b.floor b.list number start ≡ cancel_answer s.floor s.list number start
    remembers_cancel =
        ap (λ (f : ℕ). cancel_answer f b.list number start) r.floor
        ∙ ap (λ (l : List Reservation). cancel_answer s.floor l number start) r.list
        ∙ cancel_answer-kept s.list s.floor number start own

    cancelled_orderly : (x : Result Reservation CancelFault) → IsOrderly b.rules.gap (after_cancel x s number start).list
    cancelled_orderly (Ok m) = orderly_filter (λ x. not (is_named number start x)) s.list o
    cancelled_orderly (Err fault) = o

    pub orderly_cancelled : IsOrderly b.rules.gap (cancel_step s number start).list
    orderly_cancelled = cancelled_orderly (cancel_answer s.floor s.list number start)

    cancelled_by : (c : Book) (x : Result Reservation CancelFault) → state_of c ≡ after_cancel x (state_of b) number start
        → Remembers c (after_cancel x s number start)
    cancelled_by c (Ok m) e =
        record {
          floor = ap (λ (t : State). t.floor) e ∙ r.floor;
          list =
              ap (λ (t : State). t.list) e ∙ ap (filter (λ x. not (is_named number start x))) r.list
              ∙ sym (kept-filter (λ x. not (is_named number start x)) s.list s.floor o.by_start);
          booked = ap (λ (t : State). t.booked) e ∙ r.booked;
          cancelled = ap (λ (t : State). t.cancelled) e ∙ ap (λ (n : ℕ). n + airtime_us m) r.cancelled;
        }
    cancelled_by c (Err fault) e =
        record {
          floor = ap (λ (t : State). t.floor) e ∙ r.floor;
          list = ap (λ (t : State). t.list) e ∙ r.list;
          booked = ap (λ (t : State). t.booked) e ∙ r.booked;
          cancelled = ap (λ (t : State). t.cancelled) e ∙ r.cancelled;
        }

    pub remembers_cancelled : (c : Book) → state_of c ≡ cancel_step (state_of b) number start
        → Remembers c (cancel_step s number start)
    remembers_cancelled c e =
        cancelled_by c (cancel_answer s.floor s.list number start)
        (e ∙ ap (λ (x : Result Reservation CancelFault). after_cancel x (state_of b) number start) remembers_cancel)

  pub remembers_ticked : (now : ℕ) → Remembers (ticked b now) (tick_step s now)
  remembers_ticked now =
      let floor : max b.floor now ≡ max s.floor now = ap (λ (f : ℕ). max f now) r.floor in
      record {
        floor = floor;
        list =
            ap (λ (f : ℕ). kept b.list f) floor ∙ ap (λ (l : List Reservation). kept l (max s.floor now)) r.list
            ∙ kept-later s.list s.floor (max s.floor now) o.by_start (omega arith);
        booked = r.booked;
        cancelled = r.cancelled;
      }

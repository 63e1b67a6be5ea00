use Rattle.std.specs.Prelude.{ℕ, ◌≡◌, ◌+◌, nat_le, if◌then◌else◌, Bool, true, false, List, find, Option, Some, None}
use Rattle.std.specs.Prelude.{Result, Ok, Err}
use Rattle.std.proofs.Common.{refl, sym, ap, subst, ◌∙◌, arith}
use Rattle.resv_list.specs.declared.reservation.Reservation.{Reservation}
use Rattle.resv_list.specs.Reservations.{IsByStart, airtime_us, member_from, net, place, without}
use Rattle.gateway_book.specs.declared.ask.Ask.{Ask}
use Rattle.gateway_book.specs.declared.cancel.CancelFault.{CancelFault}
use Rattle.gateway_book.specs.declared.cancel.CancelFault.TheVariants.{Begun}
use Rattle.gateway_book.specs.Answer.{IsAsked, refusal_of, Rules}
use Rattle.gateway_book.specs.Kept.{kept, retired_of}
use Rattle.gateway_book.specs.Step.{State, book_step, cancel_answer, after_cancel, cancel_step, tick_step, is_named, found_or}
use Rattle.gateway_book.specs.Step.{terms_at, without_named}
use Rattle.gateway_book.specs.Book.{Book, terms_of, state_of, with_booked, ticked}
use Rattle.gateway_book.specs.Remembers.{StandsFor}
use Rattle.gateway_book.proofs.AnswerLaws.{book_step-accepted}
use Rattle.gateway_book.proofs.CancelLaws.{named_found, named_none, net_named}
use Rattle.gateway_book.proofs.KeptLaws.{net-place}
use Rattle.gateway_book.proofs.SoundLaws.{net_parted}
use Rattle.gateway_book.proofs.RememberedLaws.{remembers_answer, orderly_booked, remembers_booked, orderly_cancelled}
use Rattle.gateway_book.proofs.RememberedLaws.{remembers_cancelled, remembers_ticked}
use Rattle.gateway_book.specs.Orderly.{IsOrderly}

-- What stays of a state whose totals go with its list, and of a book that stands for it.

-- the member that was found is the only one at its start
module _ (number start : ℕ) (l : List Reservation) (r : Reservation) (o : IsByStart l)
    (f : find (is_named number start) l ≡ Some r) where
  named_by : (m : Option Reservation) → member_from start l ≡ m → without start l ≡ without_named l number start
  named_by None e = absurd (cc (f, named_none number start l e))
  named_by (Some m) e = by (is_named number start m) refl
    where
      by : (t : Bool) → is_named number start m ≡ t → without start l ≡ without_named l number start
      by true i = sym (named_found number start l m true i o e).1
      by false i = absurd (cc (f, (named_found number start l m false i o e).0))

  pub same_without : without start l ≡ without_named l number start
  same_without = named_by (member_from start l) refl

pub was_found : (o : Option Reservation) (t : Bool) (r : Reservation) → (if t then Err Begun else found_or o) ≡ Ok r
    → o ≡ Some r
was_found o true r e = absurd (cc)
was_found None false r e = absurd (cc)
was_found (Some s) false r e = cc

-- the booked airtime is what was cancelled and what the list has
abbrev pub IsBalanced : State → Type 0
IsBalanced s = s.booked ≡ s.cancelled + net s.list

pub balanced_placed : (s : State) (m : Reservation) → IsBalanced s
    → IsBalanced (record s { list = place m s.list; booked = s.booked + airtime_us m })
balanced_placed s m b = omega (arith, net-place m s.list, b)

pub balanced_cancelled : (s : State) (number start : ℕ) (x : Result Reservation CancelFault)
    → cancel_answer s.floor s.list number start ≡ x → IsByStart s.list → IsBalanced s
    → IsBalanced (after_cancel x s number start)
balanced_cancelled s number start (Ok r) e o b =
    let f = was_found (find (is_named number start) s.list) (nat_le start s.floor) r e in
    omega (arith, net_named s.list number start r o f (same_without number start s.list r o f), b)
balanced_cancelled s number start (Err fault) e o b = b

module _ (b : Book) (s : State) (h : StandsFor b s) where
  pub stands_answer : (ask : Ask) → refusal_of (terms_of b) b.list ask ≡ refusal_of (terms_at b.rules s) s.list ask
  stands_answer ask = remembers_answer b s h.orderly h.remembers ask

  pub stands_booked : (ask : Ask) (m : Reservation) → IsAsked ask m → refusal_of (terms_of b) b.list ask ≡ None
      → StandsFor (with_booked b m) (book_step b.rules s ask)
  stands_booked ask m a e =
      let stepped = book_step-accepted b.rules s ask m (sym (stands_answer ask) ∙ e) a in
      record {
        orderly = orderly_booked b s h.orderly h.remembers ask m a e;
        balanced = subst IsBalanced (sym stepped) (balanced_placed s m h.balanced);
        remembers = remembers_booked b s h.orderly h.remembers ask m a e;
      }

  pub stands_cancelled : (number start : ℕ) (c : Book) → c.rules ≡ b.rules
      → state_of c ≡ cancel_step (state_of b) number start → StandsFor c (cancel_step s number start)
  stands_cancelled number start c same e =
      let P : Rules → Type 0 = λ r. IsOrderly r.gap (cancel_step s number start).list in
      record {
        orderly = subst P (sym same) (orderly_cancelled b s h.orderly h.remembers number start);
        balanced = balanced_cancelled s number start (cancel_answer s.floor s.list number start) refl h.orderly.by_start
            h.balanced;
        remembers = remembers_cancelled b s h.orderly h.remembers number start c e;
      }

  pub stands_ticked : (now : ℕ) → StandsFor (ticked b now) (tick_step s now)
  stands_ticked now =
      record {
        orderly = h.orderly;
        balanced = h.balanced;
        remembers = remembers_ticked b s h.orderly h.remembers now;
      }

  -- what it has retired is the airtime that its floor has put out of sight
  pub stands_retired : b.booked ≡ b.cancelled + b.retired + net b.list → b.retired ≡ net (retired_of s.list s.floor)
  stands_retired balanced =
      let r = h.remembers in
      let k : net b.list ≡ net (kept s.list s.floor) = ap net r.list in
      omega (arith, k, balanced, r.booked, r.cancelled, h.balanced, net_parted s.list s.floor h.orderly.by_start)

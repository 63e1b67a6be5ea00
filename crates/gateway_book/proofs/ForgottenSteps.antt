use Rattle.std.specs.Prelude.{ℕ, ◌≡◌, ◌+◌, ◌≤◌, max, not, Bool, List, [], ◌∷◌, Option, Some, None, Result, Ok, Err, filter}
use Rattle.std.proofs.Common.{refl, sym, ap, subst, ◌∙◌, arith}
use Rattle.resv_list.specs.declared.reservation.Reservation.{Reservation}
use Rattle.resv_list.specs.Reservations.{start_of, airtime_us, place}
use Rattle.resv_list.proofs.SortLemmas.{NoneAt, none_at_filtered, none_at_sorted, own_filtered, own_placed}
use Rattle.gateway_book.specs.declared.ask.Ask.{Ask}
use Rattle.gateway_book.specs.declared.refusal.Refusal.{Refusal}
use Rattle.gateway_book.specs.declared.cancel.CancelFault.{CancelFault}
use Rattle.gateway_book.specs.Kept.{is_kept, kept}
use Rattle.gateway_book.specs.Lawful.{IsLawful}
use Rattle.gateway_book.specs.Answer.{Rules, ask_airtime, refusal_of}
use Rattle.gateway_book.specs.Step.{State, terms_at, is_named, reservation_of, placed, after_answer, cancel_answer}
use Rattle.gateway_book.specs.Step.{after_cancel}
use Rattle.gateway_book.specs.Forgetting.{Command, Book, Cancel, Tick, Reply, Answered, TakenOut, reply_to, after_command}
use Rattle.gateway_book.specs.Forgetting.{forgetful, replies, forgetful_replies, ForgettingIsUnseen}
use Rattle.gateway_book.proofs.SightLaws.{AreOwn}
use Rattle.gateway_book.proofs.ForgettingLaws.{refusal_of-kept, cancel_answer-kept, own-kept, own-kept_later, own-kept_place}
use Rattle.gateway_book.proofs.ForgettingLaws.{own-kept_filter}
use Rattle.gateway_book.proofs.PairLaws.{joined, lawful_placed, lawful_filtered, none_there, own_of}
use Rattle.gateway_book.specs.Disjoint.{most_gap}

-- A gateway that forgets, beside one that doesn't: command by command.

module _ (rules : Rules) (s : State) (g : rules.gap ≤ most_gap) (o : AreOwn s.list) where
  twice : kept (kept s.list s.floor) s.floor ≡ kept s.list s.floor
  twice = own-kept_later s.list s.floor s.floor o (omega arith)

  forgotten : forgetful (forgetful s) ≡ forgetful s
  forgotten = ap (λ (l : List Reservation). record s { list = l }) twice

  reply_same : (c : Command) → reply_to rules (forgetful s) c ≡ reply_to rules s c
  reply_same (Book ask) = ap Answered (refusal_of-kept (terms_at rules s) s.list ask g o)
  reply_same (Cancel number start) = ap TakenOut (cancel_answer-kept s.list s.floor number start o)
  reply_same (Tick now) = refl

  kept_none : (k : ℕ) → NoneAt start_of k s.list → NoneAt start_of k (kept s.list s.floor)
  unfolding kept
  kept_none k n =
      none_at_sorted start_of k (filter (is_kept s.floor) s.list) (none_at_filtered start_of k (is_kept s.floor) s.list n)

  kept_joined : (r : Reservation) → NoneAt start_of r.start s.list → s.floor ≤ r.start
      → kept (place r (kept s.list s.floor)) s.floor ≡ kept (place r s.list) s.floor
  kept_joined r n h =
      own-kept_place r (kept s.list s.floor) s.floor (kept_none r.start n) (own-kept s.list s.floor o) h
      ∙ ap (place r) twice ∙ sym (own-kept_place r s.list s.floor n o h)

  booked_by : (ask : Ask) (x : Option Refusal) → refusal_of (terms_at rules s) s.list ask ≡ x
      → forgetful (after_answer x (forgetful s) ask) ≡ forgetful (after_answer x s ask)
  booked_by ask (Some refusal) e = forgotten
  booked_by ask None e =
      let j = joined rules s ask e in
      let r = j.0 in
      let with_list : List Reservation → State = λ l. record s { list = l; booked = s.booked + ask_airtime ask } in
      let made : (l : List Reservation) → placed (reservation_of ask) l ≡ place r l =
      λ l. ap (λ (p : Option Reservation). placed p l) j.1.made in
      ap (λ (l : List Reservation). with_list (kept l s.floor)) (made (kept s.list s.floor))
      ∙ ap with_list (kept_joined r (none_there rules.gap r s.list j.1.clear) j.1.ahead)
      ∙ sym (ap (λ (l : List Reservation). with_list (kept l s.floor)) (made s.list))

  kept_left : (test : Reservation → Bool)
      → kept (filter test (kept s.list s.floor)) s.floor ≡ kept (filter test s.list) s.floor
  kept_left test =
      own-kept_filter test (kept s.list s.floor) s.floor (own-kept s.list s.floor o)
      ∙ ap (filter test) twice ∙ sym (own-kept_filter test s.list s.floor o)

  cancelled_by : (number start : ℕ) (x : Result Reservation CancelFault)
      → forgetful (after_cancel x (forgetful s) number start) ≡ forgetful (after_cancel x s number start)
  cancelled_by number start (Ok r) =
      ap (λ (l : List Reservation). record s { list = l; cancelled = s.cancelled + airtime_us r })
      (kept_left (λ m. not (is_named number start m)))
  cancelled_by number start (Err fault) = forgotten

  after_same : (c : Command) → forgetful (after_command rules (forgetful s) c) ≡ forgetful (after_command rules s c)
  after_same (Book ask) =
      ap (λ (x : Option Refusal). forgetful (after_answer x (forgetful s) ask))
      (refusal_of-kept (terms_at rules s) s.list ask g o)
      ∙ booked_by ask (refusal_of (terms_at rules s) s.list ask) refl
  after_same (Cancel number start) =
      ap (λ (x : Result Reservation CancelFault). forgetful (after_cancel x (forgetful s) number start))
      (cancel_answer-kept s.list s.floor number start o)
      ∙ cancelled_by number start (cancel_answer s.floor s.list number start)
  after_same (Tick now) =
      ap (λ (l : List Reservation). record s { floor = max s.floor now; list = l })
      (own-kept_later s.list s.floor (max s.floor now) o (omega arith))

  lawful_by : (ask : Ask) (x : Option Refusal) → refusal_of (terms_at rules s) s.list ask ≡ x → IsLawful rules.gap s.list
      → IsLawful rules.gap (after_answer x s ask).list
  lawful_by ask (Some refusal) e w = w
  lawful_by ask None e w =
      let j = joined rules s ask e in
      let P : Option Reservation → Type 0 = λ p. IsLawful rules.gap (placed p s.list) in
      subst P (sym j.1.made) (lawful_placed rules.gap s.list j.0 w j.1.clear j.1.duty)

  left_lawful : (number start : ℕ) (x : Result Reservation CancelFault) → IsLawful rules.gap s.list
      → IsLawful rules.gap (after_cancel x s number start).list
  left_lawful number start (Ok r) w = lawful_filtered rules.gap (λ m. not (is_named number start m)) s.list w
  left_lawful number start (Err fault) w = w

  lawful_after : (c : Command) → IsLawful rules.gap s.list → IsLawful rules.gap (after_command rules s c).list
  lawful_after (Book ask) w = lawful_by ask (refusal_of (terms_at rules s) s.list ask) refl w
  lawful_after (Cancel number start) w = left_lawful number start (cancel_answer s.floor s.list number start) w
  lawful_after (Tick now) w = w

  own_by : (ask : Ask) (x : Option Refusal) → refusal_of (terms_at rules s) s.list ask ≡ x
      → AreOwn (after_answer x s ask).list
  own_by ask (Some refusal) e = o
  own_by ask None e =
      let j = joined rules s ask e in
      let P : Option Reservation → Type 0 = λ p. AreOwn (placed p s.list) in
      subst P (sym j.1.made) (own_placed start_of j.0 s.list (none_there rules.gap j.0 s.list j.1.clear) o)

  left_own : (number start : ℕ) (x : Result Reservation CancelFault) → AreOwn (after_cancel x s number start).list
  left_own number start (Ok r) = own_filtered start_of (λ m. not (is_named number start m)) s.list o
  left_own number start (Err fault) = o

  own_after : (c : Command) → AreOwn (after_command rules s c).list
  own_after (Book ask) = own_by ask (refusal_of (terms_at rules s) s.list ask) refl
  own_after (Cancel number start) = left_own number start (cancel_answer s.floor s.list number start)
  own_after (Tick now) = o

-- and list of commands by list of commands
replies_same : (rules : Rules) (s : State) → rules.gap ≤ most_gap → AreOwn s.list → (cs : List Command)
    → forgetful_replies rules (forgetful s) cs ≡ replies rules s cs
replies_same rules s g o [] = refl
replies_same rules s g o (c ∷ cs) =
    ap (λ (r : Reply). r ∷ forgetful_replies rules (forgetful (after_command rules (forgetful s) c)) cs)
    (reply_same rules s g o c)
    ∙ ap (λ (t : State). reply_to rules s c ∷ forgetful_replies rules t cs) (after_same rules s g o c)
    ∙ ap (λ (rs : List Reply). reply_to rules s c ∷ rs)
    (replies_same rules (after_command rules s c) g (own_after rules s g o c) cs)

pub forgetting_is_unseen : ForgettingIsUnseen
forgetting_is_unseen rules s g h =
    let o = own_of s.list h in
    record {
      reply = reply_same rules s g o;
      after = after_same rules s g o;
      replies = replies_same rules s g o;
      lawful = lawful_after rules s g o;
    }

-- How many tickets and stubs of a device are out.
use Rattle.server_desk.proofs.Words
use Words.{ℕ, ◌⊎◌, ◌≡◌, ◌≢◌, ◌+◌, nat_lt, Bool, true, false, if◌then◌else◌, List, [], ◌∷◌, ◌++◌, length, slice_get, slice_set}
use Words.{Option, Some, refl, inl, inr, sym, ap, ◌∙◌, subst, arith, eq-eqb, nat_tests, Asked, Known, NotGiven, Pending, Done}
use Words.{Sent, is_engaged, own_out, count_out, AreOut}
use Rattle.server_desk.proofs.Places.{get_set_cases}

abbrev as_count : Bool → ℕ
as_count b = if b then 1 else 0

module _ (place : ℕ) where
  -- an answer is written anew
  count_set : (asked : List Asked) (known : List Known) (i : ℕ) (a : Asked) (k new : Known) → slice_get asked i ≡ Some a
      → slice_get known i ≡ Some k
      → count_out place asked (slice_set known i new) + own_out place a k ≡ count_out place asked known + own_out place a new
  count_set [] known i a k new e f = absurd (cc)
  count_set (b ∷ asked) [] i a k new e f = absurd (cc)
  count_set (b ∷ asked) (l ∷ known) i a k new e f = grind (arith, count_set asked known)

  -- of one more uplink no ticket is out
  pub count_push : (asked : List Asked) (known : List Known) (a : Asked) → length asked ≡ length known
      → count_out place (asked ++ a ∷ []) (known ++ NotGiven ∷ []) ≡ count_out place asked known
  count_push [] [] a e = refl
  count_push (b ∷ asked) (k ∷ known) a e = ap (λ n. own_out place b k + n) (count_push asked known a (omega (arith, e)))
  count_push asked known a e = absurd (omega (arith, e))

  -- a device is engaged where one is out
  engaged_count : (asked : List Asked) (known : List Known) → is_engaged place asked known
      ≡ nat_lt 0 (count_out place asked known)
  engaged_count (a ∷ asked) (k ∷ known) = grind (arith, nat_tests, engaged_count asked known)
  engaged_count asked known = refl

-- a device is engaged as it says
pub engaged_is : (outs : List Bool) (asked : List Asked) (known : List Known) (place : ℕ) (out : Bool) → AreOut outs asked known
    → slice_get outs place ≡ Some out → is_engaged place asked known ≡ out
engaged_is outs asked known place out h e = grind (arith, nat_tests, engaged_count place asked known, h place out e)

-- of another device's uplink none is out
own_other : (place : ℕ) (a : Asked) (k : Known) → a.device ≢ place → own_out place a k ≡ 0
own_other place a k n = grind (arith, nat_tests)

own_given : (a : Asked) → own_out a.device a Pending ≡ 1
own_given a = rw (eq-eqb a.device a.device refl) refl

module _ (outs : List Bool) (asked : List Asked) (known : List Known) (i : ℕ) (a : Asked) (k new : Known) (old out : Bool)
    (there : slice_get asked i ≡ Some a) (stated : slice_get known i ≡ Some k) (was : slice_get outs a.device ≡ Some old)
    (h : AreOut outs asked known)
    (right : (c d : ℕ) → d + own_out a.device a k ≡ c + own_out a.device a new → c ≡ as_count old → d ≡ as_count out) where
  out_at : (q : ℕ) (o : Bool) → ((a.device ≡ q) × (o ≡ out)) ⊎ ((a.device ≢ q) × (slice_get outs q ≡ Some o))
      → count_out q asked (slice_set known i new) ≡ as_count o
  out_at q o (inl e) =
      let here : count_out a.device asked (slice_set known i new) ≡ as_count out =
      right _ _ (count_set a.device asked known i a k new there stated) (h a.device old was) in
      subst (λ p. count_out p asked (slice_set known i new) ≡ as_count o) e.0 (here ∙ ap as_count (sym e.1))
  out_at q o (inr e) =
      omega (arith, count_set q asked known i a k new there stated, own_other q a k e.0, own_other q a new e.0, h q o e.1)

  out_written : AreOut (slice_set outs a.device out) asked (slice_set known i new)
  out_written q o e = out_at q o (get_set_cases outs a.device q out o e)

module _ (outs : List Bool) (asked : List Asked) (known : List Known) (i : ℕ) (a : Asked) (there : slice_get asked i ≡ Some a)
    (h : AreOut outs asked known) where
  -- a ticket is given of which none was out
  pub out_given : slice_get known i ≡ Some NotGiven → slice_get outs a.device ≡ Some false
      → AreOut (slice_set outs a.device true) asked (slice_set known i Pending)
  out_given stated was =
      out_written outs asked known i a NotGiven Pending false true there stated was h
      (λ c d e f. omega (arith, e, f, own_given a))

  -- the answer that was out is settled
  pub out_settled : (sent : Option Sent) (old : Bool) → slice_get known i ≡ Some Pending → slice_get outs a.device ≡ Some old
      → AreOut (slice_set outs a.device false) asked (slice_set known i (Done sent))
  out_settled sent old stated was =
      out_written outs asked known i a Pending (Done sent) old false there stated was h
      (λ c d e f. grind (arith, e, f, own_given a))

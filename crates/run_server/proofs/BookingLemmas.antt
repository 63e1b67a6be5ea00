-- Bookings by number.
use Rattle.std.proofs.Common.{◌≡◌, ℕ, zero, suc, ◌<◌, ◌≤◌, ◌==◌, ◌++◌, Bool, true, false, List, [], ◌∷◌, length, get_or, map}
use Rattle.std.proofs.Common.{◌⊎◌, inl, inr, Option, Some, None, find, refl, sym, ap, ◌∙◌, arith, subst, append_assoc}
use Rattle.std.specs.Prelude.{slice_get, slice_set, insert, IfSome, cond}
use Rattle.std.specs.Bool.{beq}
use Rattle.std.specs.Global.{Global}
use Rattle.std.specs.List.{list_any, AllWithin}
use Rattle.std.specs.List.Sorted.{IsPermutation}
use Rattle.std.specs.Option.{option_and_then, option_map}
use Rattle.std.proofs.lemmas.Bool.Decides.{nat_tests}
use Rattle.std.proofs.lemmas.List.Sorted.{IsNonDecreasingBy-insert, IsPermutation-insert, IsPermutation-push_more}
use Rattle.std.proofs.lemmas.List.{map-append}
use Rattle.std.proofs.lemmas.List.Edits.{length-insert}
use Rattle.answer_ticket.specs.declared.tried.Receipt.{Receipt}
use Rattle.run_server.specs.Booking.{Booking, booking_of}
use Rattle.run_server.specs.Numbered.{IsEndOfLesser}
use Rattle.run_server.specs.Bookings.{bookings_in, AreFlaggedByNumber, HasOneMore, HasMore, IsMarkedAt, booked_for, open_receipts}

abbrev pub number_of : Receipt Global → ℕ
number_of r = r.number

-- where the lesser numbers end, one more receipt leaves them by number, and one more flag gives it one
pub one_more_is_flagged : (receipts : List (Receipt Global)) (flags : List Bool) (r : Receipt Global) (flag : Bool) (at : ℕ)
    → AreFlaggedByNumber receipts flags → IsEndOfLesser number_of r.number receipts at
    → AreFlaggedByNumber (insert receipts at r) (insert flags at flag)
one_more_is_flagged receipts flags r flag at are end =
    let within : at ≤ length flags = omega (arith, are.same_length, end.within) in
    record {
      same_length = omega (arith, are.same_length, length-insert receipts at r end.within, length-insert flags at flag within);
      by_number = IsNonDecreasingBy-insert number_of receipts at r are.by_number end.within
          (λ k d l. let less = end.lesser k d (omega arith) l in omega (arith, less)) (λ k d l m. end.others k d l m);
    }

-- one more receipt of several
pub one_more_booked : (receipts : List (Receipt Global)) (r : Receipt Global) (old mid new : List Booking)
    → HasMore receipts old mid
    → HasOneMore (booking_of r) mid new → HasMore (receipts ++ r ∷ []) old new
one_more_booked receipts r old mid new have one =
    let b : Booking = booking_of r in
    let step : IsPermutation (b ∷ mid) new = subst (λ l. IsPermutation (b ∷ mid) l) (sym one.1)
    (IsPermutation-insert mid one.0 b) in
    let both : IsPermutation ((old ++ map booking_of receipts) ++ b ∷ []) new =
    IsPermutation-push_more (old ++ map booking_of receipts) mid new b have step in
    subst (λ l. IsPermutation l new)
    (append_assoc old (map booking_of receipts) (b ∷ [])
    ∙ ap (λ l. old ++ l) (sym (map-append booking_of receipts (r ∷ [])))) both

-- receipts that each have a flag, as bookings

pub length-bookings : (receipts : List (Receipt Global)) (flags : List Bool) → length flags ≡ length receipts
    → length (bookings_in receipts flags) ≡ length receipts
length-bookings [] flags same = refl
length-bookings (r ∷ receipts) [] same = absurd (omega (arith, same))
length-bookings (r ∷ receipts) (flag ∷ flags) same = ap suc (length-bookings receipts flags (omega (arith, same)))

pub within_bookings : (receipts : List (Receipt Global)) (flags : List Bool) (bookings : List Booking) (at : ℕ)
    → length flags ≡ length receipts → bookings_in receipts flags ≡ bookings → at < length bookings → at < length receipts
within_bookings receipts flags bookings at same are within =
    subst (λ n. at < n) (ap length (sym are) ∙ length-bookings receipts flags same) within

pub bookings-insert : (receipts : List (Receipt Global)) (flags : List Bool) (at : ℕ) (r : Receipt Global) (flag : Bool)
    → length flags ≡ length receipts
    → bookings_in (insert receipts at r) (insert flags at flag)
    ≡ insert (bookings_in receipts flags) at (record { receipt = r; is_cancelled = flag })
bookings-insert receipts flags zero r flag same = refl
bookings-insert [] [] (suc at) r flag same = refl
bookings-insert [] (f ∷ flags) (suc at) r flag same = absurd (omega (arith, same))
bookings-insert (x ∷ receipts) [] (suc at) r flag same = absurd (omega (arith, same))
bookings-insert (x ∷ receipts) (f ∷ flags) (suc at) r flag same =
    ap (λ l. record { receipt = x; is_cancelled = f } ∷ l) (bookings-insert receipts flags at r flag (omega (arith, same)))

pub bookings-set : (receipts : List (Receipt Global)) (flags : List Bool) (at : ℕ) → length flags ≡ length receipts
    → at < length receipts → IsMarkedAt at (bookings_in receipts flags) (bookings_in receipts (slice_set flags at true))
bookings-set [] flags at same within = absurd (omega (arith, within))
bookings-set (r ∷ receipts) [] at same within = absurd (omega (arith, same))
bookings-set (r ∷ receipts) (flag ∷ flags) zero same within = (record { receipt = r; is_cancelled = flag }, (refl, refl))
bookings-set (r ∷ receipts) (flag ∷ flags) (suc at) same within =
    let (b, (there, set)) = bookings-set receipts flags at (omega (arith, same)) (omega (arith, within)) in
    (b, (there, ap (λ l. record { receipt = r; is_cancelled = flag } ∷ l) set))

-- the receipt at a place
pub receipt_there : (receipts : List (Receipt Global)) (flags : List Bool) (at : ℕ) (r : Receipt Global)
    → length flags ≡ length receipts → at < length receipts → r ≡ get_or receipts at r
    → option_map (λ (b : Booking). b.receipt) (slice_get (bookings_in receipts flags) at) ≡ Some r
receipt_there [] flags at r same within e = absurd (omega (arith, within))
receipt_there (x ∷ receipts) [] at r same within e = absurd (omega (arith, same))
receipt_there (x ∷ receipts) (flag ∷ flags) zero r same within e = ap Some (sym e)
receipt_there (x ∷ receipts) (flag ∷ flags) (suc at) r same within e =
    receipt_there receipts flags at r (omega (arith, same)) (omega (arith, within)) e

-- a receipt beside its flag, as a booking
abbrev pub booking_at : Receipt Global × Bool → Booking
booking_at p = record { receipt = p.0; is_cancelled = p.1 }

-- where those or their flags end
pub none_behind : (receipts : List (Receipt Global)) (flags : List Bool) → (length receipts ≡ 0) ⊎ (length flags ≡ 0)
    → bookings_in receipts flags ≡ []
none_behind [] flags end = refl
none_behind (r ∷ receipts) [] end = refl
none_behind (r ∷ receipts) (flag ∷ flags) (inl none) = absurd (omega (arith, none))
none_behind (r ∷ receipts) (flag ∷ flags) (inr none) = absurd (omega (arith, none))

-- where none is cancelled
pub all_open : (receipts : List (Receipt Global)) (flags : List Bool) → length flags ≡ length receipts
    → list_any (λ flag. beq flag true) flags ≡ false → open_receipts (bookings_in receipts flags) ≡ receipts
all_open [] flags same none = refl
all_open (r ∷ receipts) [] same none = absurd (omega (arith, same))
all_open (r ∷ receipts) (true ∷ flags) same none = absurd (cc (none))
all_open (r ∷ receipts) (false ∷ flags) same none = ap (λ l. r ∷ l) (all_open receipts flags (omega (arith, same)) none)

module _ (n : ℕ) where
  abbrev has_number : Receipt Global → Bool
  has_number r = r.number == n

  -- what is found has the number
  found_has_number : (receipts : List (Receipt Global)) (r : Receipt Global) → Some r ≡ find has_number receipts
      → has_number r ≡ true
  found_has_number [] r e = absurd (cc (e))
  found_has_number (x ∷ receipts) r e = here (has_number x) refl e (found_has_number receipts r) where
    here : (t : Bool) → has_number x ≡ t → Some r ≡ cond t (Some x) (find has_number receipts)
        → (Some r ≡ find has_number receipts → has_number r ≡ true) → has_number r ≡ true
    here true is e behind = cc (is, e)
    here false is e behind = behind e

  none_found : (receipts : List (Receipt Global)) (flags : List Bool) → None ≡ find has_number receipts
      → None ≡ booked_for n (bookings_in receipts flags)
  none_found [] flags e = refl
  none_found (r ∷ receipts) [] e = refl
  none_found (r ∷ receipts) (flag ∷ flags) e = here (has_number r) e (none_found receipts flags) where
    here : (t : Bool) → None ≡ cond t (Some r) (find has_number receipts)
        → (None ≡ find has_number receipts → None ≡ booked_for n (bookings_in receipts flags))
        → None ≡ cond t (Some (record { receipt = r; is_cancelled = flag })) (booked_for n (bookings_in receipts flags))
    here true e behind = absurd (cc (e))
    here false e behind = behind e

  one_found : (receipts : List (Receipt Global)) (flags : List Bool) (at : ℕ) → length flags ≡ length receipts
      → AllWithin (λ (r : Receipt Global). r.number < n) receipts 0 at → at < length receipts
      → slice_get receipts at ≡ find has_number receipts
      → slice_get (bookings_in receipts flags) at ≡ booked_for n (bookings_in receipts flags)
  one_found [] flags at same lesser within e = absurd (omega (arith, within))
  one_found (r ∷ receipts) [] at same lesser within e = absurd (omega (arith, same))
  one_found (r ∷ receipts) (flag ∷ flags) zero same lesser within e = rw (found_has_number (r ∷ receipts) r e) refl
  one_found (r ∷ receipts) (flag ∷ flags) (suc at) same lesser within e =
      let other : has_number r ≡ false = let less = lesser 0 r (omega arith) (omega arith) in grind (arith, nat_tests, less) in
      rw other (one_found receipts flags at (omega (arith, same))
      (λ k d a b. lesser (suc k) d (omega arith) (omega (arith, b))) (omega (arith, within))
      (e ∙ ap (λ t. cond t (Some r) (find has_number receipts)) other))

  -- the first receipt with the number is that of the first booking
  pub first_booked : (receipts : List (Receipt Global)) (flags : List Bool) (place : Option ℕ) → length flags ≡ length receipts
      → IfSome place (IsEndOfLesser number_of n receipts) → IfSome place (λ at. at < length receipts)
      → option_and_then (slice_get receipts) place ≡ find has_number receipts
      → option_and_then (slice_get (bookings_in receipts flags)) place ≡ booked_for n (bookings_in receipts flags)
  first_booked receipts flags None same first within e = none_found receipts flags e
  first_booked receipts flags (Some at) same first within e = one_found receipts flags at same first.lesser within e

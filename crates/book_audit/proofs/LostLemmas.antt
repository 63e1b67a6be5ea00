-- Lemmas on receipts: where a reservation is found among what the books keep, and which receipt is the first that is lost.
use Rattle.std.proofs.Common.{◌≡◌, Bool, ℕ, zero, suc, ◌+◌, ◌<◌, ◌≤◌, true, false, List, [], ◌∷◌, ◌++◌, inl, inr, ◌⊎◌}
use Rattle.std.proofs.Common.{map, length, get_or, take, drop, refl, sym, ap, ◌∙◌, arith, nat_lt}
use Rattle.std.specs.Prelude.{Contains}
use Rattle.std.specs.List.{AllWithin}
use Rattle.std.specs.List.Sorted.{IsPermutation, IsNonDecreasingBy}
use Rattle.std.proofs.lemmas.Bool.Decides.{nat_tests}
use Rattle.std.proofs.lemmas.List.{get_or-take, take-append-drop, length-take, get_or-map, length-map}
use Rattle.std.proofs.lemmas.List.Elements.{Contains-append_left, Contains-append_right}
use Rattle.std.proofs.lemmas.List.Sorted.{Contains-permutation}
use Rattle.std.proofs.lemmas.List.{drop_more}
use Rattle.radio_bands.specs.Band.{hour}
use Rattle.resv_list.specs.declared.reservation.Reservation.{Reservation}
use Rattle.gateway_book.specs.Book.{Book}
use Rattle.answer_ticket.specs.declared.tried.Receipt.{Receipt}
use Rattle.book_audit.specs.Audit.{Shelved, held_by, HasBook, IsKeptOrPast, IsAccountedFor, IsLost}
use Rattle.book_audit.specs.Held.{Kept, AllDiffer}

pub pair_is : (x : Kept) (g : ℕ) (r : Reservation) → x.0 ≡ g → x.1 ≡ r → x ≡ (g, r)
pair_is (a, b) g r e f = cc

unless_by : (a b : ℕ) (t : Bool) → nat_lt a b ≡ t → (a < b → 1 ≤ 0) → b ≤ a
unless_by a b true q f = let less : a < b = grind (arith, nat_tests, q) in absurd (omega (arith, f less))
unless_by a b false q f = grind (arith, nat_tests, q)

pub unless : (a b : ℕ) → (a < b → 1 ≤ 0) → b ≤ a
unless a b f = unless_by a b (nat_lt a b) refl f

-- in rising order, what has a number stands where the numbers below it end
module _ (held : List Kept) (rising : IsNonDecreasingBy (λ (h : Kept). h.1.number) held) (differ : AllDiffer held) (at n : ℕ)
    (low : AllWithin (λ (h : Kept). nat_lt h.1.number n ≡ true) held 0 at)
    (high : AllWithin (λ (h : Kept). nat_lt h.1.number n ≡ false) held at (length held)) where
  pub at_named : (x : Kept) → Contains held x → x.1.number ≡ n → (at < length held) × (get_or held at x ≡ x)
  at_named x found e =
      let k = found.0 in
      let within : k < length held = found.1 in
      let same : get_or held k x ≡ x = found.2 in
      let number : (get_or held k x).1.number ≡ n = ap (λ (h : Kept). h.1.number) same ∙ e in
      let not_below : at ≤ k = unless k at (λ (p : k < at). below k x (low k x (omega arith) p) number) in
      let not_above : k ≤ at = unless at k (λ (p : at < k). above k x p within number) in
      let here : k ≡ at = omega arith in
      (omega arith, ap (λ i. get_or held i x) (sym here) ∙ same) where
        below : (k : ℕ) (x : Kept) → nat_lt (get_or held k x).1.number n ≡ true → (get_or held k x).1.number ≡ n → 1 ≤ 0
        below k x t e = grind (arith, nat_tests, t, e)

        above : (k : ℕ) (x : Kept) → at < k → k < length held → (get_or held k x).1.number ≡ n → 1 ≤ 0
        above k x p h e =
            let first : (get_or held at x).1.number ≤ (get_or held k x).1.number = rising at k x (omega arith) h in
            let t = high at x (omega arith) (omega arith) in
            let least : n ≤ (get_or held at x).1.number = grind (arith, nat_tests, t) in
            omega (arith, differ at k x p h, first, least, e)

-- what a book keeps stands among what all keep
held_there : (shelf : List Shelved) (s : Shelved) (r : Reservation) → Contains shelf s → Contains s.1.list r
    → Contains {X = Kept} (held_by shelf) (s.0, r)
held_there [] s r found kept = absurd (omega (arith, found.1))
held_there (first ∷ shelf) s r (zero, within, same) kept =
    Contains-append_left (map (λ (q : Reservation). (first.0, q)) first.1.list) (held_by shelf) (s.0, r)
    (rw same (own s.0 s.1.list r kept)) where
      own : (g : ℕ) (l : List Reservation) (r : Reservation) → Contains l r → Contains {X = Kept} (map (λ q. (g, q)) l) (g, r)
      own g l r (k, h, e) =
          let pair : Reservation → Kept = λ q. (g, q) in
          let one : Kept = (g, r) in
          (k, omega (arith, h, length-map l pair), get_or-map pair l k r one h ∙ ap pair e)
held_there (first ∷ shelf) s r (suc k, within, same) kept =
    Contains-append_right (map (λ (q : Reservation). (first.0, q)) first.1.list) (held_by shelf) (s.0, r)
    (held_there shelf s r (k, omega arith, same) kept)

-- a receipt that is accounted for has its reservation held, or its book is past it
pub accounted_cases : (shelf : List Shelved) (held : List Kept) (g : ℕ) (r : Reservation) → IsPermutation (held_by shelf) held
    → HasBook shelf g (IsKeptOrPast r)
    → Contains {X = Kept} held (g, r) ⊎ HasBook shelf g (λ (b : Book). r.start + hour < b.floor)
accounted_cases shelf held g r p (s, there, own, inl kept) =
    inl (Contains-permutation (held_by shelf) held (g, r) p (rw (← own) (held_there shelf s r there kept)))
accounted_cases shelf held g r p (s, there, own, inr past) = inr (s, there, own, past)

-- the first receipt that isn't accounted for
pub first_lost_is : {A : Type 0} (shelf : List Shelved) (receipts : List (Receipt A)) (i : ℕ) (lost : Receipt A)
    → i < length receipts → lost ≡ get_or receipts i lost → AllWithin (IsAccountedFor shelf) receipts 0 i
    → (IsAccountedFor shelf lost → ⊥) → IsLost shelf receipts lost.number
first_lost_is {A} shelf receipts i lost h e found gone =
    record {
      before = take i receipts;
      lost = lost;
      after = drop (i + 1) receipts;
      lent =
          let next : lost ∷ drop (i + 1) receipts ≡ drop i receipts =
          ap (λ (x : Receipt A). x ∷ drop (i + 1) receipts) e ∙ sym (drop_more receipts i lost h) in
          sym (ap (λ l. take i receipts ++ l) next ∙ take-append-drop i receipts);
      found = λ k d l.
          let within : k < i = omega (arith, l, length-take i receipts) in
          rw (get_or-take i receipts k d within) (found k d (omega arith) within);
      gone = gone;
      named = refl;
    }

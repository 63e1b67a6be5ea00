-- Lemmas on receipts that are marked once a book keeps their reservations.
use Rattle.std.proofs.Common.{◌≡◌, ◌≢◌, ℕ, zero, suc, ◌+◌, ◌<◌, ◌≤◌, Bool, true, false, cond, nat_lt, List, [], ◌∷◌, ◌++◌}
use Rattle.std.proofs.Common.{map, take, zip, length, get_or, refl, sym, ap, subst, ◌∙◌, arith, inl, inr, ◌⊎◌}
use Rattle.std.specs.Prelude.{◌==◌, All, Contains, MatchBool, slice_set, sum_by}
use Rattle.std.proofs.lemmas.Bool.Decides.{nat_tests}
use Rattle.std.specs.List.{AllWithin, IsAllAdjacentAnswer}
use Rattle.std.proofs.lemmas.List.{get_or-set_same, get_or-set_other, length-set, map-append, append_assoc, take_more}
use Rattle.std.proofs.lemmas.List.{get_or-map, length-map}
use Rattle.std.proofs.lemmas.List.Kept.{AllPairs-from_increasing}
use Rattle.std.proofs.lemmas.List.Elements.{Contains-append_left, Contains-append_right}
use Rattle.std.proofs.lemmas.List.Sorted.{IsPermutation-refl}
use Rattle.std.proofs.lemmas.Slice.Zip.{get_or-zip, length-zip}
use Rattle.std.proofs.lemmas.List.Sums.{sum_by-append, sum_by-cons}
use Rattle.radio_bands.specs.Band.{hour}
use Rattle.resv_list.specs.declared.reservation.Reservation.{Reservation}
use Rattle.answer_ticket.specs.declared.tried.Receipt.{Receipt}
use Rattle.book_audit.specs.Audit.{Shelved, HasBook, IsAccountedFor, held_by, times_of}
use Rattle.book_audit.specs.Held.{Kept}
use Rattle.book_audit.specs.Marks.{DoRise, told_by, AreMarked}
use Rattle.book_audit.proofs.HeldLemmas.{number_of, accounted_held, accounted_past}
use Rattle.book_audit.proofs.LostLemmas.{unless}

-- where all neighbours rise, as `is_sorted_by` tells it, all do
pub all_rise : {A : Type 0} (receipts : List (Receipt A)) (told : Bool)
    → IsAllAdjacentAnswer (λ (r s : Receipt A) b. b ≡ nat_lt r.reservation.number s.reservation.number) receipts told
    → told ≡ true → DoRise receipts
all_rise receipts false answer e i j d l h = absurd (cc (e))
all_rise {A} receipts true answer e i j d l h =
    let number : Receipt A → ℕ = λ r. r.reservation.number in
    let first : i < length receipts = omega arith in
    let rise = AllPairs-from_increasing (map number receipts) (λ k l.
    let next : k + 1 < length receipts = omega (arith, l, length-map receipts number) in
    let here : k < length receipts = omega (arith, next) in
    rw (get_or-map number receipts k d 0, get_or-map number receipts (k + 1) d 0) (grind (arith, nat_tests, answer k d next))) in
    let far = rise i j 0 l (omega (arith, h, length-map receipts number)) in
    rw (get_or-map number receipts i d 0, get_or-map number receipts j d 0) at far

-- where no receipt is marked, nothing is held
pub none_held : {A : Type 0} (receipts : List (Receipt A)) (marks : List Bool) → length marks ≡ length receipts
    → ((k : ℕ) → k < length receipts → get_or marks k false ≡ false) → AreMarked receipts [] marks
none_held receipts marks e clear =
    record {
      each = e;
      once = λ n. omega arith;
      kept = λ i l t d. let f = clear i l in absurd (cc (t, f));
      told = λ n p. absurd (omega (arith, p));
    }

nothing : (k : ℕ) → (0 < k → 1 ≤ 0) → k ≡ 0
nothing zero f = refl
nothing (suc k) f = absurd (omega (arith, f (omega arith)))

first_of : {X : Type 0} (xs : List X) (k : ℕ) → k < length xs → X
first_of [] k h = absurd (omega (arith, h))
first_of (x ∷ xs) k h = x

-- how often a number is held, with one more
times_one : (n : ℕ) (held : List Kept) (x : Kept)
    → times_of n (map number_of (held ++ x ∷ [])) ≡ times_of n (map number_of held) + cond (number_of x == n) 1 0
times_one n held x =
    let count : ℕ → ℕ = λ m. cond (m == n) 1 0 in
    let parted = ap (sum_by count) (map-append number_of held (x ∷ []))
    ∙ sum_by-append count (map number_of held) (map number_of (x ∷ [])) in
    let one = sum_by-cons count (number_of x) [] in
    omega (arith, parted, one)

-- one more is held, and its receipt, which was not marked, is
module _ {A : Type 0} (receipts : List (Receipt A)) (held : List Kept) (marks : List Bool) (at : ℕ) (x : Kept)
    (rising : DoRise receipts) (h : at < length receipts) (free : get_or marks at false ≡ false)
    (same : (d : Receipt A) → told_by (get_or receipts at d) ≡ x) (m : AreMarked receipts held marks) where
  abbrev pub now : List Bool
  now = slice_set marks at true

  not_held : (n : ℕ) → number_of x ≡ n → 0 < times_of n (map number_of held) → 1 ≤ 0
  not_held n e p =
      let told = m.told n p in
      let i = told.0 in
      let l : i < length receipts = told.1 in
      let t : get_or marks i false ≡ true = told.2 in
      let d = first_of receipts at h in
      let own : (get_or receipts at d).reservation.number ≡ n = ap number_of (same d) ∙ e in
      let theirs : (get_or receipts i d).reservation.number ≡ n = told.3 d in
      let not_below : at ≤ i = unless i at (λ p. let less = rising i at d p h in omega (arith, less, own, theirs)) in
      let not_above : i ≤ at = unless at i (λ p. let less = rising at i d p l in omega (arith, less, own, theirs)) in
      let here : i ≡ at = omega (arith, not_below, not_above) in
      let marked = ap (λ k. get_or marks k false) (sym here) ∙ t in
      absurd (cc (marked, free))

  once_by : (n : ℕ) (t : Bool) → (number_of x == n) ≡ t → times_of n (map number_of (held ++ x ∷ [])) ≤ 1
  once_by n true e =
      let same_number : number_of x ≡ n = grind (arith, nat_tests, e) in
      let none = nothing (times_of n (map number_of held)) (not_held n same_number) in
      let one : ◌≡◌ {A = ℕ} (cond (number_of x == n) 1 0) 1 = ap (λ (b : Bool). cond b 1 0) e in
      omega (arith, times_one n held x, none, one)
  once_by n false e =
      let zero : ◌≡◌ {A = ℕ} (cond (number_of x == n) 1 0) 0 = ap (λ (b : Bool). cond b 1 0) e in
      let before = m.once n in
      omega (arith, times_one n held x, before, zero)

  within : at < length marks
  within = let e = m.each in omega (arith, e, h)

  still_by : (i : ℕ) (t : Bool) → (i == at) ≡ t → get_or marks i false ≡ true → get_or now i false ≡ true
  still_by i true e marked =
      let here : i ≡ at = grind (arith, nat_tests, e) in
      ap (λ k. get_or now k false) here ∙ get_or-set_same marks at true false within
  still_by i false e marked =
      let other : i ≢ at = λ (p : i ≡ at). absurd (grind (arith, nat_tests, e, p)) in
      get_or-set_other marks at i true false other ∙ marked

  kept_by : (i : ℕ) (t : Bool) → (i == at) ≡ t → i < length receipts → get_or now i false ≡ true → (d : Receipt A)
      → Contains (held ++ x ∷ []) (told_by (get_or receipts i d))
  kept_by i true e l marked d =
      let here : i ≡ at = grind (arith, nat_tests, e) in
      rw (ap (λ k. told_by (get_or receipts k d)) here ∙ same d)
      (Contains-append_right held (x ∷ []) x (zero, omega arith, refl))
  kept_by i false e l marked d =
      let other : i ≢ at = λ (p : i ≡ at). absurd (grind (arith, nat_tests, e, p)) in
      let before = sym (get_or-set_other marks at i true false other) ∙ marked in
      Contains-append_left held (x ∷ []) (told_by (get_or receipts i d)) (m.kept i l before d)

  told_by_one : (n : ℕ) (t : Bool) → (number_of x == n) ≡ t → 0 < times_of n (map number_of (held ++ x ∷ []))
      → (i : ℕ) × (i < length receipts) × (get_or now i false ≡ true)
      × ((d : Receipt A) → (get_or receipts i d).reservation.number ≡ n)
  told_by_one n true e p =
      let same_number : number_of x ≡ n = grind (arith, nat_tests, e) in
      (at, h, get_or-set_same marks at true false within, λ d. ap number_of (same d) ∙ same_number)
  told_by_one n false e p =
      let zero : ◌≡◌ {A = ℕ} (cond (number_of x == n) 1 0) 0 = ap (λ (b : Bool). cond b 1 0) e in
      let before : 0 < times_of n (map number_of held) = omega (arith, times_one n held x, zero, p) in
      let told = m.told n before in
      (told.0, told.1, still_by told.0 (told.0 == at) refl told.2, told.3)

  pub one_more : AreMarked receipts (held ++ x ∷ []) now
  one_more =
      record {
        each = length-set marks at true ∙ m.each;
        once = λ n. once_by n (number_of x == n) refl;
        kept = λ i l t d. kept_by i (i == at) refl l t d;
        told = λ n p. told_by_one n (number_of x == n) refl p;
      }

-- one more of what a book keeps
pub next_marked : {A : Type 0} (receipts : List (Receipt A)) (held : List Kept) (g : ℕ) (members : List Reservation) (i : ℕ)
    (r : Reservation) (marks : List Bool) → i < length members → r ≡ get_or members i r
    → AreMarked receipts (held ++ map (λ q. (g, q)) (take i members) ++ (g, r) ∷ []) marks
    → AreMarked receipts (held ++ map (λ q. (g, q)) (take (i + 1) members)) marks
next_marked receipts held g members i r marks h e =
    let own : Reservation → Kept = λ q. (g, q) in
    let one : take i members ++ r ∷ [] ≡ take (i + 1) members =
    ap (λ x. take i members ++ x ∷ []) e ∙ sym (take_more members i r h) in
    let more : held ++ map own (take i members) ++ (g, r) ∷ [] ≡ held ++ map own (take (i + 1) members) =
    append_assoc held (map own (take i members)) ((g, r) ∷ [])
    ∙ ap (λ l. held ++ l) (sym (map-append own (take i members) (r ∷ [])) ∙ ap (map own) one) in
    subst (λ l. AreMarked receipts l marks) more

-- a receipt is marked, or its gateway's book is past it
abbrev pub IsMarkedOrPast : {A : Type 0} → List Shelved → Receipt A × Bool → Type 0
IsMarkedOrPast shelf (receipt, marked) =
    (marked ≡ true) ⊎ HasBook shelf receipt.gateway (λ b. receipt.reservation.start + hour < b.floor)

-- where each is, each is accounted for
pub all_accounted : {A : Type 0} (shelf : List Shelved) (receipts : List (Receipt A)) (marks : List Bool) (told : Bool)
    (No : Type 0) → AreMarked receipts (held_by shelf) marks
    → MatchBool told (AllWithin (IsMarkedOrPast shelf) (zip receipts marks) 0 (length (zip receipts marks))) No
    → told ≡ true → All (IsAccountedFor shelf) receipts
all_accounted shelf receipts marks false No m answer e k d l = absurd (cc (e))
all_accounted shelf receipts marks true No m answer e k d l =
    let each = m.each in
    let here = get_or-zip receipts marks k (d, false) l (omega (arith, l, each)) in
    let either = answer k (d, false) (omega arith) (omega (arith, l, each, length-zip receipts marks)) in
    elim (subst (IsMarkedOrPast shelf) here either) [
      | inl marked ↦ accounted_held shelf (held_by shelf) _ _ (IsPermutation-refl (held_by shelf)) (m.kept k l marked d)
      | inr past ↦ accounted_past shelf _ _ past
    ]

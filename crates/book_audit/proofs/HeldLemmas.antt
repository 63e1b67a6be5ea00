-- Lemmas on what some books keep, one after another, and on numbers of which none stands twice.
use Rattle.std.proofs.Common.{◌≡◌, ◌≢◌, ℕ, zero, suc, ◌+◌, ◌<◌, ◌≤◌, Bool, true, false, cond, List, [], ◌∷◌, ◌++◌, inl, inr}
use Rattle.std.proofs.Common.{add-one, drop, length-drop, map, zip, length, get_or, take, refl, sym, ap, subst, ◌∙◌, arith}
use Rattle.std.specs.Prelude.{◌==◌, Contains, count_by, sum_by}
use Rattle.std.specs.List.{AllAdjacentBelow, AllWithin, HoldsAt}
use Rattle.std.specs.List.Sorted.{IsPermutation, IsNonDecreasingBy}
use Rattle.std.proofs.lemmas.Bool.Decides.{nat_tests}
use Rattle.std.proofs.lemmas.List.{get_or-take, get_or-drop, length-take, take-append-drop, take_more, append-nil, get_or-map}
use Rattle.std.proofs.lemmas.List.{length-map, map-append, get_or_default}
use Rattle.std.proofs.lemmas.Simd.{map-map}
use Rattle.std.proofs.lemmas.Grind.{flat_map-append}
use Rattle.std.proofs.lemmas.List.Elements.{Contains-append_cases}
use Rattle.std.proofs.lemmas.List.Sorted.{IsPermutation-sym, IsPermutation-map, Contains-permutation, sum_by-IsPermutation}
use Rattle.std.proofs.lemmas.List.Sorted.{IsNonDecreasingBy-take, IsPermutation-refl, IsPermutation-trans, IsPermutation-cons}
use Rattle.std.proofs.lemmas.List.Sorted.{IsPermutation-middle}
use Rattle.std.proofs.lemmas.List.Sums.{sum_by-append, sum_by-cons}
use Rattle.std.proofs.lemmas.Slice.Zip.{get_or-zip, length-zip}
use Rattle.radio_bands.specs.Band.{hour}
use Rattle.resv_list.specs.declared.reservation.Reservation.{Reservation}
use Rattle.gateway_book.specs.Book.{Book}
use Rattle.book_audit.specs.Audit.{Shelved, held_by, HasBook, IsKeptOrPast, kept_numbers, EachStandsOnce, books_of, IsDoubled}
use Rattle.book_audit.specs.Audit.{times_of}
use Rattle.book_audit.specs.Held.{Kept, AllDiffer, AreAlike}

counted-cons : (m v : ℕ) (l : List ℕ) (t : Bool) → (v == m) ≡ t
    → count_by (λ k. k == m) (v ∷ l) ≡ cond t 1 0 + count_by (λ k. k == m) l
counted-cons m v l t e =
    sum_by-cons (λ k. cond (k == m) 1 0) v l ∙ ap (λ (b : Bool). cond b 1 0 + count_by (λ k. k == m) l) e

-- none is a number below all
above_none : {X : Type 0} (n : X → ℕ) (m : ℕ) (xs : List X) → ((k : ℕ) (d : X) → k < length xs → m < n (get_or xs k d))
    → count_by (λ k. k == m) (map n xs) ≡ 0
above_none n m [] a = refl
above_none n m (x ∷ xs) a =
    let first : m < n x = a 0 x (omega arith) in
    let other : (n x == m) ≡ false = grind (arith, nat_tests) in
    let rest : count_by (λ k. k == m) (map n xs) ≡ 0 = above_none n m xs (λ k d l. a (suc k) d (omega arith)) in
    counted-cons m (n x) (map n xs) false other ∙ omega (arith, rest)

counted_on : (m v : ℕ) (l : List ℕ) (t : Bool) → (v == m) ≡ t → (v ≡ m → count_by (λ k. k == m) l ≡ 0)
    → count_by (λ k. k == m) l ≤ 1 → count_by (λ k. k == m) (v ∷ l) ≤ 1
counted_on m v l true e none rest =
    let same : v ≡ m = grind (arith, nat_tests) in
    omega (arith, counted-cons m v l true e, none same)
counted_on m v l false e none rest = omega (arith, counted-cons m v l false e, rest)

-- numbers in rising order of which no neighbours are equal
pub once-rising : {X : Type 0} (n : X → ℕ) (xs : List X) → IsNonDecreasingBy n xs
    → AllAdjacentBelow (λ x y. n x ≢ n y) xs (length xs) → EachStandsOnce (map n xs)
once-rising n [] s a m = omega arith
once-rising n (x ∷ xs) s a m =
    let above : (k : ℕ) (d : _) → k < length xs → n x < n (get_or xs k d) = λ k d l.
    let differ : n x ≢ n (get_or xs 0 d) = a 0 d (omega arith) in
    let first : n x ≤ n (get_or xs 0 d) = s 0 1 d (omega arith) (omega arith) in
    let next : n (get_or xs 0 d) ≤ n (get_or xs k d) = s 1 (suc k) d (omega arith) (omega arith) in
    omega arith in
    counted_on m (n x) (map n xs) (n x == m) refl
    (λ e. above_none n m xs (λ k d l. subst (λ v. v < n (get_or xs k d)) e (above k d l)))
    (once-rising n xs
    (λ i j d h l. s (suc i) (suc j) d (omega arith) (omega arith))
    (λ k d l. rw add-one (rw add-one at (a (suc k) d (omega (arith, l))))) m)

-- the same in another order
pub once-permutation : {X : Type 0} (n : X → ℕ) (xs ys : List X) → IsPermutation xs ys → EachStandsOnce (map n ys)
    → EachStandsOnce (map n xs)
once-permutation n xs ys p once m =
    let same = sum_by-IsPermutation (λ k. cond (k == m) 1 0) (map n xs) (map n ys) (IsPermutation-map n xs ys p) in
    let rest = once m in
    omega (arith, same, rest)

-- with one more book
pub held_more : (shelf : List Shelved) (i : ℕ) (s : Shelved) → i < length shelf → s ≡ get_or shelf i s
    → held_by (take (i + 1) shelf) ≡ held_by (take i shelf) ++ map (λ (r : Reservation). (s.0, r)) s.1.list
held_more shelf i s h e =
    let own : Shelved → List (ℕ × Reservation) = λ p. map (λ (r : Reservation). (p.0, r)) p.1.list in
    ap held_by (take_more shelf i s h ∙ ap (λ p. take i shelf ++ p ∷ []) (sym e))
    ∙ flat_map-append own (take i shelf) (s ∷ [])
    ∙ ap (λ l. held_by (take i shelf) ++ l) (append-nil (own s))

-- what a book keeps stands among what its shelf keeps, and nothing else does
held_here : (s : Shelved) (shelf : List Shelved) (g : ℕ) (r : Reservation)
    → Contains {X = ℕ × Reservation} (map (λ (q : Reservation). (s.0, q)) s.1.list) (g, r)
    → HasBook (s ∷ shelf) g (λ b. Contains b.list r)
held_here s shelf g r found =
    let own : Reservation → ℕ × Reservation = λ q. (s.0, q) in
    let asked : ℕ × Reservation = (g, r) in
    let within : found.0 < length s.1.list = omega (arith, found.1, length-map s.1.list own) in
    let same : own (get_or s.1.list found.0 r) ≡ asked = sym (get_or-map own s.1.list found.0 r asked within) ∙ found.2 in (
      s,
      (zero, omega arith, refl),
      ap (λ (h : ℕ × Reservation). h.0) same,
      (found.0, within, ap (λ (h : ℕ × Reservation). h.1) same),
    )

further : (P : Book → Type 0) (s : Shelved) (shelf : List Shelved) (g : ℕ) → HasBook shelf g P → HasBook (s ∷ shelf) g P
further P s shelf g h = (h.0, (suc h.1.0, omega (arith, h.1.1), h.1.2), h.2, h.3)

pub held_found : (shelf : List Shelved) (g : ℕ) (r : Reservation) → Contains {X = ℕ × Reservation} (held_by shelf) (g, r)
    → HasBook shelf g (λ b. Contains b.list r)
held_found [] g r found = absurd (omega (arith, found.1))
held_found (s ∷ shelf) g r found =
    elim (Contains-append_cases (map (λ (q : Reservation). (s.0, q)) s.1.list) (held_by shelf) (g, r) found) [
      | inl here ↦ held_here s shelf g r here
      | inr later ↦ further (λ b. Contains b.list r) s shelf g (held_found shelf g r later)
    ]

-- a receipt whose reservation is held is accounted for, and so is one whose book is past it
pub accounted_held : (shelf : List Shelved) (held : List (ℕ × Reservation)) (g : ℕ) (r : Reservation)
    → IsPermutation (held_by shelf) held → Contains {X = ℕ × Reservation} held (g, r) → HasBook shelf g (IsKeptOrPast r)
accounted_held shelf held g r p found =
    let h = held_found shelf g r (Contains-permutation held (held_by shelf) (g, r)
    (IsPermutation-sym (held_by shelf) held p) found) in
    (h.0, h.1, h.2, inl h.3)

pub accounted_past : (shelf : List Shelved) (g : ℕ) (r : Reservation) → HasBook shelf g (λ b. r.start + hour < b.floor)
    → HasBook shelf g (IsKeptOrPast r)
accounted_past shelf g r h = (h.0, h.1, h.2, inr h.3)

-- the numbers of what the books keep
pub numbers_held : (shelf : List Shelved) → map (λ (h : ℕ × Reservation). h.1.number) (held_by shelf)
    ≡ kept_numbers (map (λ (s : Shelved). s.1) shelf)
numbers_held [] = refl
numbers_held (s ∷ shelf) =
    let own : Reservation → ℕ × Reservation = λ q. (s.0, q) in
    map-append (λ (h : ℕ × Reservation). h.1.number) (map own s.1.list) (held_by shelf)
    ∙ ap (λ l. l ++ map (λ (h : ℕ × Reservation). h.1.number) (held_by shelf))
    (map-map (λ (h : ℕ × Reservation). h.1.number) own s.1.list)
    ∙ ap (λ l. map (λ (r : Reservation). r.number) s.1.list ++ l) (numbers_held shelf)

pub once_kept : (shelf : List Shelved) (held seen : List (ℕ × Reservation)) → IsPermutation (held_by shelf) held → seen ≡ held
    → EachStandsOnce (map (λ (h : ℕ × Reservation). h.1.number) seen)
    → EachStandsOnce (kept_numbers (map (λ (s : Shelved). s.1) shelf))
once_kept shelf held seen p e once =
    subst EachStandsOnce (numbers_held shelf)
    (once-permutation (λ (h : ℕ × Reservation). h.1.number) (held_by shelf) held p
    (subst (λ l. EachStandsOnce (map (λ (h : ℕ × Reservation). h.1.number) l)) e once))

abbrev pub number_of : Kept → ℕ
number_of h = h.1.number

abbrev pub do_differ : Kept → Kept → Type 0
do_differ x y = number_of x ≢ number_of y

-- neighbours differ as far as a walk over them came
neighbours_differ : (held : List Kept) (n m : ℕ) → m ≤ n + 1 → m ≤ length held
    → AllWithin (λ (p : Kept × Kept). do_differ p.0 p.1) (zip held (drop 1 held)) 0 n → AllAdjacentBelow do_differ held m
neighbours_differ held n m h within a k d l =
    let here = get_or-zip held (drop 1 held) k (d, d) (omega arith) (omega (arith, l, within, length-drop 1 held)) in
    let next : get_or (drop 1 held) k d ≡ get_or held (k + 1) d =
    get_or-drop 1 held k d ∙ ap (λ i. get_or held i d) (omega arith) in
    let differ = a k (d, d) (omega arith) (omega arith) in rw next at (rw here at differ)

-- where a walk found none alike, all differ
pub all_differ : (held : List Kept) → IsNonDecreasingBy number_of held
    → AllWithin (λ (p : Kept × Kept). do_differ p.0 p.1) (zip held (drop 1 held)) 0 (length (zip held (drop 1 held)))
    → AllDiffer held
all_differ held s a i zero d l h e = absurd (omega (arith, l))
all_differ held s a i (suc j) d l h e =
    let reach : length held ≤ length (zip held (drop 1 held)) + 1 =
    omega (arith, length-zip held (drop 1 held), length-drop 1 held) in
    let differ : number_of (get_or held j d) ≢ number_of (get_or held (suc j) d) =
    rw add-one at (neighbours_differ held _ (length held) reach (omega arith) a j d (omega (arith, h))) in
    let first = s i j d (omega (arith, l)) (omega (arith, h)) in
    let next = s j (suc j) d (omega arith) h in
    omega (arith, differ, first, next, e)

-- two neighbours, and then the others
two_first : {X : Type 0} (xs : List X) (i : ℕ) (a b : X) → suc i < length xs → get_or xs i a ≡ a → get_or xs (suc i) b ≡ b
    → (rest : List X) × IsPermutation xs (a ∷ b ∷ rest)
two_first [] i a b h e f = absurd (omega arith)
two_first (x ∷ []) i a b h e f = absurd (omega arith)
two_first (x ∷ y ∷ xs) zero a b h e f = (xs, rw (← e, ← f) (IsPermutation-refl (x ∷ y ∷ xs)))
two_first (x ∷ y ∷ xs) (suc i) a b h e f =
    let (rest, same) = two_first (y ∷ xs) i a b (omega arith) e f in
    let moved = IsPermutation-sym (a ∷ b ∷ x ∷ rest) (x ∷ a ∷ b ∷ rest) (IsPermutation-middle (a ∷ b ∷ []) x rest) in (
      x ∷ rest,
      IsPermutation-trans (x ∷ y ∷ xs) (x ∷ a ∷ b ∷ rest) (a ∷ b ∷ x ∷ rest) (IsPermutation-cons x (y ∷ xs) (a ∷ b ∷ rest) same)
          moved,
    )

-- a number below one at a place of a list in rising order stands before this place
times_before : (held : List Kept) → IsNonDecreasingBy number_of held → (p n : ℕ) → p + 1 < length held
    → ((d : Kept) → n < number_of (get_or held (p + 1) d)) → AllAdjacentBelow do_differ held (p + 1)
    → times_of n (map number_of held) ≤ 1
times_before held s p n h above before =
    let front = take (p + 1) held in
    let rest = drop (p + 1) held in
    let once = once-rising number_of front (IsNonDecreasingBy-take number_of (p + 1) held s)
    (λ k d l.
    let within : k + 1 < p + 1 = omega (arith, l, length-take (p + 1) held) in
    let earlier : k < p + 1 = omega (arith, within) in
    rw (get_or-take (p + 1) held k d earlier, get_or-take (p + 1) held (k + 1) d within) (before k d within)) n in
    let later = above_none number_of n rest (λ k d l.
    let within : p + 1 + k < length held = omega (arith, l, length-drop (p + 1) held) in
    let rising = s (p + 1) (p + 1 + k) d (omega arith) within in
    rw (get_or-drop (p + 1) held k d) (omega (arith, rising, above d))) in
    let parted : map number_of held ≡ map number_of front ++ map number_of rest =
    ap (map number_of) (sym (take-append-drop (p + 1) held)) ∙ map-append number_of front rest in
    let count : ℕ → ℕ = λ m. cond (m == n) 1 0 in
    omega (arith, ap (sum_by count) parted ∙ sum_by-append count (map number_of front) (map number_of rest), once, later)

-- the first two neighbours that a walk found alike
pub first_alike : (held : List Kept) → IsNonDecreasingBy number_of held → (u v : Kept)
    → (number_of u ≡ number_of v) × (i : ℕ) × (i < length (zip held (drop 1 held)))
    × HoldsAt (λ (p : Kept × Kept). p ≡ (u, v)) (zip held (drop 1 held)) i
    × AllWithin (λ (p : Kept × Kept). do_differ p.0 p.1) (zip held (drop 1 held)) 0 i
    → AreAlike held (number_of u) u.0 v.0
first_alike held s (gateway, one) (other, two) (e, i, l, at, before) =
    let u : Kept = (gateway, one) in
    let v : Kept = (other, two) in
    let within : i + 1 < length held = omega (arith, l, length-zip held (drop 1 held), length-drop 1 held) in
    let behind : i < length (drop 1 held) = omega (arith, within, length-drop 1 held) in
    let pair = sym (get_or-zip held (drop 1 held) i (u, v) (omega arith) behind) ∙ at (u, v) in
    let first : get_or held i u ≡ u = ap (λ (p : Kept × Kept). p.0) pair in
    let next : suc i ≡ 1 + i = omega arith in
    let second : get_or held (suc i) v ≡ v =
    ap (λ k. get_or held k v) next ∙ sym (get_or-drop 1 held i v) ∙ ap (λ (p : Kept × Kept). p.1) pair in
    let (others, same) = two_first held i u v (omega (arith, within)) first second in
    record {
      one = one;
      two = two;
      others = others;
      kept = same;
      first = refl;
      second = sym e;
      least = λ n less.
          times_before held s i n within
          (λ d. let here = get_or_default held (suc i) d v (omega (arith, within)) ∙ second in
          rw add-one (rw here (omega (arith, less, e))))
          (neighbours_differ held i (i + 1) (omega arith) (omega (arith, within)) before);
    }

-- two alike among all that books keep are two of what the books keep
pub doubled_kept : (shelf : List Shelved) (held seen : List Kept) (number gateway other : ℕ) → IsPermutation (held_by shelf) held
    → seen ≡ held → AreAlike seen number gateway other → IsDoubled shelf number gateway other
doubled_kept shelf held seen number gateway other p e found =
    let a = subst (λ l. AreAlike l number gateway other) e found in
    record {
      one = a.one;
      two = a.two;
      others = a.others;
      kept = IsPermutation-trans (held_by shelf) held ((gateway, a.one) ∷ (other, a.two) ∷ a.others) p a.kept;
      first = a.first;
      second = a.second;
      least = λ n l.
          let seldom = a.least n l in
          let count : ℕ → ℕ = λ m. cond (m == n) 1 0 in
          let same = sum_by-IsPermutation count (map number_of (held_by shelf)) (map number_of held)
          (IsPermutation-map number_of (held_by shelf) held p) in
          subst (λ (l : List ℕ). times_of n l ≤ 1) (numbers_held shelf) (omega (arith, seldom, same));
    }

-- numbers that all differ in rising order: none stands twice
pub once_differ : (shelf : List Shelved) (held seen : List Kept) → IsPermutation (held_by shelf) held
    → IsNonDecreasingBy number_of held → seen ≡ held → AllDiffer seen → EachStandsOnce (kept_numbers (books_of shelf))
once_differ shelf held seen p s e differ =
    let d = subst AllDiffer e differ in
    once_kept shelf held held p refl (once-rising number_of held s (λ k x l. d k (k + 1) x (omega arith) l))

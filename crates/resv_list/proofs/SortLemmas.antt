use Rattle.std.specs.Prelude.{ℕ, ◌≡◌, ◌≢◌, ◌+◌, ◌<◌, nat_lt, Bool, true, false, List, [], ◌∷◌, All, map, filter, cond, ⊤}
use Rattle.std.proofs.Common.{refl, sym, ap, ◌∙◌, arith, zero, suc}
use Rattle.std.proofs.lemmas.Bool.{lt-ltb, le-ltb, ltb-true, ltb-false}
use Rattle.std.proofs.lemmas.List.Elements.{All-cons}
use Rattle.resv_list.specs.Sorted.{RisesFrom, place_by, sort_by}
use Rattle.resv_list.proofs.SortedLaws.{RisesFrom-place_by}

-- What does not change when members are put in the order of their keys.

module _ {X : Type 0} (key : X → ℕ) where
  -- no member has this key
  abbrev pub NoneAt : ℕ → List X → Type 0
  NoneAt k xs = All (λ n. n ≢ k) (map key xs)

  -- no two members have the same key
  abbrev pub HaveOwnKeys : List X → Type 0
  HaveOwnKeys [] = ⊤
  HaveOwnKeys (x ∷ xs) = NoneAt (key x) xs × HaveOwnKeys xs

  pub none_at_first : (k : ℕ) (x : X) (xs : List X) → NoneAt k (x ∷ xs) → key x ≢ k
  none_at_first k x xs n = n zero (key x) (omega arith)

  pub none_at_rest : (k : ℕ) (x : X) (xs : List X) → NoneAt k (x ∷ xs) → NoneAt k xs
  none_at_rest k x xs n = λ i d l. n (suc i) d (omega arith)

  pub none_at_cons : (k : ℕ) (x : X) (xs : List X) → key x ≢ k → NoneAt k xs → NoneAt k (x ∷ xs)
  none_at_cons k x xs h n = All-cons (λ m. m ≢ k) (key x) (map key xs) h n

  placed_at : (k : ℕ) (x y : X) (ys : List X) (t : Bool) → key x ≢ k → NoneAt k (y ∷ ys) → NoneAt k (place_by key x ys)
      → NoneAt k (cond t (y ∷ place_by key x ys) (x ∷ y ∷ ys))
  placed_at k x y ys true h n rest = none_at_cons k y (place_by key x ys) (none_at_first k y ys n) rest
  placed_at k x y ys false h n rest = none_at_cons k x (y ∷ ys) h n

  pub none_at_placed : (k : ℕ) (x : X) (xs : List X) → key x ≢ k → NoneAt k xs → NoneAt k (place_by key x xs)
  none_at_placed k x [] h n = none_at_cons k x [] h n
  none_at_placed k x (y ∷ ys) h n =
      placed_at k x y ys (nat_lt (key y) (key x)) h n (none_at_placed k x ys h (none_at_rest k y ys n))

  pub none_at_sorted : (k : ℕ) (xs : List X) → NoneAt k xs → NoneAt k (sort_by key xs)
  none_at_sorted k [] n = n
  none_at_sorted k (x ∷ xs) n =
      none_at_placed k x (sort_by key xs) (none_at_first k x xs n) (none_at_sorted k xs (none_at_rest k x xs n))

  -- members with keys of their own rise once they are in order
  pub rises_sorted : (xs : List X) → HaveOwnKeys xs → RisesFrom key 0 (sort_by key xs)
  rises_sorted [] o = tt
  rises_sorted (x ∷ xs) o =
      RisesFrom-place_by key 0 x (sort_by key xs) (omega arith) (none_at_sorted (key x) xs o.0) (rises_sorted xs o.1)

  filtered_at : (k : ℕ) (test : X → Bool) (x : X) (xs : List X) (t : Bool) → key x ≢ k → NoneAt k (filter test xs)
      → NoneAt k (cond t (x ∷ filter test xs) (filter test xs))
  filtered_at k test x xs true h n = none_at_cons k x (filter test xs) h n
  filtered_at k test x xs false h n = n

  pub none_at_filtered : (k : ℕ) (test : X → Bool) (xs : List X) → NoneAt k xs → NoneAt k (filter test xs)
  none_at_filtered k test [] n = n
  none_at_filtered k test (x ∷ xs) n =
      filtered_at k test x xs (test x) (none_at_first k x xs n) (none_at_filtered k test xs (none_at_rest k x xs n))

  own_by : (test : X → Bool) (x : X) (xs : List X) (t : Bool) → NoneAt (key x) (filter test xs) → HaveOwnKeys (filter test xs)
      → HaveOwnKeys (cond t (x ∷ filter test xs) (filter test xs))
  own_by test x xs true n o = (n, o)
  own_by test x xs false n o = o

  pub own_filtered : (test : X → Bool) (xs : List X) → HaveOwnKeys xs → HaveOwnKeys (filter test xs)
  own_filtered test [] o = tt
  own_filtered test (x ∷ xs) o =
      own_by test x xs (test x) (none_at_filtered (key x) test xs o.0) (own_filtered test xs o.1)

  above_none : (k low : ℕ) (xs : List X) → k < low → RisesFrom key low xs → NoneAt k xs
  above_none k low [] h r = λ i d l. absurd (omega arith)
  above_none k low (x ∷ xs) h r =
      none_at_cons k x xs (omega (arith, r.0)) (above_none k (key x + 1) xs (omega (arith, r.0)) r.1)

  -- members that rise have keys of their own
  pub own_rising : (low : ℕ) (xs : List X) → RisesFrom key low xs → HaveOwnKeys xs
  own_rising low [] r = tt
  own_rising low (x ∷ xs) r = (above_none (key x) (key x + 1) xs (omega arith) r.1, own_rising (key x + 1) xs r.1)

  own_placed_by : (x y : X) (ys : List X) (t : Bool) → NoneAt (key x) (y ∷ ys) → HaveOwnKeys (y ∷ ys)
      → HaveOwnKeys (place_by key x ys) → HaveOwnKeys (cond t (y ∷ place_by key x ys) (x ∷ y ∷ ys))
  own_placed_by x y ys true n o rest =
      let other : key x ≢ key y = λ e. none_at_first (key x) y ys n (sym e) in
      (none_at_placed (key y) x ys other o.0, rest)
  own_placed_by x y ys false n o rest = (n, o)

  pub own_placed : (x : X) (xs : List X) → NoneAt (key x) xs → HaveOwnKeys xs → HaveOwnKeys (place_by key x xs)
  own_placed x [] n o = (n, tt)
  own_placed x (y ∷ ys) n o =
      own_placed_by x y ys (nat_lt (key y) (key x)) n o (own_placed x ys (none_at_rest (key x) y ys n) o.1)

-- a value that is made member by member, in which two members with keys of their own may change places
module _ {X Y : Type 0} (key : X → ℕ) (value : List X → Y) (with_one : X → Y → Y)
    (made : (x : X) (xs : List X) → value (x ∷ xs) ≡ with_one x (value xs))
    (change : (x z : X) (y : Y) → key x ≢ key z → with_one x (with_one z y) ≡ with_one z (with_one x y)) where
  placed_value : (x z : X) (zs : List X) (t : Bool) → key z ≢ key x → value (place_by key x zs) ≡ with_one x (value zs)
      → value (cond t (z ∷ place_by key x zs) (x ∷ z ∷ zs)) ≡ with_one x (value (z ∷ zs))
  placed_value x z zs true h e =
      made z (place_by key x zs) ∙ ap (with_one z) e ∙ change z x (value zs) h ∙ ap (with_one x) (sym (made z zs))
  placed_value x z zs false h e = made x (z ∷ zs)

  pub value-placed : (x : X) (xs : List X) → NoneAt key (key x) xs → value (place_by key x xs) ≡ with_one x (value xs)
  value-placed x [] n = made x []
  value-placed x (z ∷ zs) n =
      placed_value x z zs (nat_lt (key z) (key x)) (none_at_first key (key x) z zs n)
      (value-placed x zs (none_at_rest key (key x) z zs n))

  pub value-sorted : (xs : List X) → HaveOwnKeys key xs → value (sort_by key xs) ≡ value xs
  value-sorted [] o = refl
  value-sorted (x ∷ xs) o =
      value-placed x (sort_by key xs) (none_at_sorted key (key x) xs o.0) ∙ ap (with_one x) (value-sorted xs o.1)
      ∙ sym (made x xs)

module _ {X : Type 0} (key : X → ℕ) where
  second_by : (x z y : X) (ys : List X) (t u : Bool) → nat_lt (key y) (key x) ≡ t → nat_lt (key y) (key z) ≡ u → key x < key z
      → place_by key x (place_by key z ys) ≡ place_by key z (place_by key x ys)
      → place_by key x (cond u (y ∷ place_by key z ys) (z ∷ y ∷ ys))
      ≡ place_by key z (cond t (y ∷ place_by key x ys) (x ∷ y ∷ ys))
  second_by x z y ys true true e f h rest = rw (e, f) (ap (λ (q : List X). y ∷ q) rest)
  second_by x z y ys true false e f h rest =
      let a = ltb-true (key y) (key x) e in
      let b = ltb-false (key y) (key z) f in
      absurd (omega (arith, a, b, h))
  second_by x z y ys false true e f h rest = rw (e, lt-ltb (key x) (key z) h, f) refl
  second_by x z y ys false false e f h rest =
      rw (le-ltb (key z) (key x) (omega arith), lt-ltb (key x) (key z) h, f) refl

  lesser_first : (x z : X) (xs : List X) → key x < key z
      → place_by key x (place_by key z xs) ≡ place_by key z (place_by key x xs)
  lesser_first x z [] h = rw (le-ltb (key z) (key x) (omega arith), lt-ltb (key x) (key z) h) refl
  lesser_first x z (y ∷ ys) h =
      second_by x z y ys (nat_lt (key y) (key x)) (nat_lt (key y) (key z)) refl refl h (lesser_first x z ys h)

  -- two members with keys of their own are placed in either order
  pub place-change : (x z : X) (xs : List X) → key x ≢ key z
      → place_by key x (place_by key z xs) ≡ place_by key z (place_by key x xs)
  place-change x z xs n = by (nat_lt (key x) (key z)) refl
    where
      by : (t : Bool) → nat_lt (key x) (key z) ≡ t
          → place_by key x (place_by key z xs) ≡ place_by key z (place_by key x xs)
      by true e = lesser_first x z xs (ltb-true (key x) (key z) e)
      by false e = sym (lesser_first z x xs (omega (arith, n, ltb-false (key x) (key z) e)))

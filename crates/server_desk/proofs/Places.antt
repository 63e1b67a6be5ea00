-- Members of a list by their places.
use Rattle.server_desk.proofs.Words
use Words.{Bool, true, first_at, ℕ, zero, suc, ◌≡◌, ◌≢◌, ◌⊎◌, List, [], ◌∷◌, ◌++◌, map, length, All, Contains, slice_get}
use Words.{slice_set, Option, Some, same_Some, refl, sym, ap, ◌∙◌, subst, arith, option_map, slice_get-map, slice_get_within}
use Words.{get_or_from_slice_get, get_or, None, ◌<◌, slice_get_read, position, position_from, next_place, zero-add, ◌+◌}
use Rattle.std.proofs.lemmas.Iterator.Adapters.{position_from-zero}
use Rattle.std.proofs.Math.Seq.{map-set_same}

module _ {X : Type 0} where
  -- what is written at a place is found there, and what stands at other places stays
  pub get_set_same : (xs : List X) (i : ℕ) (x y : X) → slice_get xs i ≡ Some x → slice_get (slice_set xs i y) i ≡ Some y
  get_set_same [] i x y e = absurd (cc)
  get_set_same (z ∷ xs) i x y e = grind (arith, get_set_same xs)

  -- a list that goes on has the same at its old places, and what follows at the next one
  pub get_append : (xs ys : List X) (i : ℕ) (x : X) → slice_get xs i ≡ Some x → slice_get (xs ++ ys) i ≡ Some x
  get_append [] ys i x e = absurd (cc)
  get_append (z ∷ xs) ys i x e = grind (arith, get_append xs)

  pub get_next : (xs : List X) (y : X) → slice_get (xs ++ y ∷ []) (length xs) ≡ Some y
  get_next [] y = refl
  get_next (z ∷ xs) y = get_next xs y

  -- a member of a list with one more at its end is one of the old ones or the new one
  pub get_append_cases : (xs : List X) (y z : X) (i : ℕ) → slice_get (xs ++ y ∷ []) i ≡ Some z
      → (slice_get xs i ≡ Some z) ⊎ ((i ≡ length xs) × (z ≡ y))
  get_append_cases [] y z i e = grind arith
  get_append_cases (x ∷ xs) y z i e = grind (arith, get_append_cases xs y z)

  -- a member of a list in which one place was written is the new one at that place, or an old one at another
  pub get_set_cases : (xs : List X) (i j : ℕ) (y z : X) → slice_get (slice_set xs i y) j ≡ Some z
      → ((i ≡ j) × (z ≡ y)) ⊎ ((i ≢ j) × (slice_get xs j ≡ Some z))
  get_set_cases [] i j y z e = absurd (cc)
  get_set_cases (x ∷ xs) i j y z e = grind (arith, get_set_cases xs)

  -- a member of the list before that place was written is there still, or was the one that was written anew
  pub get_set_after : (xs : List X) (i j : ℕ) (y z : X) → slice_get xs j ≡ Some z
      → ((i ≡ j) × (slice_get (slice_set xs i y) j ≡ Some y)) ⊎ (slice_get (slice_set xs i y) j ≡ Some z)
  get_set_after [] i j y z e = absurd (cc)
  get_set_after (u ∷ xs) i j y z e = grind (arith, get_set_after xs)

  -- what stands at a place is a member, and what is true of all is true of it
  pub get_contains : (xs : List X) (k : ℕ) (x : X) → slice_get xs k ≡ Some x → Contains xs x
  get_contains xs k x e = (k, slice_get_within xs k x e, get_or_from_slice_get xs k x x e)

  pub all_get : (P : X → Type 0) (xs : List X) (k : ℕ) (x : X) → All P xs → slice_get xs k ≡ Some x → P x
  all_get P xs k x h e = subst P (get_or_from_slice_get xs k x x e) (h k x (slice_get_within xs k x e))

module _ {X Y : Type 0} (f : X → Y) where
  pub map_there : (xs : List X) (k : ℕ) (x : X) → slice_get xs k ≡ Some x → slice_get (map f xs) k ≡ Some (f x)
  map_there xs k x e = slice_get-map f xs k ∙ ap (option_map f) e

  pub from_map : (xs : List X) (k : ℕ) (y : Y) → slice_get (map f xs) k ≡ Some y → (x : X) × (slice_get xs k ≡ Some x) × (f x ≡ y)
  from_map [] k y e = absurd (cc)
  from_map (x ∷ xs) zero y e = (x, refl, same_Some _ _ e)
  from_map (x ∷ xs) (suc k) y e = from_map xs k y e

  -- a member is written anew by one that f can't tell from it
  pub map_set : (xs : List X) (i : ℕ) (x y : X) → slice_get xs i ≡ Some x → f y ≡ f x → map f (slice_set xs i y) ≡ map f xs
  map_set xs i x y e q = map-set_same f xs i y x (q ∙ ap f (sym (get_or_from_slice_get xs i x x e)))

-- the first member that passes a test, and its place
module _ {X : Type 0} (test : X → Bool) where
  -- it stands at its place and passes the test
  abbrev IsThere : List X → ℕ × X → Type 0
  IsThere xs p = (slice_get xs p.0 ≡ Some p.1) × (test p.1 ≡ true)

  pub found_there : (xs : List X) (p : ℕ × X) → first_at test xs ≡ Some p → IsThere xs p
  found_there [] p e = absurd (cc)
  found_there (x ∷ xs) p e = grind (arith, found_there xs)

-- its place alone, counted from n, by a test of what is shown of it
module _ {X Y : Type 0} (show : X → Y) (shown : Y → Bool) (test : X → Bool) (alike : (x : X) → shown (show x) ≡ test x) where
  next_from : (n : ℕ) (o : Option (ℕ × X)) → option_map (λ p. n + 1 + p.0) o ≡ option_map (λ p. n + p.0) (option_map next_place o)
  next_from n o = grind arith

  place_from : (n : ℕ) (xs : List X) → position_from shown n (map show xs) ≡ option_map (λ p. n + p.0) (first_at test xs)
  place_from n [] = refl
  place_from n (x ∷ xs) = grind (arith, alike x, place_from (n + 1) xs, next_from n)

  pub place_of_first : (xs : List X) → position shown (map show xs) ≡ option_map (λ p. p.0) (first_at test xs)
  place_of_first xs = position_from-zero shown (map show xs) ∙ (simp zero-add at (place_from 0 xs))

-- the same by what the members show
module _ {X Y : Type 0} (show : X → Y) (test : Y → Bool) where
  abbrev pub HasPlace : ℕ → List X → Type 0
  HasPlace place xs = Some place ≡ option_map (λ found. found.0) (first_at test (map show xs))

  pub place_within : (xs : List X) (place : ℕ) → HasPlace place xs → place < length xs
  place_within [] place p = absurd (cc (p))
  place_within (x ∷ xs) place p = grind (arith, place_within xs)

  -- what is read there was found
  pub record IsPlaced (xs : List X) (place : ℕ) (x : X) : Type 0 where
    pub there : slice_get xs place ≡ Some x
    pub found : first_at test (map show xs) ≡ Some (place, show x)
    pub passes : test (show x) ≡ true

  pub is_placed : (xs : List X) (place : ℕ) (x : X) → HasPlace place xs → x ≡ get_or xs place x → IsPlaced xs place x
  is_placed xs place x p g = placed_by (first_at test (map show xs)) refl p
    where
      there : slice_get xs place ≡ Some x
      there = slice_get_read xs (length xs) place x refl (place_within xs place p) g

      placed_by : (o : Option (ℕ × Y)) → first_at test (map show xs) ≡ o → Some place ≡ option_map (λ found. found.0) o
          → IsPlaced xs place x
      placed_by None e q = absurd (cc (q))
      placed_by (Some found) e q =
          let f = found_there test (map show xs) found e in
          let own : found ≡ (place, show x) = grind (arith, q, f.0, map_there show xs place x there) in
          record { there = there; found = rw own at e; passes = rw own at f.1 }

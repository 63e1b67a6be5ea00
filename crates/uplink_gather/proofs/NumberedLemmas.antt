use Rattle.std.proofs.Common.{ℕ, zero, suc, ◌≡◌, ◌-◌, ◌<◌, ◌≤◌, List, [], ◌∷◌, length, slice_get, slice_set, map, Option, Some}
use Rattle.std.proofs.Common.{None, refl, ap, arith}
use Rattle.std.specs.Option.{option_map, option_map_or}
use Rattle.std.proofs.lemmas.List.{length-set}
use Rattle.uplink_gather.specs.Gatherings.{numbered, rewritten}

-- Lists by numbers that are counted from 1.

module _ {X : Type 0} where
  -- what has a number stands one place before it
  pub numbered_at : (n : ℕ) (xs : List X) → 0 < n → numbered n xs ≡ slice_get xs (n - 1)
  numbered_at zero xs h = absurd (omega arith)
  numbered_at (suc i) xs h = ap (slice_get xs) (omega arith)

  get_within : (xs : List X) (i : ℕ) (x : X) → slice_get xs i ≡ Some x → i < length xs
  get_within [] i x e = absurd (cc)
  get_within (y ∷ ys) zero x e = omega arith
  get_within (y ∷ ys) (suc i) x e = let rest = get_within ys i x e in omega arith

  -- the numbers are 1 to the length
  pub numbered_within : (n : ℕ) (xs : List X) (x : X) → numbered n xs ≡ Some x → (0 < n) × (n ≤ length xs)
  numbered_within zero xs x e = absurd (cc)
  numbered_within (suc i) xs x e = let h = get_within xs i x e in (omega arith, omega arith)

  -- what a rewriting leaves: where there is something with that number, its place alone changes
  pub rewritten_some : (f : X → X) (n : ℕ) (xs : List X) (x : X) → numbered n xs ≡ Some x
      → rewritten f n xs ≡ slice_set xs (n - 1) (f x)
  rewritten_some f n xs x e = ap (λ o. option_map_or (λ y. slice_set xs (n - 1) (f y)) o xs) e

  pub length-rewritten : (f : X → X) (n : ℕ) (xs : List X) → length (rewritten f n xs) ≡ length xs
  length-rewritten f n xs = by (numbered n xs)
    where
      by : (o : Option X) → length (option_map_or (λ y. slice_set xs (n - 1) (f y)) o xs) ≡ length xs
      by None = refl
      by (Some x) = length-set xs (n - 1) (f x)

-- an element seen through a function
pub numbered-map : {X Y : Type 0} (f : X → Y) (n : ℕ) (xs : List X) → numbered n (map f xs) ≡ option_map f (numbered n xs)
numbered-map f zero xs = refl
numbered-map {X} {Y} f (suc i) xs = at xs i
  where
    at : (xs : List X) (i : ℕ) → slice_get (map f xs) i ≡ option_map f (slice_get xs i)
    at [] i = refl
    at (x ∷ xs) zero = refl
    at (x ∷ xs) (suc i) = at xs i

-- Members of a list by their numbers, which count from 1.
use Rattle.server_desk.proofs.Words.{map, ℕ, suc, ◌≡◌, ◌⊎◌, ◌+◌, ◌-◌, List, [], ◌∷◌, ◌++◌, length, slice_get, Some, subst, arith}
use Rattle.server_desk.proofs.Words.{map-set, numbered, rewritten}
use Rattle.server_desk.proofs.Places.{map_set, get_set_same, get_set_cases, get_append, get_append_cases, get_next, get_set_after}
pub use Rattle.uplink_gather.proofs.NumberedLemmas.{length-rewritten, numbered-map, rewritten_some as rewritten-found}

module _ {X : Type 0} where
  -- what has a number stands one place before it
  pub at_number : (n : ℕ) (xs : List X) (x : X) → numbered n xs ≡ Some x → slice_get xs (n - 1) ≡ Some x
  at_number n xs x e = grind arith

  -- what is written at a number is found there
  pub numbered-here : (f : X → X) (n : ℕ) (xs : List X) (x : X) → numbered n xs ≡ Some x
      → numbered n (rewritten f n xs) ≡ Some (f x)
  numbered-here f n xs x e = grind (arith, get_set_same xs)

  -- a list that goes on keeps its numbers, and what follows has the next
  pub numbered-append : (n : ℕ) (xs ys : List X) (x : X) → numbered n xs ≡ Some x → numbered n (xs ++ ys) ≡ Some x
  numbered-append n xs ys x e = grind (arith, get_append xs)

  pub numbered-append_cases : (n : ℕ) (xs : List X) (y z : X) → numbered n (xs ++ y ∷ []) ≡ Some z
      → (numbered n xs ≡ Some z) ⊎ ((n ≡ length xs + 1) × (z ≡ y))
  numbered-append_cases n xs y z e = grind (arith, get_append_cases xs y z)

  pub numbered_next : (xs : List X) (y : X) → numbered (length xs + 1) (xs ++ y ∷ []) ≡ Some y
  numbered_next xs y =
      let e : suc (length xs) ≡ length xs + 1 = omega arith in
      subst (λ n. numbered n (xs ++ y ∷ []) ≡ Some y) e (get_next xs y)

  -- a member of the list before, or after, a number was written anew
  pub numbered_after : (f : X → X) (n m : ℕ) (xs : List X) (z : X) → numbered m xs ≡ Some z
      → ((n ≡ m) × (numbered m (rewritten f n xs) ≡ Some (f z))) ⊎ (numbered m (rewritten f n xs) ≡ Some z)
  numbered_after f n m xs z e = grind (arith, get_set_after xs)

  pub numbered_cases : (f : X → X) (n m : ℕ) (xs : List X) (z : X) → numbered m (rewritten f n xs) ≡ Some z
      → ((x : X) × (n ≡ m) × (numbered n xs ≡ Some x) × (z ≡ f x)) ⊎ (numbered m xs ≡ Some z)
  numbered_cases f n m xs z e = grind (arith, get_set_cases xs)

module _ {X Y : Type 0} (f : X → Y) where
  -- a member that is written anew is written anew on the list of what the members look like
  pub map-rewritten : (g : X → X) (h : Y → Y) → ((x : X) → f (g x) ≡ h (f x)) → (n : ℕ) (xs : List X)
      → map f (rewritten g n xs) ≡ rewritten h n (map f xs)
  map-rewritten g h s n xs = grind (arith, numbered-map f, map-set f xs, s)

  -- where what is written anew looks the same, the list does
  pub same_rewritten : (g : X → X) (n : ℕ) (xs : List X) (x : X) → numbered n xs ≡ Some x → f (g x) ≡ f x
      → map f (rewritten g n xs) ≡ map f xs
  same_rewritten g n xs x e s = rw e (map_set f xs (n - 1) x (g x) (at_number n xs x e) s)

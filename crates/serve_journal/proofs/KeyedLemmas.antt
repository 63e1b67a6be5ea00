use Rattle.std.proofs.Common.{◌≡◌, zero, suc, Bool, true, false, List, [], ◌∷◌, ◌++◌, map, All, AllPairs}
use Rattle.std.proofs.Common.{Option, Some, None, refl, ap, ◌∙◌, arith}
use Rattle.std.specs.Prelude.{◌||◌}
use Rattle.std.specs.List.{list_any, flat_map}
use Rattle.std.specs.Option.{option_map}
use Rattle.std.proofs.lemmas.List.Elements.{All-append, All-head, All-map, All-nil, All-tail}
use Rattle.std.proofs.lemmas.List.Folds.{list_any_none}
use Rattle.serve_journal.specs.Journal.{changed}

-- A member of a list, between those before it and those behind it.

or_false : (s t : Bool) → (s || t) ≡ false → (s ≡ false) × (t ≡ false)
or_false true t e = absurd (cc)
or_false false t e = (refl, e)

module _ {X : Type 0} where
  -- what holds of all holds of it
  pub all_between : (P : X → Type 0) (before : List X) (x : X) (after : List X) → All P (before ++ x ∷ after) → P x
  all_between P [] x after all = All-head P x after all
  all_between P (y ∷ before) x after all = all_between P before x after (All-tail P y (before ++ x ∷ after) all)

  pairs_head : (R : X → X → Type 0) (x : X) (xs : List X) → AllPairs R (x ∷ xs) → All (R x) xs
  pairs_head R x xs pairs k d h = pairs zero (suc k) d (omega arith) (omega arith)

  pairs_tail : (R : X → X → Type 0) (x : X) (xs : List X) → AllPairs R (x ∷ xs) → AllPairs R xs
  pairs_tail R x xs pairs i j d h g = pairs (suc i) (suc j) d (omega arith) (omega arith)

  prepended : (P : X → Type 0) (x : X) (xs : List X) → P x → All P xs → All P (x ∷ xs)
  prepended P x xs p all zero d h = p
  prepended P x xs p all (suc k) d h = all k d (omega arith)

  -- what holds of all pairs holds of each member before it and it
  pub pairs_between : (R : X → X → Type 0) (before : List X) (x : X) (after : List X) → AllPairs R (before ++ x ∷ after)
      → All (λ y. R y x) before
  pairs_between R [] x after pairs = All-nil (λ y. R y x)
  pairs_between R (y ∷ before) x after pairs =
      prepended (λ z. R z x) y before (all_between (R y) before x after (pairs_head R y (before ++ x ∷ after) pairs))
      (pairs_between R before x after (pairs_tail R y (before ++ x ∷ after) pairs))

  pub map_twice : {Y Z : Type 0} (f : X → Y) (g : Y → Z) (o : Option X) → option_map g (option_map f o) ≡ option_map (λ x. g (f x)) o
  map_twice f g None = refl
  map_twice f g (Some x) = refl

  -- the first that passes is changed
  pub changed_between : (test : X → Bool) (change : X → Option X) (before : List X) (x : X) (after : List X)
      → list_any test before ≡ false → test x ≡ true
      → changed test change (before ++ x ∷ after) ≡ option_map (λ y. before ++ y ∷ after) (change x)
  changed_between test change [] x after none e = rw e refl
  changed_between test change (y ∷ before) x after none e =
      let parts = or_false (test y) (list_any test before) none in
      rw parts.0 (ap (option_map (λ ys. y ∷ ys)) (changed_between test change before x after parts.1 e)
      ∙ map_twice (λ z. before ++ z ∷ after) (λ ys. y ∷ ys) (change x))

-- where none of a list passes, none of its images does
pub none_of_images : {M X : Type 0} (test : X → Bool) (f : M → X) (ms : List M) → All (λ m. test (f m) ≡ false) ms
    → list_any test (map f ms) ≡ false
none_of_images test f ms none = list_any_none test (map f ms) (All-map (λ x. test x ≡ false) f ms none)

-- what holds of all parts holds of the whole
pub all_flat_map : {M X : Type 0} (P : X → Type 0) (f : M → List X) (ms : List M) → All (λ m. All P (f m)) ms → All P (flat_map f ms)
all_flat_map P f [] all = All-nil P
all_flat_map P f (m ∷ ms) all =
    All-append P (f m) (flat_map f ms) (All-head (λ n. All P (f n)) m ms all)
    (all_flat_map P f ms (All-tail (λ n. All P (f n)) m ms all))

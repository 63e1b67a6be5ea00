use Rattle.std.proofs.Common.{◌≡◌, Bool, true, false, List, [], ◌∷◌, length, All, AllPairs, Contains, IsPermutation, cond, arith}
use Rattle.std.proofs.Common.{zero, suc}
use Rattle.std.proofs.lemmas.List.Sorted.{IsPermutation-refl, IsPermutation-cons, IsPermutation-trans, IsPermutation-sym}
use Rattle.std.proofs.lemmas.List.Sorted.{IsPermutation-insert, All-permutation, Contains-permutation, length_permutation}
use Rattle.uplink_gather.specs.declared.heard.HeardCopy.{HeardCopy}
use Rattle.rx_windows.specs.Rank.{is_before, placed, ranked}

-- Copies by rank are the same copies.

-- Lists in which each member is before all later ones.

module _ {X : Type 0} (R : X → X → Type 0) where
  pub AllPairs-head : (x : X) (xs : List X) → AllPairs R (x ∷ xs) → All (R x) xs
  AllPairs-head x xs h k d l = h zero (suc k) d (omega arith) (omega arith)

  pub AllPairs-tail : (x : X) (xs : List X) → AllPairs R (x ∷ xs) → AllPairs R xs
  AllPairs-tail x xs h i j d l g = h (suc i) (suc j) d (omega arith) (omega arith)

-- Sorting by insertion.

placed_by : (c e : HeardCopy) (es : List HeardCopy) (t : Bool) → IsPermutation (c ∷ es) (placed c es)
    → IsPermutation (c ∷ e ∷ es) (cond t (c ∷ e ∷ es) (e ∷ placed c es))
placed_by c e es true p = IsPermutation-refl (c ∷ e ∷ es)
placed_by c e es false p =
    IsPermutation-trans (c ∷ e ∷ es) (e ∷ c ∷ es) (e ∷ placed c es) (IsPermutation-insert (e ∷ es) 1 c)
    (IsPermutation-cons e (c ∷ es) (placed c es) p)

pub placed-permutation : (c : HeardCopy) (es : List HeardCopy) → IsPermutation (c ∷ es) (placed c es)
placed-permutation c [] = IsPermutation-refl (c ∷ [])
placed-permutation c (e ∷ es) = placed_by c e es (is_before c e) (placed-permutation c es)

-- the copies by rank are the same copies
pub ranked-permutation : (copies : List HeardCopy) → IsPermutation copies (ranked copies)
unfolding ranked
ranked-permutation [] = IsPermutation-refl []
ranked-permutation (c ∷ cs) =
    IsPermutation-trans (c ∷ cs) (c ∷ ranked cs) (placed c (ranked cs))
    (IsPermutation-cons c cs (ranked cs) (ranked-permutation cs)) (placed-permutation c (ranked cs))

pub length-ranked : (copies : List HeardCopy) → length (ranked copies) ≡ length copies
length-ranked copies = length_permutation copies (ranked copies) (ranked-permutation copies)

pub Contains-ranked : (copies : List HeardCopy) (c : HeardCopy) → Contains (ranked copies) c → Contains copies c
Contains-ranked copies c h = Contains-permutation (ranked copies) copies c
    (IsPermutation-sym copies (ranked copies) (ranked-permutation copies)) h

pub All-ranked : (P : HeardCopy → Type 0) (copies : List HeardCopy) → All P copies → All P (ranked copies)
All-ranked P copies h = All-permutation P copies (ranked copies) (ranked-permutation copies) h

-- Members that are written anew one after another.
use Rattle.std.proofs.Common.{◌≡◌, ◌++◌, ◌+◌, ◌<◌, List, [], ◌∷◌, ℕ, zero, suc, ap, arith, drop, get_or, length, map, slice_set, take, ◌∙◌}

set_here : {X : Type 0} (f : X → X) (xs : List X) (i : ℕ) (x : X) → i < length xs
    → x ≡ get_or (map f (take i xs) ++ drop i xs) i x
    → slice_set (map f (take i xs) ++ drop i xs) i (f x) ≡ map f (take (suc i) xs) ++ drop (suc i) xs
set_here f [] i x within e = absurd (omega (arith, within))
set_here f (y ∷ xs) zero x within e = ap (λ z. f z ∷ xs) e
set_here f (y ∷ xs) (suc i) x within e = ap (λ l. f y ∷ l) (set_here f xs i x (omega (arith, within)) e)

pub set_next : {X : Type 0} (f : X → X) (xs now : List X) (i : ℕ) (x y : X) → i < length xs
    → now ≡ map f (take i xs) ++ drop i xs → x ≡ get_or now i x → y ≡ f x
    → slice_set now i y ≡ map f (take (i + 1) xs) ++ drop (i + 1) xs
set_next f xs now i x y within so_far is made =
    let next : suc i ≡ i + 1 = omega arith in
    ap (slice_set now i) made
    ∙ ap (λ l. slice_set l i (f x)) so_far
    ∙ set_here f xs i x within (is ∙ ap (λ l. get_or l i x) so_far)
    ∙ ap (λ j. map f (take j xs) ++ drop j xs) next

use Rattle.std.proofs.Common.{arith, ℕ, suc, ◌≡◌, ◌+◌, ◌<◌, List, [], ◌∷◌, ◌++◌, length, drop, get_or, map, ap, sym, subst, ◌∙◌}
use Rattle.std.proofs.Math.Seq.{drop-cons, drop-length}
use Rattle.std.proofs.lemmas.List.{append_assoc, append-nil, map-append}

-- what was read and one item more, with the rest behind it
pub read_more : {X E Y : Type 0} (f : X → Y) (g : E → Y) (xs : List X) (k : ℕ) (d : X) (es : List E) (e : E) → k < length xs
    → g e ≡ f (get_or xs k d) → map g es ++ map f (drop k xs) ≡ map f xs → map g (es ++ e ∷ []) ++ map f (drop (k + 1) xs) ≡ map f xs
read_more f g xs k d es e inside same so_far =
    let next : suc k ≡ k + 1 = omega arith in
    subst (λ j. map g (es ++ e ∷ []) ++ map f (drop j xs) ≡ map f xs) next
    (ap (λ l. l ++ map f (drop (suc k) xs)) (map-append g es (e ∷ []))
    ∙ append_assoc (map g es) (g e ∷ []) (map f (drop (suc k) xs))
    ∙ ap (λ y. map g es ++ y ∷ map f (drop (suc k) xs)) same
    ∙ ap (λ l. map g es ++ map f l) (sym (drop-cons xs k d inside))
    ∙ so_far)

-- all was read
pub read_whole : {X E Y : Type 0} (f : X → Y) (g : E → Y) (xs : List X) (k : ℕ) (es : List E) → k ≡ length xs
    → map g es ++ map f (drop k xs) ≡ map f xs → map g es ≡ map f xs
read_whole {X} {E} {Y} f g xs k es ended so_far =
    let none : drop k xs ≡ [] = ap (λ j. drop j xs) ended ∙ drop-length xs in
    sym (append-nil (map g es)) ∙ ap (λ l. map g es ++ map f l) (sym none) ∙ so_far

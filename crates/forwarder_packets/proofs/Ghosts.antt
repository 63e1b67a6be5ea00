use Rattle.std.proofs.Common.{arith, ℕ, zero, suc, ◌≡◌, ◌+◌, ◌<◌, Bool, false, take, slice_set, List, [], ◌∷◌, ◌++◌, length, drop, get_or, map, ap, sym, subst, refl, ◌∙◌}
use Rattle.std.proofs.Math.ListN.{get_or-map}
use Rattle.std.proofs.Math.Seq.{drop-cons, drop-length}
use Rattle.std.proofs.lemmas.List.{append_assoc, append-nil, map-set, length-map}
use Rattle.forwarder_packets.specs.Entries.{Read, is_ghost, ghosts, unless_ghost, unless_ghosts}

-- Which entries are ghosts, told one after another.

pub ghost_more : {X : Type 0} (f : X → Read) (xs : List X) (k : ℕ) (d : X) (found : List Bool) (g : Bool) → k < length xs
    → g ≡ is_ghost (map f xs) k (f (get_or xs k d))
    → found ++ ghosts (map f xs) k (map f (drop k xs)) ≡ ghosts (map f xs) 0 (map f xs)
    → (found ++ g ∷ []) ++ ghosts (map f xs) (k + 1) (map f (drop (k + 1) xs)) ≡ ghosts (map f xs) 0 (map f xs)
ghost_more f xs k d found g inside same so_far =
    let next : suc k ≡ k + 1 = omega arith in
    subst (λ j. (found ++ g ∷ []) ++ ghosts (map f xs) (k + 1) (map f (drop j xs)) ≡ ghosts (map f xs) 0 (map f xs)) next
    (append_assoc found (g ∷ []) (ghosts (map f xs) (k + 1) (map f (drop (suc k) xs)))
    ∙ ap (λ b. found ++ b ∷ ghosts (map f xs) (k + 1) (map f (drop (suc k) xs))) same
    ∙ ap (λ l. found ++ ghosts (map f xs) k (map f l)) (sym (drop-cons xs k d inside))
    ∙ so_far)

pub ghosts_told : {X : Type 0} (f : X → Read) (xs : List X) (k : ℕ) (found : List Bool) → k ≡ length xs
    → found ++ ghosts (map f xs) k (map f (drop k xs)) ≡ ghosts (map f xs) 0 (map f xs) → found ≡ ghosts (map f xs) 0 (map f xs)
ghosts_told f xs k found ended so_far =
    sym (append-nil found)
    ∙ ap (λ l. found ++ ghosts (map f xs) k (map f l)) (sym (ap (λ j. drop j xs) ended ∙ drop-length xs))
    ∙ so_far

-- What stands in the list once the first k of its entries were looked at, and then one more.

pub ghost_looked_at : (gs : List Bool) (rs : List Read) (k : ℕ) (g : Bool) (d : Read) → k < length gs → k < length rs
    → slice_set (unless_ghosts (take k gs) rs) k (unless_ghost (get_or gs k g) (get_or (unless_ghosts (take k gs) rs) k d))
    ≡ unless_ghosts (take (suc k) gs) rs
ghost_looked_at [] rs k g d inside there = absurd (omega (arith, inside))
ghost_looked_at (b ∷ gs) [] k g d inside there = absurd (omega (arith, there))
ghost_looked_at (b ∷ gs) (r ∷ rs) zero g d inside there = refl
ghost_looked_at (b ∷ gs) (r ∷ rs) (suc k) g d inside there =
    ap (λ l. unless_ghost b r ∷ l) (ghost_looked_at gs rs k g d (omega (arith, inside)) (omega (arith, there)))

-- the same of the entries themselves
pub looked_at : {X : Type 0} (f : X → Read) (gs : List Bool) (es start : List X) (k : ℕ) (x d : X) → k < length gs → k < length start
    → map f es ≡ unless_ghosts (take k gs) (map f start) → f x ≡ unless_ghost (get_or gs k false) (f (get_or es k d))
    → map f (slice_set es k x) ≡ unless_ghosts (take (k + 1) gs) (map f start)
looked_at f gs es start k x d inside there so_far told =
    let g = get_or gs k false in
    let rs = map f start in
    let next : suc k ≡ k + 1 = omega arith in
    let still : k < length rs = omega (arith, there, length-map start f) in
    map-set f es k x
    ∙ ap (λ y. slice_set (map f es) k y) (told ∙ ap (unless_ghost g) (sym (get_or-map f es k d)))
    ∙ ap (λ now. slice_set now k (unless_ghost g (get_or now k (f d)))) so_far
    ∙ ghost_looked_at gs rs k false (f d) inside still
    ∙ ap (λ j. unless_ghosts (take j gs) rs) next

-- there is one answer for each
pub length-ghosts : (all : List Read) (k : ℕ) (rs : List Read) → length (ghosts all k rs) ≡ length rs
length-ghosts all k [] = refl
length-ghosts all k (r ∷ rs) = ap suc (length-ghosts all (k + 1) rs)

pub as_many : {X : Type 0} (f : X → Read) (xs : List X) (found : List Bool) → found ≡ ghosts (map f xs) 0 (map f xs)
    → length found ≡ length xs
as_many f xs found told = ap length told ∙ length-ghosts (map f xs) 0 (map f xs) ∙ length-map xs f

-- Lists, one element after another.
use Rattle.std.proofs.Common.{◌≡◌, ◌++◌, ◌<◌, ◌+◌, ◌∙◌, List, [], ◌∷◌, ℕ, ap, append_assoc, arith, get_or, length, map, refl, sym, take, zip, slice_set}
use Rattle.std.specs.List.{flat_map}
use Rattle.std.proofs.lemmas.List.{map-append, take_more, flat_map_more, take_more_set, length-take-le}
use Rattle.text_lines.specs.Line.{text_of, text_of-append}

-- of one element more, of which something is told or asked for
pub flat_next : {X Y Z : Type 0} (f : Y → List Z) (g : X → Y) (xs : List X) (i : ℕ) (x : X) → i < length xs
    → flat_map f (map g (take (i + 1) xs)) ≡ flat_map f (map g (take i xs)) ++ f (g (get_or xs i x))
flat_next f g xs i x within =
    ap (λ l. flat_map f (map g l)) (take_more xs i x within)
    ∙ ap (flat_map f) (map-append g (take i xs) (get_or xs i x ∷ []))
    ∙ sym (flat_map_more f [] (map g (take i xs)) (g (get_or xs i x)))

pub flat_added : {X Y Z : Type 0} (f : Y → List Z) (g : X → Y) (now after : List Z) (xs : List X) (i : ℕ) (x : X) → i < length xs
    → now ≡ flat_map f (map g (take i xs)) → after ≡ now ++ f (g (get_or xs i x)) → after ≡ flat_map f (map g (take (i + 1) xs))
flat_added f g now after xs i x within so_far next =
    next ∙ ap (λ l. l ++ f (g (get_or xs i x))) so_far ∙ sym (flat_next f g xs i x within)

-- the same where the lines of each are added to a text
pub told_next : (before now after : List ℕ) (first more : List (List ℕ)) → now ≡ before ++ text_of first
    → after ≡ now ++ text_of more → after ≡ before ++ text_of (first ++ more)
told_next before now after first more so_far next =
    next
    ∙ ap (λ l. l ++ text_of more) so_far
    ∙ append_assoc before (text_of first) (text_of more)
    ∙ ap (λ l. before ++ l) (sym (text_of-append first more))

-- pairs

zip-append : {X Y : Type 0} (xs : List X) (ys : List Y) (x : X) (y : Y) → length xs ≡ length ys
    → zip (xs ++ x ∷ []) (ys ++ y ∷ []) ≡ zip xs ys ++ (x, y) ∷ []
zip-append [] [] x y same = refl
zip-append [] (v ∷ ys) x y same = absurd (cc (same))
zip-append (u ∷ xs) [] x y same = absurd (cc (same))
zip-append (u ∷ xs) (v ∷ ys) x y same = ap (λ l. (u, v) ∷ l) (zip-append xs ys x y (omega (arith, same)))

pub zip_next : {X Y : Type 0} (xs : List X) (ys : List Y) (i : ℕ) (x : X) (y : Y) → i < length xs → length ys ≡ length xs
    → zip (take (i + 1) xs) (take (i + 1) ys) ≡ zip (take i xs) (take i ys) ++ (get_or xs i x, get_or ys i y) ∷ []
zip_next xs ys i x y within same =
    ap (λ l. zip l (take (i + 1) ys)) (take_more xs i x within)
    ∙ ap (λ l. zip (take i xs ++ get_or xs i x ∷ []) l) (take_more ys i y (omega (arith, within, same)))
    ∙ zip-append (take i xs) (take i ys) (get_or xs i x) (get_or ys i y)
    (length-take-le i xs (omega (arith, within)) ∙ sym (length-take-le i ys (omega (arith, within, same))))

-- the one at a place was written
pub zip_set : {X Y : Type 0} (xs : List X) (ys : List Y) (i : ℕ) (x : X) (y : Y) → i < length xs → length ys ≡ length xs
    → zip (take (i + 1) xs) (take (i + 1) (slice_set ys i y)) ≡ zip (take i xs) (take i ys) ++ (get_or xs i x, y) ∷ []
zip_set xs ys i x y within same =
    ap (λ l. zip l (take (i + 1) (slice_set ys i y))) (take_more xs i x within)
    ∙ ap (λ l. zip (take i xs ++ get_or xs i x ∷ []) l) (take_more_set ys i y (omega (arith, within, same)))
    ∙ zip-append (take i xs) (take i ys) (get_or xs i x) y
    (length-take-le i xs (omega (arith, within)) ∙ sym (length-take-le i ys (omega (arith, within, same))))

-- lines of one more

pub flat_told : {X Y : Type 0} (f : Y → List (List ℕ)) (g : X → Y) (before now after : List ℕ) (xs : List X) (i : ℕ) (x : X)
    → i < length xs → now ≡ before ++ text_of (flat_map f (map g (take i xs)))
    → after ≡ now ++ text_of (f (g (get_or xs i x))) → after ≡ before ++ text_of (flat_map f (map g (take (i + 1) xs)))
flat_told f g before now after xs i x within so_far next =
    told_next before now after (flat_map f (map g (take i xs))) (f (g (get_or xs i x))) so_far next
    ∙ ap (λ l. before ++ text_of l) (sym (flat_next f g xs i x within))

pub map_told : {X : Type 0} (f : X → List ℕ) (before now after : List ℕ) (xs : List X) (i : ℕ) (x : X) → i < length xs
    → x ≡ get_or xs i x → now ≡ before ++ text_of (map f (take i xs)) → after ≡ now ++ text_of (f x ∷ [])
    → after ≡ before ++ text_of (map f (take (i + 1) xs))
map_told f before now after xs i x within is so_far next =
    told_next before now after (map f (take i xs)) (f x ∷ []) so_far next
    ∙ ap (λ l. before ++ text_of l)
    (sym (map-append f (take i xs) (x ∷ []))
    ∙ ap (map f) (sym (take_more xs i x within ∙ ap (λ y. take i xs ++ y ∷ []) (sym is))))

-- of one pair more
pub pairs_told : {X Y : Type 0} (f : X × Y → List (List ℕ)) (before now after : List ℕ) (xs : List X) (ys : List Y) (i : ℕ) (x : X) (y : Y)
    → i < length xs → length ys ≡ length xs → x ≡ get_or xs i x
    → now ≡ before ++ text_of (flat_map f (zip (take i xs) (take i ys)))
    → after ≡ now ++ text_of (f (x, get_or ys i y))
    → after ≡ before ++ text_of (flat_map f (zip (take (i + 1) xs) (take (i + 1) ys)))
pairs_told f before now after xs ys i x y within same is so_far next =
    told_next before now after (flat_map f (zip (take i xs) (take i ys))) (f (get_or xs i x, get_or ys i y)) so_far
    (next ∙ ap (λ v. now ++ text_of (f (v, get_or ys i y))) is)
    ∙ ap (λ l. before ++ text_of l)
    (flat_map_more f [] (zip (take i xs) (take i ys)) (get_or xs i x, get_or ys i y)
    ∙ ap (flat_map f) (sym (zip_next xs ys i x y within same)))

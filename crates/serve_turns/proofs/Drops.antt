-- Lines of what was dropped, one after another.
use Rattle.std.proofs.Common.{◌≡◌, ◌++◌, ◌<◌, ◌+◌, ◌∙◌, List, [], ◌∷◌, ℕ, ap, append_assoc, get_or, length, map, sym, take}
use Rattle.std.proofs.lemmas.List.{map-append, take_more}
use Rattle.text_lines.specs.Line.{text_of, text_of-append}
use Rattle.serve_turns.specs.Tallies.{Count}
use Rattle.serve_turns.specs.Lines.{drop_line}

-- the lines of one more
lines_more : (drops : List Count) (i : ℕ) (t : Count) → i < length drops → t ≡ get_or drops i t
    → text_of (map drop_line (take (i + 1) drops)) ≡ text_of (map drop_line (take i drops)) ++ text_of (drop_line t ∷ [])
lines_more drops i t within is =
    ap (λ l. text_of (map drop_line l)) (take_more drops i t within ∙ ap (λ x. take i drops ++ x ∷ []) (sym is))
    ∙ ap text_of (map-append drop_line (take i drops) (t ∷ []))
    ∙ text_of-append (map drop_line (take i drops)) (drop_line t ∷ [])

pub drops_next : (before now after : List ℕ) (drops : List Count) (i : ℕ) (t : Count) → i < length drops → t ≡ get_or drops i t
    → now ≡ before ++ text_of (map drop_line (take i drops)) → after ≡ now ++ text_of (drop_line t ∷ [])
    → after ≡ before ++ text_of (map drop_line (take (i + 1) drops))
drops_next before now after drops i t within is so_far next =
    next
    ∙ ap (λ l. l ++ text_of (drop_line t ∷ [])) so_far
    ∙ append_assoc before (text_of (map drop_line (take i drops))) (text_of (drop_line t ∷ []))
    ∙ ap (λ l. before ++ l) (sym (lines_more drops i t within is))

use Rattle.std.specs.Prelude.{ℕ, ◌==◌, Bool, if◌then◌else◌, List, [], ◌∷◌, codes}
use Rattle.text_lines.specs.Words.{is_named}

-- The lines of a journal, and its batches.

-- the parts of a list that an element of a kind ends, without these; what stands behind the last such element is no part
abbrev pub behind : {X : Type 0} → X → List (List X) → List (List X)
behind x [] = []
behind x (part ∷ parts) = (x ∷ part) ∷ parts

abbrev pub ended : {X : Type 0} → (X → Bool) → List X → List (List X)
ended ends [] = []
ended ends (x ∷ xs) = if ends x then [] ∷ ended ends xs else behind x (ended ends xs)

-- the lines: each has a line feed behind it
abbrev pub lines_of : List ℕ → List (List ℕ)
lines_of bytes = ended (λ byte. byte == 10) bytes

-- a line `.` ends a batch
abbrev pub end_line : List ℕ
end_line = codes "."

abbrev pub is_end : List ℕ → Bool
is_end line = is_named end_line line

-- the batches: the lines of each
abbrev pub batches_of : List (List ℕ) → List (List (List ℕ))
batches_of lines = ended is_end lines

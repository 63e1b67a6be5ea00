-- The words of a line.
use Rattle.std.specs.Prelude.{ℕ, Bool, not, ◌==◌, ◌&&◌, ◌||◌, List, length, filter, nat_lt, nat_eq, slice_index}
use Rattle.std.specs.Cmp.Lexicographic.{pointwise}
use Rattle.std.specs.List.{slice_split, join_with_byte}
use Rattle.text_lines.specs.Line.{is_too_long}

-- a space or a tab: these alone part words
abbrev pub is_blank : ℕ → Bool
is_blank byte = (byte == 32) || (byte == 9)

-- there is a byte in the part
abbrev pub has_bytes : List ℕ → Bool
has_bytes part = nat_lt 0 (length part)

-- the words of a line: the parts between blanks, without the empty ones
abbrev pub words_of : List ℕ → List (List ℕ)
words_of line = filter has_bytes (slice_split is_blank line)

-- the first byte is `#`
abbrev pub is_comment : List ℕ → Bool
is_comment line = slice_index line 0 == 35

-- a line that is not too long, and is a comment or has no word
abbrev pub is_passed_over : List ℕ → Bool
is_passed_over line = not (is_too_long line) && (is_comment line || (length (words_of line) == 0))

-- whether the word is this name
abbrev pub is_named : List ℕ → List ℕ → Bool
is_named name word = pointwise nat_eq word name

-- a line of its words, with a space between two
abbrev pub spaced : List (List ℕ) → List ℕ
spaced words = join_with_byte 32 words

-- The texts of busiest hours, put together line by line.
use Rattle.std.proofs.Common.{◌≡◌, ℕ, List, ◌++◌, append_assoc}
use Rattle.text_lines.specs.Line.{text_of, text_of-append}

-- six texts of lines behind what was there, one after the other
pub text_of-six : (t : List ℕ) (a b c d e f : List (List ℕ))
    → t ++ text_of (a ++ (b ++ (c ++ (d ++ (e ++ f))))) ≡ (((((t ++ text_of a) ++ text_of b) ++ text_of c) ++ text_of d)
    ++ text_of e) ++ text_of f
text_of-six t a b c d e f =
    rw (
      text_of-append a (b ++ (c ++ (d ++ (e ++ f)))),
      text_of-append b (c ++ (d ++ (e ++ f))),
      text_of-append c (d ++ (e ++ f)),
      text_of-append d (e ++ f),
      text_of-append e f,
    )
    (simp append_assoc)

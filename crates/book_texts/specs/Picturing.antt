use Rattle.std.specs.Prelude.{ℕ, List, [], Option, Some, None, Ok, Err, ⊤}
use Rattle.std.specs.Io.KnownBytes.{Appends}
use Rattle.text_lines.specs.Writing.{WritesFront}
use Rattle.gateway_book.specs.Loading.{Loaded, loaded}
use Rattle.gateway_book.specs.Saved.{opened_again}
use Rattle.book_picture.specs.Lines.{picture_text}

-- The picture of a saved book.

-- what is written for what the bytes say: the picture of the book that is opened again, and nothing where they say none
abbrev pub drawn : Option ℕ → Loaded → List ℕ
drawn from (Ok (s, rest)) = picture_text (opened_again s) from
drawn from (Err fault) = []

-- the writer took all of it
abbrev pub DrawsWhole : Option ℕ → Option (List ℕ) → Option (List ℕ) → Option (List ℕ) → Type 0
DrawsWhole from None before after = ⊤
DrawsWhole from (Some bytes) before after = Appends before after (drawn from (loaded bytes))

-- the writer took a front of it
abbrev pub DrawsFront : Option ℕ → Option (List ℕ) → Option (List ℕ) → Option (List ℕ) → Type 0
DrawsFront from None before after = ⊤
DrawsFront from (Some bytes) before after = WritesFront before after (drawn from (loaded bytes))

use Rattle.std.specs.Prelude.{◌≡◌, ℕ, List, Option, Result, Ok, Err}
use Rattle.text_lines.specs.Calls.{next_count}
use Rattle.text_lines.specs.Writing.{WritesAllBut, WritesFront}

-- What a call does that puts a text behind what is gathered for a writer.

-- on Ok the writer took all of it but what is still gathered, and no call of it failed; on Err it took a front, and one call failed
abbrev pub PutsAll : {T E : Type 0} → Option (List ℕ) → Option (List ℕ) → ℕ → ℕ → List ℕ → List ℕ → Result T E → Type 0
PutsAll before after failed_before failed_after whole gathered (Ok done) =
    WritesAllBut before after whole gathered × (failed_after ≡ failed_before)
PutsAll before after failed_before failed_after whole gathered (Err fault) =
    WritesFront before after whole × (failed_after ≡ next_count failed_before)

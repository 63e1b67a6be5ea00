use Rattle.std.specs.Prelude.{ℕ, List, Option, Result, OnOk, OnErr}
use Rattle.text_lines.specs.Calls.{CountsFailure}
use Rattle.text_lines.specs.Writing.{WritesAllBut, WritesFront}

-- What a call does that puts a text behind what is gathered for a writer.

-- on Ok the writer took all of it but what is still gathered; on Err it took a front of it, and just then a call of it failed
pub record Puts {T E : Type 0} (before after : Option (List ℕ)) (failed_before failed_after : ℕ) (whole gathered : List ℕ)
    (result : Result T E) : Type 0 where
  pub ok : OnOk result (WritesAllBut before after whole gathered)
  pub err : OnErr result (WritesFront before after whole)
  pub failed : CountsFailure failed_before failed_after result

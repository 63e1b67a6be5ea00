-- What the promise of a picture tells, of every book and every writer that tells its bytes.
use Rattle.std.proofs.Common.{◌≡◌, ℕ, List, [], ◌++◌, Option, Some, refl}
use Rattle.gateway_book.specs.Loading.{loaded}
use Rattle.book_texts.specs.Picturing.{drawn, DrawsFront, DrawsWhole}

module _ (from : Option ℕ) (bytes before after : List ℕ) where
  -- all of the picture, behind what was there
  pub picture_is_written : DrawsWhole from (Some bytes) (Some before) (Some after) → after ≡ before ++ drawn from (loaded bytes)
  picture_is_written wrote = wrote

  -- a front of it, and what is left
  pub front_of_a_picture_is_written : DrawsFront from (Some bytes) (Some before) (Some after)
      → (rest : List ℕ) × (before ++ drawn from (loaded bytes) ≡ after ++ rest)
  front_of_a_picture_is_written wrote = (wrote.0, wrote.1.0)

-- of no bytes nothing
pub no_picture_of_nothing : (from : Option ℕ) → drawn from (loaded []) ≡ []
no_picture_of_nothing from = refl

-- The picture of a saved book, from what its text says.
use Rattle.std.proofs.Common.{◌≡◌, ℕ, List, Option, None, Some, Ok, sym, ap, ◌∙◌, subst}
use Rattle.std.specs.Io.KnownBytes.{Appends}
use Rattle.text_lines.specs.Writing.{WritesFront, WritesAllBut-refl}
use Rattle.gateway_book.specs.Book.{Book}
use Rattle.gateway_book.specs.Loading.{loaded, Loads}
use Rattle.gateway_book.specs.Saved.{saved_of, opened_again}
use Rattle.book_picture.specs.Lines.{picture_text}
use Rattle.book_texts.specs.Picturing.{drawn, DrawsFront, DrawsWhole}

-- nothing is a front of every picture
pub Draws-nothing : (from : Option ℕ) (left before : Option (List ℕ)) → DrawsFront from left before before
Draws-nothing from None before = tt
Draws-nothing from (Some bytes) before = (drawn from (loaded bytes), WritesAllBut-refl before (drawn from (loaded bytes)))

module _ (from : Option ℕ) (b : Book) (opened : b ≡ opened_again (saved_of b)) (behind before after : Option (List ℕ)) where
  said : (bytes : List ℕ) → Loads (Some bytes) behind (Ok b) → picture_text b from ≡ drawn from (loaded bytes)
  said bytes loads = ap (λ (x : Book). picture_text x from) opened ∙ sym (ap (drawn from) loads.2)

  pub Draws-loaded : (left : Option (List ℕ)) → Loads left behind (Ok b) → Appends before after (picture_text b from)
      → DrawsWhole from left before after
  Draws-loaded None loads wrote = tt
  Draws-loaded (Some bytes) loads wrote = subst (λ (l : List ℕ). Appends before after l) (said bytes loads) wrote

  pub Draws-part : (left : Option (List ℕ)) → Loads left behind (Ok b) → WritesFront before after (picture_text b from)
      → DrawsFront from left before after
  Draws-part None loads wrote = tt
  Draws-part (Some bytes) loads wrote = subst (λ (l : List ℕ). WritesFront before after l) (said bytes loads) wrote

use Rattle.std.proofs.Common.{Option, Some, sym, subst}
use Rattle.gateway_book.specs.Book.{Book}
use Rattle.book_texts.specs.Trying.{IsTriedOn}
use Rattle.book_texts.proofs.TryingLemmas.{tried-answered}
use Rattle.book_texts.proofs.planning.try_ask.Goals as goal

pub returns-in-Ok : goal.returns-in-Ok
returns-in-Ok g c =
    let P : Option Book → Type 0 =
    λ o. IsTriedOn o (Some c.answer_to.new.book) c.args.ask c.told-in-Ok.result in
    subst P (sym c.in-Some.is) (rw c.told-in-Ok.ensures (tried-answered c.in-Some.book c.answer_to.new.book c.args.ask
    c.in-Ok.answer c.in-Ok.ensures.answer c.in-Ok.ensures.step c.answer_to.ensures.rules))

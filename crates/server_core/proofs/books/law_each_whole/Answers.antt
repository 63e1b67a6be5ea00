use Rattle.std.proofs.Common.{take}
use Rattle.std.proofs.lemmas.{List.take_all, List.take_more, List.Elements.All-push}
use Rattle.server_core.proofs.Words.{ap, subst, sym, ◌∙◌, ◌++◌, ◌∷◌, [], All, IsWhole}
use Rattle.server_core.proofs.books.law_each_whole.Goals as goal

pub loop-book-preserved : goal.loop-book-preserved
loop-book-preserved g c =
    let all = c.args.books.now in
    let place = c.loop-book.book-index in
    let book = c.book-item.result in
    subst (All IsWhole)
    (sym (take_more all place book c.loop-book-test.true ∙ ap (λ b. take place all ++ b ∷ []) (sym c.book-item.is)))
    (All-push IsWhole (take place all) book c.loop-book.invariant c.law_whole.ensures)

pub returns : goal.returns
returns g c =
    subst (All IsWhole) (take_all c.loop-book.book-index c.args.books.now c.loop-book-test.false) c.loop-book.invariant

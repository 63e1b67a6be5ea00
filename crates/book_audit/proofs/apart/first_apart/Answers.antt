use Rattle.book_audit.proofs.AmountLemmas.{in_books, in_others, in_none, all_equal, books_equal, whole_sum}
use Rattle.std.proofs.Common.{sym}
use Rattle.book_audit.proofs.apart.first_apart.Goals as goal

pub returns-in-Some-clause-first : goal.returns-in-Some-clause-first
returns-in-Some-clause-first g c = in_books c.args.desk.now c.args.shelf.now _ c.in-Some.ensures

pub returns-in-None-clause-first : goal.returns-in-None-clause-first
returns-in-None-clause-first g c =
    in_others c.args.desk.now c.args.shelf.now _ c.gateways-gateways.ensures.same _ c.in-None.ensures c.without_book.ensures

pub returns-in-None-clause-together : goal.returns-in-None-clause-together
returns-in-None-clause-together g c h =
    all_equal _
    (in_none c.args.desk.now c.args.shelf.now _ c.gateways-gateways.ensures.same _ c.in-None.ensures c.without_book.ensures h)

pub returns-in-None-clause-equal : goal.returns-in-None-clause-equal
returns-in-None-clause-equal g c h = books_equal c.args.desk.now c.args.shelf.now (sym c.in-None.ensures)

pub returns-in-None-clause-sum : goal.returns-in-None-clause-sum
returns-in-None-clause-sum g c h =
    whole_sum c.args.desk.now c.args.shelf.now
    (in_none c.args.desk.now c.args.shelf.now _ c.gateways-gateways.ensures.same _ c.in-None.ensures c.without_book.ensures h)
    c.gateways-gateways.ensures.differ c.gateways-gateways.ensures.whole

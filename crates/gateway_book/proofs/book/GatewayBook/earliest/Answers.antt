use Rattle.std.specs.Prelude.{ℕ, Option}
use Rattle.std.proofs.Common.{◌∙◌, subst, arith}
use Rattle.gateway_book.specs.Book.{terms_of}
use Rattle.gateway_book.specs.Earliest.{at_start, IsNextStart}
use Rattle.gateway_book.proofs.EarliestValue.{found_here, found_nowhere, found_past}
use Rattle.gateway_book.proofs.book.GatewayBook.earliest.Goals as goal

pub returns-in_err-next-clause-value : goal.returns-in_err-next-clause-value
returns-in_err-next-clause-value g c =
    let now = c.args.self.now in
    let start = c.loop-start.start in
    let P : Option ℕ → Type 0 = λ o. IsNextStart (terms_of now) now.list (at_start c.args.ask start) o in
    c.from_residual.ensures ∙ found_nowhere (terms_of now) now.list c.args.ask c.args.not_before c.args.last start
    c.loop-start.invariant.1 c.loop-start.invariant.2 (subst P c.in_err-next.was c.next_start.ensures)

pub returns-then-next-start-clause-value : goal.returns-then-next-start-clause-value
returns-then-next-start-clause-value g c =
    let now = c.args.self.now in
    let start = c.loop-start.start in
    let P : Option ℕ → Type 0 = λ o. IsNextStart (terms_of now) now.list (at_start c.args.ask start) o in
    found_here (terms_of now) now.list c.args.ask c.args.not_before c.args.last start
    c.loop-start.invariant.1 c.loop-start.invariant.2 c.in_ok-next.next (omega (arith, c.loop-start-test.true))
    (subst P c.in_ok-next.was c.next_start.ensures) (omega (arith, c.if-next-start.true))

pub returns-clause-value : goal.returns-clause-value
returns-clause-value g c =
    let now = c.args.self.now in
    found_past (terms_of now) now.list c.args.ask c.args.not_before c.args.last c.loop-start.start
    c.loop-start.invariant.1 c.loop-start.invariant.2 (omega (arith, c.loop-start-test.false))

use Rattle.std.proofs.Common.{◌∙◌, sym, subst, IfOk, IfErr}
use Rattle.std.specs.List.Sorted.{IsStrictlyIncreasing}
use Rattle.server_station.specs.Closings.{IsClosed, IsHandedBack}
use Rattle.server_station.proofs.station.Station.empty_books.Goals as goal

pub compare_books-requires-clause-rising : goal.compare_books-requires-clause-rising
compare_books-requires-clause-rising g c = subst IsStrictlyIncreasing (sym c.take_out.ensures.ids) c.self.invariant

pub returns-clause-closed : goal.returns-clause-closed
returns-clause-closed g c =
    subst (λ ids. IfOk c.compare_books.result (λ closing. IsClosed ids c.args.tills.items c.args.receipts.now closing.booked closing.desk
    closing.totals.items closing.books.items)) (c.take_out.ensures.ids ∙ c.self.view_is) c.compare_books.ensures.closed

pub returns-clause-back : goal.returns-clause-back
returns-clause-back g c =
    subst (λ ids. IfErr c.compare_books.result (λ fault. IsHandedBack ids c.args.tills.items c.args.receipts.now fault.station
    fault.tills.items fault.cause)) (c.take_out.ensures.ids ∙ c.self.view_is) c.compare_books.ensures.back

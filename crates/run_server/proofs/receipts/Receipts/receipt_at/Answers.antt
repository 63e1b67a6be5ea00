use Rattle.std.proofs.Common.{◌≡◌, arith, subst, Some}
use Rattle.std.specs.Prelude.{slice_get}
use Rattle.std.specs.Option.{option_map}
use Rattle.run_server.specs.Booking.{Booking}
use Rattle.run_server.proofs.BookingLemmas.{within_bookings, receipt_there}
use Rattle.run_server.proofs.receipts.Receipts.receipt_at.Goals as goal

pub index-requires : goal.index-requires
index-requires c =
    let receipts = c.self.inside.receipts in
    let within = within_bookings receipts.items c.self.inside.are_cancelled.items c.args.self.now c.args.at
    c.self.invariant.same_length c.self.view_is c.requires in
    omega (arith, receipts.ok.0, within)

pub returns : goal.returns
returns c =
    let receipts = c.self.inside.receipts.items in
    let flags = c.self.inside.are_cancelled.items in
    let same = c.self.invariant.same_length in
    subst (λ l. option_map (λ (b : Booking). b.receipt) (slice_get l c.args.at) ≡ Some c.index.result.now) c.self.view_is
    (receipt_there receipts flags c.args.at c.index.result.now same
    (within_bookings receipts flags c.args.self.now c.args.at same c.self.view_is c.requires) c.index.ensures)

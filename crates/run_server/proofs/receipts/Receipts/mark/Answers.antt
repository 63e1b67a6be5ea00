use Rattle.std.proofs.Common.{arith, subst, true}
use Rattle.std.specs.Prelude.{slice_set}
use Rattle.run_server.specs.Bookings.{bookings_in, IsMarkedAt}
use Rattle.run_server.proofs.BookingLemmas.{within_bookings, bookings-set}
use Rattle.run_server.proofs.receipts.Receipts.mark.Goals as goal

pub index_mut-requires : goal.index_mut-requires
index_mut-requires c =
    let flags = c.self.inside.are_cancelled in
    let within = within_bookings c.self.inside.receipts.items flags.items c.args.self.now c.args.at
    c.self.invariant.same_length c.self.view_is c.requires in
    omega (arith, flags.ok.0, c.self.invariant.same_length, within)

pub returns : goal.returns
returns c =
    let receipts = c.self.inside.receipts.items in
    let flags = c.self.inside.are_cancelled.items in
    let same = c.self.invariant.same_length in
    subst (λ l. IsMarkedAt c.args.at l (bookings_in receipts (slice_set flags c.args.at true))) c.self.view_is
    (bookings-set receipts flags c.args.at same
    (within_bookings receipts flags c.args.self.now c.args.at same c.self.view_is c.requires))

use Rattle.std.proofs.Common.{◌≡◌, ◌++◌, map}
use Rattle.run_server.specs.Bookings.{bookings_in, open_receipts}
use Rattle.run_server.proofs.BookingLemmas.{booking_at}
use Rattle.run_server.proofs.receipts.open_receipts.Given as goal

abbrev pub invariant-loop-receipt : goal.invariant-loop-receipt
invariant-loop-receipt l = record {
  kept : l.kept.items ≡ open_receipts (map booking_at l.yielded);
  left :
      map booking_at l.yielded ++ bookings_in l.receipt-iterator.a.rest.items l.receipt-iterator.b.rest.items
      ≡ bookings_in l.fn.receipts.items l.fn.are_cancelled.items;
}

use Rattle.run_server.proofs.BookingLemmas.{one_more_booked}
use Rattle.run_server.proofs.receipts.Receipts.add_all.Goals as goal

pub loop-receipt-preserved : goal.loop-receipt-preserved
loop-receipt-preserved c =
    one_more_booked c.loop-receipt.yielded c.in-Some.receipt c.args.self.now
    c.loop-receipt.self c.add.new.self c.loop-receipt.invariant c.in_ok-add.ensures

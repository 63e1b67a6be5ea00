use Rattle.run_server.specs.Bookings.{HasMore}
use Rattle.run_server.proofs.receipts.Receipts.add_all.Given as goal

abbrev pub invariant-loop-receipt : goal.invariant-loop-receipt
invariant-loop-receipt l = HasMore l.yielded l.fn.self l.self

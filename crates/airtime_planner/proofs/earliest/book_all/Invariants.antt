use Rattle.std.proofs.Common.{◌≡◌, drop}
use Rattle.gateway_book.specs.Book.{state_of}
use Rattle.airtime_planner.specs.EarliestAfter.{after_asks}
use Rattle.airtime_planner.proofs.earliest.book_all.Given as goal

abbrev pub invariant-loop-ask : goal.invariant-loop-ask
invariant-loop-ask g l =
    (l.book.rules ≡ l.fn.book.rules)
    × (after_asks l.fn.book.rules (state_of l.book) (drop l.ask-index l.asks)
    ≡ after_asks l.fn.book.rules (state_of l.fn.book) l.asks)

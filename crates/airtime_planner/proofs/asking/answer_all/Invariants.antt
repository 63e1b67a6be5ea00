use Rattle.std.proofs.Common.{◌≡◌, drop}
use Rattle.gateway_book.specs.Book.{state_of}
use Rattle.airtime_planner.proofs.Answering.{SoFar}
use Rattle.airtime_planner.proofs.asking.answer_all.Given as goal

abbrev pub invariant-loop-ask : goal.invariant-loop-ask
invariant-loop-ask g l =
    (l.book.rules ≡ l.fn.book.rules)
    × SoFar l.fn.book.rules (state_of l.fn.book) (state_of l.book) l.asks (drop l.ask-index l.asks) l.fn.out.items l.out.items

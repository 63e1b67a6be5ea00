use Rattle.std.proofs.Common.{ℕ, ◌≤◌, ◌+◌, ◌-◌}
use Rattle.gateway_book.specs.Book.{terms_of}
use Rattle.gateway_book.specs.Earliest.{Accepts}
use Rattle.gateway_book.proofs.book.GatewayBook.earliest.Given as goal

abbrev pub invariant-loop-start : goal.invariant-loop-start
invariant-loop-start g l =
    (l.self.floor ≤ l.start)
    × (l.not_before ≤ l.start)
    × ((t : ℕ) → l.not_before ≤ t → Accepts (terms_of l.self) l.self.list l.ask t → l.start ≤ t)

abbrev pub decreases-loop-start : goal.decreases-loop-start
decreases-loop-start g l = l.last + 1 - l.start

use Rattle.std.proofs.Common.{◌≡◌, ◌≤◌, find, length}
use Rattle.resv_list.specs.Sorted.{rest_from}
use Rattle.resv_list.specs.Reservations.{start_of}
use Rattle.resv_list.specs.Hours.{is_over, first_over}
use Rattle.resv_list.proofs.roster.Roster.first_over.Given as goal

abbrev pub invariant-loop-member : goal.invariant-loop-member
invariant-loop-member g l =
    (find (is_over (g.Self.Roster.list l.self) l.band l.from l.to l.most) (rest_from start_of l.at (g.Self.Roster.list l.self))
    ≡ first_over l.band l.from l.to l.most (g.Self.Roster.list l.self))
    × (l.from ≤ l.at)

abbrev pub decreases-loop-member : goal.decreases-loop-member
decreases-loop-member g l = length (rest_from start_of l.at (g.Self.Roster.list l.self))

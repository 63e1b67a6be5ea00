use Rattle.std.proofs.Common.{◌≡◌, ◌++◌, length}
use Rattle.resv_list.specs.Sorted.{rest_from}
use Rattle.resv_list.specs.Reservations.{start_of}
use Rattle.resv_list.proofs.roster.Roster.members.Given as goal

abbrev pub invariant-loop-member : goal.invariant-loop-member
invariant-loop-member g l = l.members.items ++ rest_from start_of l.at (g.Self.Roster.list l.self) ≡ g.Self.Roster.list l.self

abbrev pub decreases-loop-member : goal.decreases-loop-member
decreases-loop-member g l = length (rest_from start_of l.at (g.Self.Roster.list l.self))

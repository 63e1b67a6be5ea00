use Rattle.std.proofs.Common.{◌≡◌, length, map, max}
use Rattle.resv_list.specs.Sorted.{rest_from}
use Rattle.resv_list.specs.Reservations.{start_of, spent}
use Rattle.resv_list.specs.Hours.{starts_in, greatest, most_spent}
use Rattle.resv_list.proofs.roster.Roster.most.Given as goal

abbrev pub invariant-loop-member : goal.invariant-loop-member
invariant-loop-member g l =
    max l.most (greatest (map (spent (g.Self.Roster.list l.self) l.band)
    (starts_in (rest_from start_of l.at (g.Self.Roster.list l.self)) l.band)))
    ≡ most_spent (g.Self.Roster.list l.self) l.band

abbrev pub decreases-loop-member : goal.decreases-loop-member
decreases-loop-member g l = length (rest_from start_of l.at (g.Self.Roster.list l.self))

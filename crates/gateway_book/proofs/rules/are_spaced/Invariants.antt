use Rattle.std.proofs.Common.{◌↔◌, length}
use Rattle.resv_list.specs.Sorted.{rest_from}
use Rattle.resv_list.specs.Reservations.{start_of}
use Rattle.gateway_book.specs.Disjoint.{rested_from}
use Rattle.gateway_book.specs.Spaced.{SpacedFrom}
use Rattle.gateway_book.proofs.rules.are_spaced.Given as goal

abbrev pub invariant-loop-member : goal.invariant-loop-member
invariant-loop-member g l =
    SpacedFrom start_of (rested_from l.gap) 0 (g.R.Roster.list l.roster)
    ↔ SpacedFrom start_of (rested_from l.gap) l.rested (rest_from start_of l.from (g.R.Roster.list l.roster))

abbrev pub decreases-loop-member : goal.decreases-loop-member
decreases-loop-member g l = length (rest_from start_of l.from (g.R.Roster.list l.roster))

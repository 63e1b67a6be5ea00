use Rattle.std.proofs.Common.{◌≡◌, ◌++◌, drop}
use Rattle.resv_list.proofs.roster.Roster.filled.Given as goal

abbrev pub invariant-loop-member : goal.invariant-loop-member
invariant-loop-member g l = g.Self.Roster.list l.roster ++ drop l.member-index l.members ≡ l.members

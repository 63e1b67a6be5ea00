use Rattle.std.proofs.Common.{◌≡◌, ◌+◌, ◌*◌, ◌≤◌, drop}
use Rattle.resv_list.specs.Reservations.{begun}
use Rattle.resv_list.proofs.vec_roster.begun_before.Given as goal

abbrev pub invariant-loop-member : goal.invariant-loop-member
invariant-loop-member l =
    (l.sum + begun l.band l.from l.to (drop l.member-index l.members) ≡ begun l.band l.from l.to l.members)
    × (l.sum ≤ l.member-index * 10000000)

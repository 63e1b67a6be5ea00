use Rattle.std.proofs.Common.{ℕ, ◌≡◌, ◌+◌, ◌*◌, ◌≤◌, drop}
use Rattle.radio_bands.specs.declared.band.Band.{Band}
use Rattle.resv_list.specs.Reservations.{begun}
use Rattle.resv_tree.specs.Sums.{sum_in}
use Rattle.resv_tree.proofs.hours.taken_in.Given as goal

abbrev pub invariant-loop-member : goal.invariant-loop-member
invariant-loop-member l =
    (l.count ≡ l.member-index) × ((band : Band) → sum_in l.taken band ≤ 274877906944 + 4194304 * l.member-index)
    × ((band : Band) (end : ℕ) → l.to ≤ end
    → sum_in l.taken band + begun band 0 end (drop l.member-index l.members)
    ≡ sum_in l.sums band + begun band 0 end l.members)

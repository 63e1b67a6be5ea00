use Rattle.std.proofs.Common.{sym, subst}
use Rattle.std.specs.List.Sorted.{IsStrictlyIncreasing}
use Rattle.server_station.proofs.finishing.lock_again.Goals as goal

pub invariant_of-result : goal.invariant_of-result
invariant_of-result g c = subst IsStrictlyIncreasing (sym c.put_back.ensures) c.requires.rising

use Rattle.std.proofs.Common.{nat_le, ap}
use Rattle.resv_list.specs.declared.roster.TheConstants.{MAX_MEMBERS}
use Rattle.resv_tree.proofs.tree_roster.TreeRoster.is_full.Goals as goal

pub returns : goal.returns
returns g c = ap (nat_le MAX_MEMBERS) c.len.ensures

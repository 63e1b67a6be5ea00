use Rattle.std.proofs.Common.{refl}
use Rattle.resv_tree.proofs.ShapeLemmas.{seen_as-out, owing-out}
use Rattle.resv_tree.proofs.node.look.Goals as goal

pub returns-clause-seen : goal.returns-clause-seen
returns-clause-seen g c = seen_as-out c.args.node.now _ _ _ refl refl refl c.requires

pub returns-clause-owing : goal.returns-clause-owing
returns-clause-owing g c = owing-out c.args.node.now _ _ _ refl refl refl c.requires

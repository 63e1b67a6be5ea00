use Rattle.std.proofs.Common.{◌∙◌}
use Rattle.uplink_gather.proofs.CallLemmas.{due_is}
use Rattle.uplink_gather.proofs.gather.Gather.due.Goals as goal

pub returns : goal.returns
returns g c =
    rw (c.deref.ensures.value, c.deref-2.ensures.value) at c.first_due.ensures
    ∙ due_is _ _ _ _ c.self.invariant c.args.self.now c.self.view_is c.args.now

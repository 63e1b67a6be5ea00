use Rattle.std.proofs.Common.{◌∙◌, arith}
use Rattle.uplink_gather.proofs.CallLemmas.{crowded_by_open, crowded_by_ever}
use Rattle.uplink_gather.proofs.gather.Gather.is_crowded.Goals as goal

pub returns-then-len-self : goal.returns-then-len-self
returns-then-len-self g c =
    crowded_by_open _ _ _ _ c.self.invariant c.args.self.now c.self.view_is c.len.result
    (c.len.ensures ∙ c.self.inside.unclosed.ok.0) (omega arith)

pub returns-else-len-self : goal.returns-else-len-self
returns-else-len-self g c =
    crowded_by_ever _ _ _ _ c.self.invariant c.args.self.now c.self.view_is c.len.result c.len-else-len-self.result
    (c.len.ensures ∙ c.self.inside.unclosed.ok.0) (omega arith) (c.len-else-len-self.ensures ∙ c.self.inside.stored.ok.0)

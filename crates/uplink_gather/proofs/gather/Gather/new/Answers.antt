use Rattle.uplink_gather.proofs.KeptLemmas.{whole_empty}
use Rattle.uplink_gather.proofs.gather.Gather.new.Goals as goal

pub invariant_of-result : goal.invariant_of-result
invariant_of-result g c = rw (c.new.ensures, c.new-2.ensures.items, c.new-3.ensures.items) (whole_empty c.args.limits)

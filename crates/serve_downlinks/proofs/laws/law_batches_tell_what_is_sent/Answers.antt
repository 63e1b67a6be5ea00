use Rattle.serve_downlinks.proofs.BatchLaw.{batches_tell_what_is_sent}
use Rattle.serve_downlinks.proofs.laws.law_batches_tell_what_is_sent.Goals as goal

pub returns : goal.returns
returns c = batches_tell_what_is_sent

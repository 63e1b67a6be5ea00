use Rattle.serve_journal.proofs.TornReading.{torn_is_dropped}
use Rattle.serve_journal.proofs.torn.law_torn_is_dropped.Goals as goal

pub returns : goal.returns
returns c = torn_is_dropped

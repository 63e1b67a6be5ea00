use Rattle.serve_journal.proofs.RenewalReading.{renewal_reads_as_state}
use Rattle.serve_journal.proofs.renewal_law.law_renewal_reads_as_state.Goals as goal

pub returns : goal.returns
returns c = renewal_reads_as_state

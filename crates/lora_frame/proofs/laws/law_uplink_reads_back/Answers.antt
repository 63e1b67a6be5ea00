use Rattle.lora_frame.proofs.ReadsBack.{uplink_reads_back}
use Rattle.lora_frame.proofs.laws.law_uplink_reads_back.Goals as goal

pub returns : goal.returns
returns c = uplink_reads_back

use Rattle.forwarder_packets.proofs.ReadsBack.{reads_back}
use Rattle.forwarder_packets.proofs.downlink.law_pull_resps_read_back.Goals as goal

pub returns : goal.returns
returns c = reads_back

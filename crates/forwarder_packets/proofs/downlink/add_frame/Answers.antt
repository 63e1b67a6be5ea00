use Rattle.forwarder_packets.proofs.Joined.{joined_three}
use Rattle.forwarder_packets.proofs.downlink.add_frame.Goals as goal

pub returns-clause-text : goal.returns-clause-text
returns-clause-text c = joined_three _ _ _ _ c.text.ensures.text c.number.ensures.text c.text-2.ensures.text

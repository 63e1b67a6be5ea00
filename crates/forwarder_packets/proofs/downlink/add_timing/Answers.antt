use Rattle.std.proofs.Common.{ap, ◌∙◌, ◌++◌, decimal}
use Rattle.forwarder_packets.proofs.Joined.{joined_four}
use Rattle.forwarder_packets.proofs.downlink.add_timing.Goals as goal

pub returns-clause-text : goal.returns-clause-text
returns-clause-text c =
    joined_four _ _ _ _ _ c.text.ensures.text
    (c.number.ensures.text ∙ ap (λ n. c.text.new.self ++ decimal n) c.from.ensures) c.text-2.ensures.text
    c.add_megahertz.ensures.text

use Rattle.std.proofs.Common.{rules, ◌≡◌, ap, arith, length, append_assoc}
use Rattle.forwarder_packets.specs.PullResp.{pull_resp_of}
use Rattle.forwarder_packets.specs.Seen.{sent}
use Rattle.forwarder_packets.proofs.ReadsBack.{short_enough}
use Rattle.forwarder_packets.proofs.downlink.pull_resp.Goals as goal

pub returns-clause-short : goal.returns-clause-short
returns-clause-short g c short =
    let whole : c.extend_from_slice-4.new.self.items ≡ pull_resp_of c.args.token (sent c.args.transmission.now) = search (rules, append_assoc) in
    omega (arith, ap length whole, short_enough c.args.token (sent c.args.transmission.now) short)

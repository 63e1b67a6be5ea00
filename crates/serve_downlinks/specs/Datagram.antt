use Rattle.std.specs.Prelude.{ℕ, ◌%◌, ◌^◌}
use Rattle.forwarder_packets.specs.PullResp.{Sent}
use Rattle.serve_downlinks.specs.Downlinks.{ToSend}

-- What a gateway is asked for.

-- the token, by which the gateway tells what became of it: the low 16 bits of the uplink's number
abbrev pub token_of : ToSend → ℕ
token_of d = d.number % 2 ^ 16

-- the transmission: it begins at this counter, with this power in dBm
abbrev pub asked_for : ℕ → ℕ → ToSend → Sent
asked_for tmst power_dbm d =
    record {
      tmst = tmst;
      freq_hz = d.candidate.freq_hz;
      power_dbm = power_dbm;
      rate = d.candidate.rate;
      frame = d.frame;
    }

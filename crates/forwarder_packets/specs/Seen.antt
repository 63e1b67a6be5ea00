use Rattle.std.specs.Prelude.{Result, Ok, Err}
use Rattle.forwarder_packets.specs.declared.entry.EntryFault.{EntryFault}
use Rattle.forwarder_packets.specs.declared.packet.Entry.{Entry}
use Rattle.forwarder_packets.specs.declared.packet.Packet.{Packet}
use Rattle.forwarder_packets.specs.declared.packet.Entry.TheVariants.{Heard, Dropped}
use Rattle.forwarder_packets.specs.declared.entry.Texts.{Texts}
use Rattle.forwarder_packets.specs.declared.entry.Numbers.{Numbers as Fields}
use Rattle.forwarder_packets.specs.declared.downlink.Transmission.{Transmission}
use Rattle.forwarder_packets.specs.Entry.{Told, Numbers, Received}
use Rattle.forwarder_packets.specs.PullResp.{Sent}

-- What the code keeps of an entry, and is handed of a transmission, as the definitions see it.

abbrev pub told : Texts → Told
told t = record {
  stat = t.stat.now;
  modu = t.modu.now;
  datr = t.datr.now;
  tmst = t.tmst.now;
  freq = t.freq.now;
  lsnr = t.lsnr.now;
  rssi = t.rssi.now;
  size = t.size.now;
  bytes = t.«data».now;
}

abbrev pub counted : Fields → Numbers
counted n = record { tmst = n.tmst; freq_hz = n.freq_hz; snr = n.snr; rssi = n.rssi; size = n.size }

abbrev pub shown : {A : Type 0} → Packet A → Received
shown p = record { tmst = p.tmst; freq_hz = p.freq_hz; rate = p.rate; snr = p.snr; rssi = p.rssi; bytes = p.bytes.items }

-- an entry that is heard, or not
abbrev pub received : {A : Type 0} → Entry A → Result Received EntryFault
received (Heard p) = Ok (shown p)
received (Dropped fault) = Err fault

-- a transmission that is asked for
abbrev pub sent : Transmission → Sent
sent t = record { tmst = t.tmst; freq_hz = t.freq_hz; power_dbm = t.power_dbm; rate = t.rate; frame = t.frame.now }

use Rattle.std.specs.Prelude.{ℕ, List, codes}
use Rattle.forwarder_packets.specs.declared.entry.EntryFault.{EntryFault}
use Rattle.forwarder_packets.specs.declared.entry.EntryFault.TheVariants as entries
use Rattle.forwarder_sessions.specs.declared.received.DatagramFault.{DatagramFault}
use Rattle.forwarder_sessions.specs.declared.received.DatagramFault.TheVariants as datagrams
use Rattle.forwarder_sessions.specs.declared.received.PushDropped.{PushDropped}
use Rattle.forwarder_sessions.specs.declared.received.PushDropped.TheVariants as pushes

-- By which name it is told why something was dropped: each is its variant's.

abbrev pub datagram_name : DatagramFault → List ℕ
datagram_name datagrams.Short = codes "Short"
datagram_name datagrams.Version = codes "Version"
datagram_name datagrams.Kind = codes "Kind"
datagram_name datagrams.UnknownGateway = codes "UnknownGateway"
datagram_name datagrams.Peer = codes "Peer"

abbrev pub push_name : PushDropped → List ℕ
push_name pushes.NoPull = codes "NoPull"
push_name pushes.Json = codes "Json"

abbrev pub entry_name : EntryFault → List ℕ
entry_name entries.Many = codes "Many"
entry_name entries.Shape = codes "Shape"
entry_name entries.Crc = codes "Crc"
entry_name entries.Modulation = codes "Modulation"
entry_name entries.Rate = codes "Rate"
entry_name entries.Number = codes "Number"
entry_name entries.Data = codes "Data"
entry_name entries.Size = codes "Size"
entry_name entries.Ghost = codes "Ghost"

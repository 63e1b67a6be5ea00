use Rattle.std.specs.Prelude.{ℕ, Bool, List, if◌then◌else◌, drop, map, slice_get, slice_set}
use Rattle.std.specs.Prelude.{Option, Some, None, Result, Ok, Err, Vec}
use Rattle.forwarder_packets.specs.Head.{head_of, acknowledgement_of}
use Rattle.forwarder_packets.specs.Entries.{Read, packets_of}
use Rattle.forwarder_packets.specs.Seen.{received}
use Rattle.forwarder_packets.specs.TxAck.{failure, failure_of}
use Rattle.forwarder_packets.specs.declared.head.Head.{Head}
use Rattle.forwarder_packets.specs.declared.packet.Entry.{Entry}
use Rattle.forwarder_packets.specs.declared.head.HeadFault.{HeadFault}
use Rattle.forwarder_packets.specs.declared.head.HeadFault.TheVariants as head
use Rattle.forwarder_packets.specs.declared.head.Kind.{Kind}
use Rattle.forwarder_packets.specs.declared.head.Kind.TheVariants.{PushData, PullData, TxAck}
use Rattle.forwarder_packets.specs.declared.entries.PushFault.{PushFault}
use Rattle.forwarder_sessions.specs.declared.received.DatagramFault.{DatagramFault}
use Rattle.forwarder_sessions.specs.declared.received.DatagramFault.TheVariants.{Short, Version, Kind as OtherKind, UnknownGateway, Peer}
use Rattle.forwarder_sessions.specs.declared.received.PushDropped.{PushDropped}
use Rattle.forwarder_sessions.specs.declared.received.PushDropped.TheVariants.{NoPull, Json}
use Rattle.forwarder_sessions.specs.declared.received.News.{News}
use Rattle.forwarder_sessions.specs.declared.received.News.TheVariants as says
use Rattle.forwarder_sessions.specs.declared.received.Received.{Received}
use Rattle.forwarder_sessions.specs.declared.session.Endpoint.{Endpoint}
use Rattle.forwarder_sessions.specs.Sessions.{Known, place_of, may_come, is_recent, pulled_by}

-- What a datagram comes to that a server receives from its gateways' packet forwarders (Semtech's UDP protocol for packet
-- forwarders, version 2).

-- what it tells: nothing, where it is dropped; a gateway's place among those of the settings; of PUSH_DATA what becomes of each
-- packet, and of TX_ACK the token of its downlink, and an error's name
pub data Tells : Type 0 where
  Dropped : DatagramFault → Option (List ℕ) → Tells
  Pulled_from : ℕ → Tells
  Pushed : ℕ → Result (List Read) PushDropped → Tells
  Answered : ℕ → ℕ → Option (List ℕ) → Tells

-- what is sent back at once, and what it tells
pub record Comes : Type 0 where
  pub acknowledgement : Option (List ℕ)
  pub news : Tells

-- the fault of a head, as that of its datagram
abbrev pub named : HeadFault → DatagramFault
named head.Short = Short
named head.Version = Version
named head.Kind = OtherKind

-- what becomes of the packets of a PUSH_DATA that is read
abbrev pub pushed : Result (List Read) PushFault → Result (List Read) PushDropped
pushed (Ok packets) = Ok packets
pushed (Err fault) = Err Json

-- what becomes of the packets behind the head of a PUSH_DATA
abbrev pub packets_for : Bool → List ℕ → Result (List Read) PushDropped
packets_for recent rest = if recent then pushed (packets_of rest) else Err NoPull

-- how many bytes stand before what a datagram tells
abbrev pub head_bytes : ℕ
head_bytes = 12

-- what a datagram of this kind tells, of the gateway at a place
abbrev pub tells : Kind → ℕ → Known → ℕ → ℕ → List ℕ → Tells
tells PullData place known token now rest = Pulled_from place
tells PushData place known token now rest = Pushed place (packets_for (is_recent now known.pulled) rest)
tells TxAck place known token now rest = Answered place token (failure_of rest)

abbrev pub dropped : DatagramFault → Option (List ℕ) → Comes
dropped fault eui = record { acknowledgement = None; news = Dropped fault eui }

-- of the gateway at a place, if the datagram may be its
abbrev pub of_known : Head → Endpoint → ℕ → List ℕ → ℕ → Option Known → Comes
of_known head source now bytes place None = dropped UnknownGateway (Some head.eui)
of_known head source now bytes place (Some known) =
    if may_come known.forwarder source
    then record { acknowledgement = acknowledgement_of head; news = tells head.kind place known head.token now (drop head_bytes bytes) }
    else dropped Peer (Some head.eui)

abbrev pub of_place : List Known → Head → Endpoint → ℕ → List ℕ → Option ℕ → Comes
of_place all head source now bytes None = dropped UnknownGateway (Some head.eui)
of_place all head source now bytes (Some place) = of_known head source now bytes place (slice_get all place)

abbrev pub of_head : List Known → Endpoint → ℕ → List ℕ → Result Head HeadFault → Comes
of_head all source now bytes (Err fault) = dropped (named fault) None
of_head all source now bytes (Ok head) = of_place all head source now bytes (place_of head.eui all)

-- what a datagram comes to: its head's fault, an EUI that no gateway has, another address; else it is acknowledged by its kind
abbrev pub received_of : List Known → Endpoint → ℕ → List ℕ → Comes
received_of all source now bytes = of_head all source now bytes (head_of bytes)

-- a PULL_DATA alone changes what is known: where its gateway's downlinks go
abbrev pub pulled_at : List Known → ℕ → Endpoint → ℕ → Option Known → List Known
pulled_at all place source now None = all
pulled_at all place source now (Some known) = slice_set all place (pulled_by source now known)

abbrev pub after_news : List Known → Endpoint → ℕ → Tells → List Known
after_news all source now (Dropped fault eui) = all
after_news all source now (Pulled_from place) = pulled_at all place source now (slice_get all place)
after_news all source now (Pushed place packets) = all
after_news all source now (Answered place token failed) = all

-- what is known after a datagram
abbrev pub known_after : List Known → Endpoint → ℕ → List ℕ → List Known
known_after all source now bytes = after_news all source now (received_of all source now bytes).news

-- what the code tells of the packets of a PUSH_DATA
abbrev pub shown_packets : {A : Type 0} → Result (Vec (Entry A) A) PushDropped → Result (List Read) PushDropped
shown_packets (Ok entries) = Ok (map received entries.items)
shown_packets (Err fault) = Err fault

abbrev pub shown_news : {A : Type 0} → News A → Tells
shown_news (says.Dropped fault eui) = Dropped fault eui
shown_news (says.Pulled place) = Pulled_from place
shown_news (says.Pushed place packets) = Pushed place (shown_packets packets)
shown_news (says.Told place token ack) = Answered place token (failure ack)

abbrev pub shown : {A : Type 0} → Received A → Comes
shown r = record { acknowledgement = r.acknowledgement; news = shown_news r.news }

use Rattle.std.specs.Prelude.{ℕ, ◌==◌, if◌then◌else◌, List, [], ◌∷◌, ◌++◌, Option, Some, None, Result, Ok, Err}
use Rattle.std.specs.Option.{option_map}
use Rattle.std.specs.Int.{w16, from_be_bytes, to_be_bytes}
use Rattle.forwarder_packets.specs.declared.head.Head.{Head}
use Rattle.forwarder_packets.specs.declared.head.HeadFault.{HeadFault}
use Rattle.forwarder_packets.specs.declared.head.HeadFault.TheVariants.{Short, Version, Kind}
use Rattle.forwarder_packets.specs.declared.head.Kind.{Kind as Sort}
use Rattle.forwarder_packets.specs.declared.head.Kind.TheVariants.{PushData, PullData, TxAck}

-- The first bytes of a datagram of a packet forwarder (Semtech's UDP protocol for packet forwarders, version 2): the version 2, a
-- token of two bytes, the kind, and the gateway's EUI of eight bytes.

-- PUSH_DATA is 0, PULL_DATA 2 and TX_ACK 5; a server sends the others
abbrev pub kind_of : ℕ → Option Sort
kind_of n = if n == 0 then Some PushData else if n == 2 then Some PullData else if n == 5 then Some TxAck else None

-- with the eight bytes that follow
abbrev pub with_eui : ℕ → Sort → List ℕ → Result Head HeadFault
with_eui token kind (a ∷ b ∷ c ∷ d ∷ e ∷ f ∷ g ∷ h ∷ rest) =
    Ok (record { token = token; kind = kind; eui = a ∷ b ∷ c ∷ d ∷ e ∷ f ∷ g ∷ h ∷ [] })
with_eui token kind _ = Err Short

abbrev pub of_kind : ℕ → Option Sort → List ℕ → Result Head HeadFault
of_kind token None rest = Err Kind
of_kind token (Some kind) rest = with_eui token kind rest

-- the head of a datagram, or its first fault: below four bytes, another version, another kind, or below twelve bytes
abbrev pub head_of : List ℕ → Result Head HeadFault
head_of (version ∷ high ∷ low ∷ kind ∷ rest) =
    if version == 2 then of_kind (from_be_bytes w16 (high ∷ low ∷ [])) (kind_of kind) rest else Err Version
head_of _ = Err Short

-- PUSH_ACK is 1, PULL_ACK 4; nothing acknowledges TX_ACK
abbrev pub acknowledged_by : Sort → Option ℕ
acknowledged_by PushData = Some 1
acknowledged_by PullData = Some 4
acknowledged_by TxAck = None

-- what acknowledges a datagram at once: the version, its token and the kind
abbrev pub acknowledgement_of : Head → Option (List ℕ)
acknowledgement_of head = option_map (λ kind. 2 ∷ (to_be_bytes w16 head.token ++ kind ∷ [])) (acknowledged_by head.kind)

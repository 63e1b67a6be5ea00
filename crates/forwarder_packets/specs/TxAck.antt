use Rattle.std.specs.Prelude.{ℕ, ◌==◌, Bool, ◌&&◌, ◌||◌, if◌then◌else◌, nat_le, List, length, codes}
use Rattle.std.specs.Prelude.{Option, Some, None, is_some}
use Rattle.std.specs.List.{list_all}
use Rattle.std.specs.Str.{is_utf8, bytes_eq}
use Rattle.json.specs.Json.{Json, document}
use Rattle.json.specs.Find.{get, as_str, as_object}
use Rattle.forwarder_packets.specs.declared.tx_ack.TxAck.{TxAck}
use Rattle.forwarder_packets.specs.declared.tx_ack.TxAck.TheVariants.{Acked, Failed}

-- What a TX_ACK tells of a transmission (Semtech's UDP protocol for packet forwarders, version 2): the error by which it isn't
-- sent, or none.

-- `A` to `Z`, `0` to `9` and `_`
abbrev pub is_of_name : ℕ → Bool
is_of_name c = (nat_le 65 c && nat_le c 90) || (nat_le 48 c && nat_le c 57) || c == 95

-- 1 to 32 of those
abbrev pub is_name : List ℕ → Bool
is_name text = nat_le 1 (length text) && nat_le (length text) 32 && list_all is_of_name text

abbrev pub other : Option (List ℕ)
other = Some (codes "Other")

-- the error that a text names
abbrev pub failure_named : List ℕ → Option (List ℕ)
failure_named text = if bytes_eq text (codes "NONE") then None else if is_name text then Some text else other

-- of the text that `error` is; where it is none, the error has no name
abbrev pub failure_as : Option (List ℕ) → Option (List ℕ)
failure_as None = other
failure_as (Some text) = failure_named text

-- of what `error` is
abbrev pub failure_of_error : Option Json → Option (List ℕ)
failure_of_error None = None
failure_of_error (Some j) = failure_as (as_str j)

-- of what `txpk_ack` is
abbrev pub failure_of_ack : Option Json → Option (List ℕ)
failure_of_ack None = None
failure_of_ack (Some j) = failure_of_error (get (codes "error") j)

-- of the value that a text is
abbrev pub failure_of_document : Option Json → Option (List ℕ)
failure_of_document None = other
failure_of_document (Some j) = if is_some (as_object j) then failure_of_ack (get (codes "txpk_ack") j) else other

-- of bytes that are there
abbrev pub failure_of_text : List ℕ → Option (List ℕ)
failure_of_text bytes = if is_utf8 bytes then failure_of_document (document bytes) else other

-- the error that stands behind the head of a TX_ACK
abbrev pub failure_of : List ℕ → Option (List ℕ)
failure_of bytes = if length bytes == 0 then None else failure_of_text bytes

-- what the code keeps of it
abbrev pub failure : {A : Type 0} → TxAck A → Option (List ℕ)
failure Acked = None
failure (Failed name) = Some name.items

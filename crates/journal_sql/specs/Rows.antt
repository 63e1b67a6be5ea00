use Rattle.std.specs.Prelude.{ℕ, List, [], ◌∷◌, ◌++◌, codes, decimal, Option, Some, None}
use Rattle.std.specs.Int.{w32, from_be_bytes}
use Rattle.std.specs.List.{join_with_byte}
use Rattle.hex.specs.Hex.{encode_lower}
use Rattle.radio_airtime.specs.DataRate.{number_of}
use Rattle.resv_list.specs.declared.reservation.Reservation.{Reservation}
use Rattle.serve_journal.specs.Journal.{Mast, Node}
use Rattle.serve_journal.specs.Payload.{Waiting}

-- The statements that put rows into the tables, as SQLite reads them. Numbers stand without leading zeros.

-- a statement that puts a row of these values into a table
abbrev pub row_of : List ℕ → List (List ℕ) → List ℕ
row_of table values = codes "INSERT INTO " ++ table ++ codes " VALUES(" ++ join_with_byte 44 values ++ codes ");"

-- bytes as a text: two digits in lower case for each, in quotes
abbrev pub digits_value : List ℕ → List ℕ
digits_value bytes = codes "'" ++ encode_lower bytes ++ codes "'"

-- bytes as they are
abbrev pub bytes_value : List ℕ → List ℕ
bytes_value bytes = codes "X'" ++ encode_lower bytes ++ codes "'"

-- the last uplink counter, if there was an uplink
abbrev pub up_value : Option ℕ → List ℕ
up_value None = codes "NULL"
up_value (Some counter) = decimal counter

-- id, eui, cap, gap, high, floor
abbrev pub gateway_row : Mast → List ℕ
gateway_row m =
    row_of (codes "gateway")
    (decimal m.id ∷ digits_value m.eui ∷ decimal m.book.rules.cap ∷ decimal m.book.rules.gap ∷ decimal m.high
    ∷ decimal m.book.floor ∷ [])

-- addr, session, up, down: a session is the number of its four bytes, the highest first
abbrev pub device_row : Node → List ℕ
device_row n =
    row_of (codes "device")
    (decimal n.addr ∷ decimal (from_be_bytes w32 n.session) ∷ up_value n.up ∷ decimal n.down ∷ [])

-- id, addr, port, payload: what waits for the device with this address
abbrev pub queued_row : ℕ → ℕ → Waiting → List ℕ
queued_row addr number p =
    row_of (codes "queued") (decimal number ∷ decimal addr ∷ decimal p.port ∷ bytes_value p.bytes ∷ [])

-- id, gateway, start, freq, dr, len: what the gateway with this number sent
abbrev pub sent_row : ℕ → ℕ → Reservation → List ℕ
sent_row id number r =
    row_of (codes "sent")
    (decimal number ∷ decimal id ∷ decimal r.start ∷ decimal r.freq_hz ∷ decimal (number_of r.rate) ∷ decimal r.len ∷ [])

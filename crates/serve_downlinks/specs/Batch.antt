use Rattle.std.specs.Prelude.{ℕ, ◌==◌, Bool, nat_lt, if◌then◌else◌, List, [], ◌∷◌, ◌++◌, length, map, find, flat_map, Option, Some, None}
use Rattle.std.specs.Option.{option_map}
use Rattle.std.specs.List.{list_any}
use Rattle.gateway_clock.specs.Clock.{line}
use Rattle.text_lines.specs.Line.{text_of}
use Rattle.lora_frame.specs.Reading.{addr_of}
use Rattle.rx_windows.specs.declared.candidate.Candidate.{Candidate}
use Rattle.gateway_book.specs.Book.{Book}
use Rattle.server_desk.specs.declared.device.Counters.{Counters}
use Rattle.server_desk.specs.Register.{Device, device_with, counters_of}
use Rattle.server_core.specs.Server.{Seen}
use Rattle.forwarder_sessions.specs.Sessions.{Known}
use Rattle.serve_journal.specs.declared.entry.Entry.{Entry}
use Rattle.serve_journal.specs.declared.entry.Entry.TheVariants as says
use Rattle.serve_journal.specs.EntryText.{entry_text}
use Rattle.serve_journal.specs.Lines.{end_line}
use Rattle.serve_downlinks.specs.Downlinks.{ToSend}

-- What the journal says of downlinks before they are sent.

-- what a server knows then: its devices and its gateways' books, their packet forwarders, what tells each device's session from
-- others of the same address, and what its clock shows, in microseconds
pub record Knows : Type 0 where
  pub devices : List Device
  pub books : List Book
  pub forwarders : List Known
  pub sessions : List (ℕ × List ℕ)
  pub now : ℕ

abbrev pub knows : {A : Type 0} → Seen A → List Known → List (ℕ × List ℕ) → ℕ → Knows
knows s forwarders sessions now =
    record { devices = s.desk.reg.devices; books = s.books; forwarders = forwarders; sessions = sessions; now = now }

-- the floor of a gateway's book; nothing is forgotten where it has none
abbrev pub floor_in : Option Book → ℕ
floor_in None = 0
floor_in (Some b) = b.floor

abbrev pub book_of : ℕ → List Book → Option Book
book_of gateway books = find (λ b. b.id == gateway) books

abbrev pub floor_of : ℕ → List Book → ℕ
floor_of gateway books = floor_in (book_of gateway books)

-- whether a gateway sends one of these
abbrev pub sends : ℕ → List ToSend → Bool
sends gateway ds = list_any (λ d. d.candidate.gateway == gateway) ds

-- `clock ID HIGH FLOOR`: what the gateway's clock shows at least, and the floor of its book
abbrev pub clock_of : ℕ → List Book → Known → Entry
clock_of now books f = says.Clock f.forwarder.gateway (line f.clock now) (floor_of f.forwarder.gateway books)

-- of a gateway that sends one of these
abbrev pub clock_if_sends : ℕ → List Book → List ToSend → Known → List Entry
clock_if_sends now books ds f = if sends f.forwarder.gateway ds then clock_of now books f ∷ [] else []

-- DevAddr of a PHYPayload that is long enough to have one: bytes 1 to 4, the least significant first (LoRaWAN L2 1.0.4, section 4)
abbrev pub addr_in : List ℕ → Option ℕ
addr_in frame = if nat_lt (length frame) 5 then None else Some (addr_of frame)

-- the counters of the device with an address, and what tells its session from others
abbrev pub counters_at : ℕ → List Device → Option Counters
counters_at addr devices = option_map (λ found. counters_of found.1) (device_with addr devices)

abbrev pub session_at : ℕ → List (ℕ × List ℕ) → Option (List ℕ)
session_at addr sessions = option_map (λ s. s.1) (find (λ s. s.0 == addr) sessions)

-- `device ADDR SESSION UP DOWN`, where the device and its session are known
abbrev pub device_entries : ℕ → Option Counters → Option (List ℕ) → List Entry
device_entries addr (Some counters) (Some session) = says.Device addr session counters.up counters.down ∷ []
device_entries addr counters session = []

-- `taken ADDR`, where the payload at the head of the device's queue went along: a frame without one has 12 bytes
abbrev pub taken_entries : ℕ → List ℕ → List Entry
taken_entries addr frame = if nat_lt 12 (length frame) then says.Taken addr ∷ [] else []

-- `sent ID START FREQ DR LEN`
abbrev pub sent_of : Candidate → Entry
sent_of c = says.Sent c.gateway c.start c.freq_hz c.rate c.len

-- what is said of the device to which a frame goes
abbrev pub addressed : List Device → List (ℕ × List ℕ) → List ℕ → Option ℕ → List Entry
addressed devices sessions frame None = []
addressed devices sessions frame (Some addr) =
    device_entries addr (counters_at addr devices) (session_at addr sessions) ++ taken_entries addr frame

-- what is said of one downlink
abbrev pub send_entries : List Device → List (ℕ × List ℕ) → ToSend → List Entry
send_entries devices sessions d = addressed devices sessions d.frame (addr_in d.frame) ++ sent_of d.candidate ∷ []

-- the batch: by gateway its clock, then what is said of each downlink
abbrev pub batch_entries : Knows → List ToSend → List Entry
batch_entries k ds = flat_map (clock_if_sends k.now k.books ds) k.forwarders ++ flat_map (send_entries k.devices k.sessions) ds

-- the text of some entries
abbrev pub entries_text : List Entry → List ℕ
entries_text entries = text_of (map entry_text entries)

-- the text of a batch: the lines of its entries, and the line that ends it
abbrev pub batch_text : List Entry → List ℕ
batch_text entries = text_of (map entry_text entries ++ end_line ∷ [])

use Rattle.std.specs.Prelude.{ℕ, List, [], ◌∷◌, ◌++◌, map, codes}
use Rattle.std.specs.List.{flat_map}
use Rattle.resv_list.specs.declared.reservation.Reservation.{Reservation}
use Rattle.text_lines.specs.Line.{text_of}
use Rattle.serve_journal.specs.declared.entry.Entry.{Entry}
use Rattle.serve_journal.specs.declared.entry.Entry.TheVariants.{Gateway, Device, Queue, Clock, Sent}
use Rattle.serve_journal.specs.EntryText.{entry_text}
use Rattle.serve_journal.specs.Journal.{Journal, Mast, Node}
use Rattle.serve_journal.specs.Lines.{end_line}

-- A journal that says a state in one batch.

-- the first line
abbrev pub head_line : List ℕ
head_line = codes "airbook journal 1"

abbrev pub gateway_entry : Mast → Entry
gateway_entry m = Gateway m.id m.eui m.book.rules.cap m.book.rules.gap

abbrev pub device_entry : Node → Entry
device_entry n = Device n.addr n.session n.up n.down

-- what waits for a device, in order
abbrev pub queue_entries : Node → List Entry
queue_entries n = map (Queue n.addr) n.queue

-- what a gateway's book keeps, by start
abbrev pub sent_entry : ℕ → Reservation → Entry
sent_entry id r = Sent id r.start r.freq_hz r.rate r.len

abbrev pub sent_entries : Mast → List Entry
sent_entries m = map (sent_entry m.id) m.book.list

abbrev pub clock_entry : Mast → Entry
clock_entry m = Clock m.id m.high m.book.floor

-- the lines of some entries, each with its end
abbrev pub entries_text : List Entry → List ℕ
entries_text entries = text_of (map entry_text entries)

-- the gateways, the devices, the queues, what was sent, and then the clocks: what was sent is booked before the floor rises
abbrev pub renewal : Journal → List Entry
renewal j =
    map gateway_entry j.gateways ++ (map device_entry j.devices ++ (flat_map queue_entries j.devices
    ++ (flat_map sent_entries j.gateways ++ map clock_entry j.gateways)))

-- the whole text
abbrev pub renewal_text : Journal → List ℕ
renewal_text j = head_line ++ (10 ∷ (entries_text (renewal j) ++ (end_line ++ 10 ∷ [])))

-- the same behind other bytes, part by part
abbrev pub parts_behind : List ℕ → List Mast → List Node → List ℕ
parts_behind bytes gateways devices =
    bytes ++ (head_line ++ 10 ∷ []) ++ entries_text (map gateway_entry gateways) ++ entries_text (map device_entry devices)
    ++ entries_text (flat_map queue_entries devices) ++ entries_text (flat_map sent_entries gateways)
    ++ entries_text (map clock_entry gateways) ++ (end_line ++ 10 ∷ [])

use Rattle.std.specs.Prelude.{ℕ, List, [], ◌∷◌, map, Option, Some, None}
use Rattle.std.specs.List.{flat_map}
use Rattle.gateway_clock.specs.Clock.{line}
use Rattle.gateway_book.specs.Book.{Book}
use Rattle.answer_ticket.specs.Job.{Payload}
use Rattle.forwarder_sessions.specs.Sessions.{Known}
use Rattle.server_desk.specs.Register.{Device, device_with}
use Rattle.serve_journal.specs.declared.entry.Entry.{Entry}
use Rattle.serve_journal.specs.declared.entry.Entry.TheVariants.{Queue}
use Rattle.serve_journal.specs.Journal.{Journal, Mast, Node}
use Rattle.serve_journal.specs.Payload.{Waiting, payload_of}
use Rattle.serve_journal.specs.Renewal as says
use Rattle.serve_downlinks.specs.Batch.{Knows, book_of}

-- What a server knows, as a journal says it.

abbrev pub if_some : {X : Type 0} → Option X → List X
if_some None = []
if_some (Some x) = x ∷ []

-- a gateway, if it has a book
abbrev pub mast_with : ℕ → Known → Option Book → List Mast
mast_with now f None = []
mast_with now f (Some book) =
    record { id = f.forwarder.gateway; eui = f.forwarder.eui; high = line f.clock now; book = book } ∷ []

abbrev pub mast_of : ℕ → List Book → Known → List Mast
mast_of now books f = mast_with now f (book_of f.forwarder.gateway books)

-- a payload that waits
abbrev pub waiting_of : Payload → List Waiting
waiting_of payload = if_some (payload_of payload.0 payload.1)

-- a device with what tells its session from others, if the server has it
abbrev pub node_with : ℕ × List ℕ → Option (ℕ × Device) → List Node
node_with known None = []
node_with known (Some found) =
    record {
      addr = known.0;
      session = known.1;
      up = found.1.up;
      down = found.1.down;
      queue = flat_map waiting_of found.1.queue;
    } ∷ []

abbrev pub node_of : List Device → ℕ × List ℕ → List Node
node_of devices known = node_with known (device_with known.0 devices)

-- the gateways that have a packet forwarder, and the devices whose sessions are known
abbrev pub state_of : Knows → Journal
state_of k =
    record {
      gateways = flat_map (mast_of k.now k.books) k.forwarders;
      devices = flat_map (node_of k.devices) k.sessions;
    }

-- what is said of one of them, line by line

abbrev pub gateway_entries : List Book → Known → List Entry
gateway_entries books f = map says.gateway_entry (mast_of 0 books f)

abbrev pub book_entries : List Book → Known → List Entry
book_entries books f = flat_map says.sent_entries (mast_of 0 books f)

abbrev pub clock_entries : ℕ → List Book → Known → List Entry
clock_entries now books f = map says.clock_entry (mast_of now books f)

abbrev pub device_entries : List Device → ℕ × List ℕ → List Entry
device_entries devices known = map says.device_entry (node_of devices known)

abbrev pub queue_entries : List Device → ℕ × List ℕ → List Entry
queue_entries devices known = flat_map says.queue_entries (node_of devices known)

-- of one payload
abbrev pub payload_entries : ℕ → Payload → List Entry
payload_entries addr payload = map (Queue addr) (waiting_of payload)

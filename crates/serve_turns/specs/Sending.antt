use Rattle.std.specs.Prelude.{ℕ, Bool, true, false, List, [], ◌∷◌, ◌++◌, length, map, filter, nat_lt, zip, codes, Option, Some, None}
use Rattle.std.specs.List.{flat_map}
use Rattle.std.specs.Option.{option_map}
use Rattle.gateway_book.specs.Book.{Book}
use Rattle.gateway_book.specs.Kept.{kept}
use Rattle.forwarder_packets.specs.PullResp.{pull_resp_of}
use Rattle.forwarder_sessions.specs.declared.session.Endpoint.{Endpoint}
use Rattle.forwarder_sessions.specs.Sessions.{Known}
use Rattle.server_core.specs.declared.entry.Line.{Line}
use Rattle.server_desk.specs.World.{Gateway}
use Rattle.serve_downlinks.specs.declared.fate.Fate.{Fate}
use Rattle.serve_downlinks.specs.declared.fate.Fate.TheVariants.{Barred, Unreachable, Sendable}
use Rattle.serve_downlinks.specs.Downlinks.{ToSend, downlinks}
use Rattle.serve_downlinks.specs.Fates.{fate_of}
use Rattle.serve_downlinks.specs.Datagram.{token_of, asked_for}
use Rattle.serve_downlinks.specs.Batch.{Knows, batch_entries, batch_text}
use Rattle.serve_turns.specs.declared.sending.Written.{Written}
use Rattle.serve_turns.specs.declared.sending.Written.TheVariants.{NotAppended, NotSynced, Synced}
use Rattle.serve_turns.specs.Effects.{Effect, Appends, Syncs, Sends}
use Rattle.serve_turns.specs.Kept.{Kept, with_added, with_failure, with_kept_back}
use Rattle.serve_turns.specs.Life.{Life, telling}
use Rattle.serve_turns.specs.Lines.{ack_line}

-- What a server that keeps a journal does with the downlinks of a pass: those that may be sent get into the journal, and are sent
-- once the disk has them.

-- the book that remembers a gateway's state, which forgets nothing; how much it has retired is not asked for
abbrev pub book_kept : Gateway → Book
book_kept g =
    record {
      id = g.id;
      rules = g.rules;
      floor = g.state.floor;
      list = kept g.state.list g.state.floor;
      booked = g.state.booked;
      cancelled = g.state.cancelled;
      retired = 0;
    }

-- what a server knows when its clock shows a moment
abbrev pub known_then : Kept → ℕ → Life → Knows
known_then k now l =
    record {
      devices = l.world.reg.devices;
      books = map book_kept l.world.gateways;
      forwarders = l.known;
      sessions = k.sessions;
      now = now;
    }

-- which may be sent
abbrev pub is_sendable : Fate → Bool
is_sendable (Sendable peer tmst power_dbm) = true
is_sendable fate = false

abbrev pub sendable : List Known → List ToSend → List ToSend
sendable known ds = filter (λ d. is_sendable (fate_of d known)) ds

-- `failed N G NAME`: that of an uplink which a gateway was to send is not sent, and why
abbrev pub failed_line : ToSend → List ℕ → List ℕ
failed_line d name = ack_line d.number d.candidate.gateway (Some name)

-- why those are kept back that may not be sent
abbrev pub kept_back_by : ToSend → Fate → List (List ℕ)
kept_back_by d Barred = failed_line d (codes "Session") ∷ []
kept_back_by d Unreachable = failed_line d (codes "Unsent") ∷ []
kept_back_by d (Sendable peer tmst power_dbm) = []

abbrev pub kept_back : List Known → List ToSend → List (List ℕ)
kept_back known ds = flat_map (λ d. kept_back_by d (fate_of d known)) ds

-- whether one is kept back: fewer may be sent than there are
abbrev pub some_kept_back : List Known → List ToSend → Bool
some_kept_back known ds = nat_lt (length (sendable known ds)) (length ds)

abbrev pub keeping_back : Bool → Life → Life
keeping_back any l = record l { kept = option_map (with_kept_back any) l.kept }

-- those are told that are kept back, and the journal is to be written anew
abbrev pub after_kept_back : List ToSend → Life → Life
after_kept_back ds l = keeping_back (some_kept_back l.known ds) (telling (kept_back l.known ds) l)

-- a PULL_RESP: the downlink, where it goes, and its bytes
pub record Asked : Type 0 where
  pub downlink : ToSend
  pub peer : Endpoint
  pub bytes : List ℕ

abbrev pub asked_by : ToSend → Fate → List Asked
asked_by d Barred = []
asked_by d Unreachable = []
asked_by d (Sendable peer tmst power_dbm) =
    record { downlink = d; peer = peer; bytes = pull_resp_of (token_of d) (asked_for tmst power_dbm d) } ∷ []

abbrev pub asked : List Known → List ToSend → List Asked
asked known ds = flat_map (λ d. asked_by d (fate_of d known)) ds

-- what the world around answered: how far the batch got, and of each PULL_RESP whether it went out
pub record Delivery : Type 0 where
  pub written : Written
  pub went : List Bool

-- the batch is added to the journal, and then the disk is to keep it
abbrev pub writing : Written → List ℕ → List Effect
writing NotAppended batch = Appends batch false ∷ []
writing NotSynced batch = Appends batch true ∷ Syncs false ∷ []
writing Synced batch = Appends batch true ∷ Syncs true ∷ []

abbrev pub sent_one : Asked × Bool → Effect
sent_one (a, went) = Sends a.peer a.bytes went

-- then each PULL_RESP is sent; none, where the disk doesn't keep the batch
abbrev pub sending_if : Written → List (Asked × Bool) → List Effect
sending_if Synced pairs = map sent_one pairs
sending_if NotAppended pairs = []
sending_if NotSynced pairs = []

abbrev pub delivering : Delivery → List ℕ → List Asked → List Effect
delivering d batch asks = writing d.written batch ++ sending_if d.written (zip asks d.went)

-- what is told of those that were not sent
abbrev pub unsent_line : Asked × Bool → List (List ℕ)
unsent_line (a, true) = []
unsent_line (a, false) = failed_line a.downlink (codes "Unsent") ∷ []

abbrev pub unsent : List Asked → List Bool → List (List ℕ)
unsent asks went = flat_map unsent_line (zip asks went)

abbrev pub unwritten_line : Asked → List ℕ
unwritten_line a = failed_line a.downlink (codes "Journal")

abbrev pub unwritten : List Asked → List (List ℕ)
unwritten asks = map unwritten_line asks

-- its life after a batch of so many bytes was written, or was not
abbrev pub delivered_as : Written → ℕ → List Bool → ℕ → List Asked → Kept → Life → Life
delivered_as Synced now went len asks k l = telling (unsent asks went) (record l { kept = Some (with_added len k) })
delivered_as NotAppended now went len asks k l = telling (unwritten asks) (record l { kept = Some (with_failure now k) })
delivered_as NotSynced now went len asks k l = telling (unwritten asks) (record l { kept = Some (with_failure now k) })

-- the batch that has to be kept before these are sent
abbrev pub batch_for : ℕ → List ToSend → Kept → Life → List ℕ
batch_for now ds k l = batch_text (batch_entries (known_then k now l) ds)

-- these are to be sent, if there are any, and no write has failed
abbrev pub asking_at : ℕ → Delivery → List ToSend → List Asked → Kept → Option ℕ → Life → Life
asking_at now d ds asks k (Some at) l = telling (unwritten asks) l
asking_at now d ds asks k None l = delivered_as d.written now d.went (length (batch_for now ds k l)) asks k l

abbrev pub asking : ℕ → Delivery → List ToSend → List Asked → Kept → Life → Life
asking now d ds [] k l = l
asking now d ds (a ∷ asks) k l = asking_at now d ds (a ∷ asks) k k.failed_at l

abbrev pub asking_effects_at : ℕ → Delivery → List ToSend → List Asked → Kept → Option ℕ → Life → List Effect
asking_effects_at now d ds asks k (Some at) l = []
asking_effects_at now d ds asks k None l = delivering d (batch_for now ds k l) asks

abbrev pub asking_effects : ℕ → Delivery → List ToSend → List Asked → Kept → Life → List Effect
asking_effects now d ds [] k l = []
asking_effects now d ds (a ∷ asks) k l = asking_effects_at now d ds (a ∷ asks) k k.failed_at l

-- the same, where a journal is kept
abbrev pub asking_with : ℕ → Delivery → List ToSend → List Asked → Option Kept → Life → Life
asking_with now d ds asks None l = l
asking_with now d ds asks (Some k) l = asking now d ds asks k l

abbrev pub asking_kept : ℕ → List ToSend → List Asked → Delivery → Life → Life
asking_kept now ds asks d l = asking_with now d ds asks l.kept l

abbrev pub asking_effects_with : ℕ → Delivery → List ToSend → List Asked → Option Kept → Life → List Effect
asking_effects_with now d ds asks None l = []
asking_effects_with now d ds asks (Some k) l = asking_effects now d ds asks k l

abbrev pub asking_kept_effects : ℕ → List ToSend → List Asked → Delivery → Life → List Effect
asking_kept_effects now ds asks d l = asking_effects_with now d ds asks l.kept l

-- the downlinks of a pass: those that may not be sent are told, and the others are to be sent
abbrev pub sending_if_kept : ℕ → Delivery → List ToSend → Option Kept → Life → Life
sending_if_kept now d ds None l = l
sending_if_kept now d ds (Some k) l =
    asking_kept now (sendable l.known ds) (asked l.known ds) d (after_kept_back ds l)

abbrev pub sending : {A : Type 0} → ℕ → List (Line A) → Delivery → Life → Life
sending now lines d l = sending_if_kept now d (downlinks lines) l.kept l

abbrev pub sending_effects_if_kept : ℕ → Delivery → List ToSend → Option Kept → Life → List Effect
sending_effects_if_kept now d ds None l = []
sending_effects_if_kept now d ds (Some k) l =
    asking_kept_effects now (sendable l.known ds) (asked l.known ds) d (after_kept_back ds l)

abbrev pub sending_effects : {A : Type 0} → ℕ → List (Line A) → Delivery → Life → List Effect
sending_effects now lines d l = sending_effects_if_kept now d (downlinks lines) l.kept l

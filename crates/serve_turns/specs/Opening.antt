use Rattle.std.specs.Prelude.{ℕ, ◌≡◌, List, [], map, Some, None}
use Rattle.forwarder_sessions.specs.declared.session.Forwarder.{Forwarder}
use Rattle.forwarder_sessions.specs.Sessions.{opened_session, resumed_session}
use Rattle.gateway_book.specs.Book.{Book}
use Rattle.run_lines.specs.declared.uplink_counts.UplinkCounts.{UplinkCounts}
use Rattle.serve_journal.specs.Payload.{Waiting}
use Rattle.serve_settings.specs.declared.forwarder as set
use Rattle.server_core.specs.Opened.{resuming}
use Rattle.server_core.specs.Server.{seen}
use Rattle.server_desk.specs.Settings.{SettingLists}
use Rattle.server_desk.specs.World.{opening}
use Rattle.serve_turns.specs.declared.serving.Serving.{Serving}
use Rattle.serve_turns.specs.Forwarders.{AreByGateway}
use Rattle.serve_turns.specs.Kept.{Kept}
use Rattle.serve_turns.specs.Life.{Life, IsAlive, IsReady}
use Rattle.serve_turns.specs.NewDesk.{serve_limits}
use Rattle.serve_turns.specs.Queues.{after_queues}

-- What a server opens with.

-- no uplink was answered yet
abbrev pub no_counts : UplinkCounts
no_counts = record { sent = 0; unanswered = 0; silent = 0 }

-- the life of a server that has heard nothing, on empty books, which keeps no journal
abbrev pub opened_life : SettingLists → List Forwarder → Life
opened_life settings forwarders =
    record {
      world = opening settings serve_limits;
      known = map opened_session forwarders;
      kept = None;
      drops = [];
      told_at = 0;
      counts = no_counts;
      text = [];
    }

-- it has heard nothing of these settings' gateways
pub record IsOpened {S A R : Type 0} {C : _} (settings : SettingLists) (forwarders : List Forwarder) (s : Serving S A R C)
    : Type 0 where
  pub alive : IsAlive (opened_life settings forwarders) s.answerer
  pub ready : IsReady s.answerer
  pub steps : (seen s.answerer.server).steps ≡ None

-- the same by settings that were read, with the packet forwarders by their gateways' numbers
pub record IsOpenedBy {S A R : Type 0} {C : _} (settings : SettingLists) (are_set : List set.Forwarder.Forwarder)
    (s : Serving S A R C) : Type 0 where
  pub forwarders : List Forwarder
  pub by_gateway : AreByGateway settings.gateways are_set forwarders
  pub opened : IsOpened settings forwarders s

-- a server that keeps a journal, which is still to be written: until then nothing is sent
abbrev pub unwritten : List (ℕ × List ℕ) → Kept
unwritten sessions = record { sessions = sessions; left = 0; failed_at = Some 0 }

-- the life of a server that opens on books which hold transmissions already
abbrev pub resumed_life : SettingLists → List Book → List (Forwarder × ℕ) → List (ℕ × List ℕ) → Life
resumed_life settings books forwarders sessions =
    record {
      world = resuming settings serve_limits books;
      known = map resumed_session forwarders;
      kept = Some (unwritten sessions);
      drops = [];
      told_at = 0;
      counts = no_counts;
      text = [];
    }

pub record IsResumed {S A R : Type 0} {C : _} (settings : SettingLists) (books : List Book) (forwarders : List (Forwarder × ℕ))
    (sessions : List (ℕ × List ℕ)) (waiting : List (ℕ × Waiting)) (s : Serving S A R C) : Type 0 where
  pub alive : IsAlive (after_queues A waiting (resumed_life settings books forwarders sessions)) s.answerer
  pub ready : IsReady s.answerer

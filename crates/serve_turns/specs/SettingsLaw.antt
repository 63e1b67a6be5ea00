use Rattle.std.specs.Prelude.{ℕ, ◌≡◌, true, List, Option}
use Rattle.gateway_book.specs.Book.{Book}
use Rattle.forwarder_sessions.specs.declared.session.Forwarder.{Forwarder}
use Rattle.server_core.specs.Opened.{AreBooksFor}
use Rattle.server_desk.specs.Settings.{AreSettings, SettingLists}
use Rattle.server_desk.specs.World.{World, opening}
use Rattle.serve_journal.specs.Payload.{Waiting}
use Rattle.serve_turns.specs.Control.{Arrival}
use Rattle.serve_turns.specs.Life.{Life}
use Rattle.serve_turns.specs.NewDesk.{are_accepted, serve_limits, settings_now}
use Rattle.serve_turns.specs.Opening.{resumed_life}
use Rattle.serve_turns.specs.Queues.{after_queues}
use Rattle.serve_turns.specs.Turn.{Answered, after_turn, until_desk}

-- A server may open once more with what is set of its gateways and devices at any moment. So whenever its desk is to be made anew, and
-- nothing is left to be answered, it is.

abbrev pub IsAccepted : World → Type 0
IsAccepted w = are_accepted (settings_now w) ≡ true

-- the law: this holds of whatever it opens with, and through turns: where a desk may be made anew, and behind the turn
pub record SettingsStayAccepted (A : Type 0) : Type 0 where
  pub opened : (settings : SettingLists) → AreSettings settings.gateways settings.devices → IsAccepted (opening settings serve_limits)
  pub resumed : (settings : SettingLists) (books : List Book) (forwarders : List (Forwarder × ℕ)) (sessions : List (ℕ × List ℕ))
      (waiting : List (ℕ × Waiting)) → AreSettings settings.gateways settings.devices → AreBooksFor settings.gateways books
      → IsAccepted (after_queues A waiting (resumed_life settings books forwarders sessions)).world
  pub before : (now : ℕ) (came : Option Arrival) (r : Answered) (l : Life) → IsAccepted l.world
      → IsAccepted (until_desk A now came r l).world
  pub behind : (now : ℕ) (came : Option Arrival) (r : Answered) (l : Life) → IsAccepted l.world
      → IsAccepted (after_turn A now came r l).world

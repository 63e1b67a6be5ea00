-- What a desk keeps that is made anew, and when that is.
use Rattle.std.proofs.Common.{ℕ, ◌≡◌, ◌∙◌, Bool, true, false, List, [], ◌∷◌, Option, Some, None, ap, cond, map, refl, sym}
use Rattle.std.specs.Prelude.{◌++◌, ◌&&◌, All, not}
use Rattle.std.proofs.lemmas.Simd.{map-map}
use Rattle.radio_airtime.specs.declared.data_rate.DataRate.TheVariants.{Dr0}
use Rattle.radio_bands.specs.Band.{band_of}
use Rattle.gateway_book.specs.Book.{Book}
use Rattle.gateway_book.specs.Kept.{kept}
use Rattle.uplink_gather.specs.Gatherings.{Gathering, due_of}
use Rattle.forwarder_sessions.specs.declared.session.Forwarder.{Forwarder}
use Rattle.forwarder_sessions.specs.Sessions.{Known, joined_by, may_answer, opened_session, pulled_by}
use Rattle.server_core.specs.Entries.{kept_gateway}
use Rattle.server_core.specs.Opened.{AreBooksFor}
use Rattle.server_core.specs.Schedule.{event_steps}
use Rattle.server_core.specs.Steps.{run_from, step}
use Rattle.server_desk.specs.declared.device.Counters.{Counters}
use Rattle.server_desk.specs.declared.setting.DeviceSetting.{DeviceSetting}
use Rattle.server_desk.specs.Register.{Device, counters_of}
use Rattle.server_desk.specs.Settings.{AreSettings, SettingLists, settings_fault}
use Rattle.server_desk.specs.World.{Gateway, opening}
use Rattle.serve_journal.specs.Payload.{Waiting}
use Rattle.serve_turns.specs.Control.{Arrival}
use Rattle.serve_turns.specs.CounterLaw.{HaveOwnAddresses}
use Rattle.serve_turns.specs.Devices.{settings_of}
use Rattle.serve_turns.specs.Life.{Life}
use Rattle.serve_turns.specs.NewDesk.{after_desk, all_waiting, are_accepted, has_open, is_desk_due, is_spent, serve_limits, set_now, settings_now, waits_for, with_new_desk}
use Rattle.serve_turns.specs.NewDeskLaw.{HasQueue, NewDeskKeeps, opened_so}
use Rattle.serve_turns.specs.Opening.{no_counts, resumed_life}
use Rattle.serve_turns.specs.Queues.{after_queues}
use Rattle.serve_turns.specs.SettingsLaw.{IsAccepted, SettingsStayAccepted}
use Rattle.serve_turns.specs.Turn.{Answered, after_turn, until_desk}

-- Two devices for which payloads wait, and a gateway that has sent.

abbrev device : ℕ → ℕ → Option ℕ → ℕ → List (ℕ × List ℕ) → Device
device addr opened up down queue =
    record {
      setting = record {
        addr = addr;
        nwk = [];
        app = [];
        delay = 1;
        offset = 0;
        rx2_freq = 869525000;
        rx2_rate = Dr0;
        up = up;
        down = opened;
      };
      queue = queue;
      up = up;
      down = down;
    }

abbrev with_up : Option ℕ → Device → Device
with_up up d = record d { up = up }

abbrev gateway : Gateway
gateway =
    record {
      id = 2;
      rules = record { cap = 4096; gap = 45000 };
      state = record { floor = 601001; list = []; booked = 61696; cancelled = 0 };
    }

abbrev gathering : Bool → Gathering
gathering closed = record { bytes = 64 ∷ []; opened = 1000; copies = []; closed = closed }

abbrev forwarder : Known
forwarder =
    pulled_by (record { ip = 10 ∷ 0 ∷ 0 ∷ 1 ∷ []; port = 1700 }) 500
    (opened_session (record { gateway = 2; eui = []; from = None; lead = 400000; power_dbm = 14 }))

-- the last uplink that the gateway told has this number, and is answered or not
abbrev life : ℕ → Bool → Life
life number closed =
    record {
      world = record {
        reg = record {
          devices = with_up (Some 9) (device 5 4 (Some 3) 12 ((7, 1 ∷ []) ∷ (8, []) ∷ []))
              ∷ with_up (Some 70000) (device 6 0 None 1 ((223, 2 ∷ 3 ∷ []) ∷ [])) ∷ [];
          gathered = record { list = gathering closed ∷ []; limits = serve_limits };
          asked = [];
        };
        answers = [];
        gateways = gateway ∷ [];
      };
      known = joined_by number forwarder ∷ [];
      kept = None;
      drops = [];
      told_at = 7;
      counts = no_counts;
      text = [];
    }

-- it is to be made anew behind the 32,768th uplink, and not before

pub spent_then : is_spent (life 32768 true).known ≡ true
spent_then = refl

pub not_spent_before : is_spent (life 32767 true).known ≡ false
not_spent_before = refl

-- and once that one is answered

pub due_when_answered : is_desk_due (life 32768 true) ≡ true
unfolding due_of settings_fault band_of
due_when_answered = refl

pub not_due_while_open : is_desk_due (life 32768 false) ≡ false
unfolding due_of
not_due_while_open = refl

-- The new desk.

abbrev then : Life
then = with_new_desk ℕ (life 32768 true)

-- devices open with the counters that they have, and all waits that waited, in its order
pub devices_go_on_so : then.world.reg.devices
    ≡ device 5 12 (Some 9) 12 ((7, 1 ∷ []) ∷ (8, []) ∷ []) ∷ device 6 1 (Some 70000) 1 ((223, 2 ∷ 3 ∷ []) ∷ []) ∷ []
unfolding event_steps run_from step
devices_go_on_so = refl

-- no uplink was heard, there is room for so many, and books are as they were
pub nothing_was_heard : then.world.reg.gathered ≡ record { list = []; limits = record { max_open = 4096; max_ever = 65535; max_copies = 64 } }
unfolding event_steps run_from step
nothing_was_heard = refl

pub books_are_the_same : then.world.gateways ≡ gateway ∷ []
unfolding event_steps run_from step kept
books_are_the_same = refl

-- numbers begin at 1, which the gateway may answer; where its downlinks go is known
pub numbers_begin_anew : then.known ≡ forwarder ∷ []
unfolding event_steps run_from step
numbers_begin_anew = refl

pub first_may_be_answered : map (may_answer 1) then.known ≡ true ∷ []
unfolding event_steps run_from step
first_may_be_answered = refl

-- What the law on what a new desk keeps says, from the law alone.

module _ (A : Type 0) (law : (l : Life) → NewDeskKeeps A l) (l : Life) where
  abbrev new_desk : Life
  new_desk = with_new_desk A l

  pub books_go_on : new_desk.world.gateways ≡ map kept_gateway l.world.gateways
  books_go_on = (law l).books

  -- no device loses a counter, or has one given again
  pub counters_go_on : map counters_of new_desk.world.reg.devices ≡ map counters_of l.world.reg.devices
  counters_go_on = sym (of_set new_desk.world.reg.devices) ∙ ap (map set_to) (law l).devices ∙ of_set l.world.reg.devices
    where
      set_to : DeviceSetting → Counters
      set_to s = record { up = s.up; down = s.down }

      of_set : (ds : List Device) → map set_to (map set_now ds) ≡ map counters_of ds
      of_set ds = map-map set_to set_now ds

  -- nothing that waits is lost, or comes behind what it stood before
  pub all_wait_on : HaveOwnAddresses (settings_of l.world.reg.devices) → All HasQueue l.world.reg.devices
      → all_waiting new_desk.world.reg.devices ≡ all_waiting l.world.reg.devices
  all_wait_on own queues = ap all_waiting ((law l).waiting own queues) ∙ again l.world.reg.devices
    where
      again : (ds : List Device) → all_waiting (map opened_so ds) ≡ all_waiting ds
      again [] = refl
      again (d ∷ ds) = ap (λ qs. waits_for d ++ qs) (again ds)

  -- the report goes on
  pub counts_go_on : new_desk.counts ≡ l.counts
  counts_go_on = ap (λ (m : Life). m.counts) (law l).others

-- What the law on settings says of turns, from the law alone.

module _ (A : Type 0) (law : SettingsStayAccepted A) where
  module _ (now : ℕ) (came : Option Arrival) (r : Answered) (l : Life) (set : IsAccepted l.world) where
    abbrev until : Life
    until = until_desk A now came r l

    made_by : (m : Life) → is_spent m.known ≡ true → has_open m.world ≡ false → IsAccepted m.world → after_desk A m ≡ with_new_desk A m
    made_by m spent closed may =
        ap (λ t. cond (t && not (has_open m.world) && are_accepted (settings_now m.world)) (with_new_desk A m) m) spent
        ∙ ap (λ o. cond (true && not o && are_accepted (settings_now m.world)) (with_new_desk A m) m) closed
        ∙ ap (λ a. cond (true && not false && a) (with_new_desk A m) m) may

    -- a desk that is to be made anew is, once nothing is left to be answered
    pub desk_is_made : is_spent until.known ≡ true → has_open until.world ≡ false → after_turn A now came r l ≡ with_new_desk A until
    desk_is_made spent closed = made_by until spent closed (law.before now came r l set)

    -- and so is that of the next turn
    pub next_desk_may_be_made : IsAccepted (after_turn A now came r l).world
    next_desk_may_be_made = law.behind now came r l set

  -- so from the opening on
  pub first_desk_may_be_made : (settings : SettingLists) → AreSettings settings.gateways settings.devices
      → IsAccepted (opening settings serve_limits)
  first_desk_may_be_made = law.opened

  pub first_desk_of_a_journal_may_be_made : (settings : SettingLists) (books : List Book) (forwarders : List (Forwarder × ℕ))
      (sessions : List (ℕ × List ℕ)) (waiting : List (ℕ × Waiting)) → AreSettings settings.gateways settings.devices
      → AreBooksFor settings.gateways books
      → IsAccepted (after_queues A waiting (resumed_life settings books forwarders sessions)).world
  first_desk_of_a_journal_may_be_made = law.resumed

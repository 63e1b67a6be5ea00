use Rattle.std.specs.Prelude.{ℕ, ◌≡◌, ◌+◌, ◌-◌, ◌^◌, min, List, [], ◌∷◌, ◌++◌, map, slice_get, slice_set, Option, Some, None}
use Rattle.text_lines.specs.Line.{text_of}
use Rattle.forwarder_sessions.specs.Sessions.{Known, joined_by}
use Rattle.server_core.specs.declared.event.Event.{Event}
use Rattle.server_core.specs.declared.entry.Entry.{Entry}
use Rattle.server_core.specs.declared.entry.Line.{Line}
use Rattle.server_core.specs.declared.entry.Line.TheVariants.{Heard, NotHeard}
use Rattle.server_core.specs.Schedule.{reached, event_steps}
use Rattle.server_core.specs.Entries.{entry_at, event_lines}
use Rattle.server_core.specs.Server.{seen, IsAt, IsBetweenCalls}
use Rattle.server_desk.specs.declared.faults.DeskFault.{DeskFault}
use Rattle.server_desk.specs.declared.heard.DeskHeard.TheVariants.{Opened, Joined}
use Rattle.server_desk.specs.World.{World}
use Rattle.run_lines.specs.EntryLine.{line_text}
use Rattle.run_lines.specs.EntryName.{hear_name}
use Rattle.run_lines.specs.declared.uplink_counts.UplinkCounts.{UplinkCounts}
use Rattle.run_lines.specs.UplinkCounts.{counts_of}
use Rattle.serve_turns.specs.declared.answerer.Answerer.{Answerer}
use Rattle.serve_turns.specs.Devices.{settings_of, without_counters}
use Rattle.serve_turns.specs.Kept.{Kept}
use Rattle.serve_turns.specs.Tallies.{Count, dropped_by}
use Rattle.serve_turns.specs.Lines.{asked_line, drop_line}

-- What a server knows, answers, tells and counts.

-- the world; the packet forwarders; the journal, where one is kept; what was dropped and not told yet, and when that was told last;
-- how many uplinks were answered, by the lines that answer events; and the lines of this turn so far
pub record Life : Type 0 where
  pub world : World
  pub known : List Known
  pub kept : Option Kept
  pub drops : List Count
  pub told_at : ℕ
  pub counts : UplinkCounts
  pub text : List ℕ

-- these lines are told
abbrev pub telling : List (List ℕ) → Life → Life
telling lines l = record l { text = l.text ++ text_of lines }

-- one was dropped for the reason with this name
abbrev pub dropping : List ℕ → Option (List ℕ) → Life → Life
dropping name eui l = record l { drops = dropped_by name eui l.drops }

-- what was dropped is told, and counted anew
abbrev pub saying_drops : Life → Life
saying_drops l = record l { text = l.text ++ text_of (map drop_line l.drops); drops = [] }

-- what an event asks for is done
abbrev pub doing : {A : Type 0} → Event A → Life → Life
doing e l = record l { world = reached l.world (event_steps l.world e) }

-- the line of an event, and those that answer it
abbrev pub told_event : {A : Type 0} → World → Event A → List (List ℕ)
told_event w e = asked_line e ∷ map line_text (event_lines w e)

-- a count goes no further than 2^128 - 1
abbrev pub counted : ℕ → ℕ → ℕ
counted count more = min (count + more) (2 ^ 128 - 1)

-- the uplinks of lines that answer an event are counted
abbrev pub counts_with : UplinkCounts → UplinkCounts → UplinkCounts
counts_with t u =
    record {
      sent = counted t.sent u.sent;
      unanswered = counted t.unanswered u.unanswered;
      silent = counted t.silent u.silent;
    }

abbrev pub counting : {A : Type 0} → List (Line A) → Life → Life
counting lines l = record l { counts = counts_with l.counts (counts_of (map (entry_at 0) lines)) }

-- an event is answered, and told
abbrev pub after_event : {A : Type 0} → Event A → Life → Life
after_event e l = counting (event_lines l.world e) (telling (told_event l.world e) (doing e l))

-- why a copy was refused, by the lines that answer it
abbrev pub refusal_of : {A : Type 0} → List (Line A) → Option DeskFault
refusal_of [] = None
refusal_of (NotHeard fault ∷ more) = Some fault
refusal_of (line ∷ more) = None

-- the number of the uplink of which it is a copy, by the lines that answer it
abbrev pub number_in : {A : Type 0} → List (Line A) → Option ℕ
number_in (Heard (Opened n repeat) ∷ more) = Some n
number_in (Heard (Joined n copies) ∷ more) = Some n
number_in lines = None

-- the gateway at a place told a copy of the uplink with this number
abbrev pub joined_at : ℕ → ℕ → List Known → Option Known → List Known
joined_at place n known None = known
joined_at place n known (Some k) = slice_set known place (joined_by n k)

abbrev pub joining : ℕ → Option ℕ → Life → Life
joining place None l = l
joining place (Some n) l = record l { known = joined_at place n l.known (slice_get l.known place) }

-- a copy of an uplink is told, and noted of the gateway at a place, unless it was refused: then it is counted alone, by the EUI of
-- the gateway that heard it
abbrev pub after_copy_as : {A : Type 0} → List ℕ → ℕ → Event A → List (Line A) → Life → Option DeskFault → Life
after_copy_as eui place e lines l None = joining place (number_in lines) (after_event e l)
after_copy_as eui place e lines l (Some fault) = dropping (hear_name fault) (Some eui) (doing e l)

abbrev pub after_copy : {A : Type 0} → List ℕ → ℕ → Event A → Life → Life
after_copy eui place e l =
    after_copy_as eui place e (event_lines l.world e) l (refusal_of (event_lines l.world e))

-- it lives this life
pub record IsAlive {S A R : Type 0} {C : _} (l : Life) (a : Answerer S A R C) : Type 0 where
  pub at : IsAt l.world (seen a.server)
  pub set : map without_counters a.settings.devices ≡ settings_of l.world.reg.devices
  pub known : a.forwarders.sessions.items ≡ l.known
  pub kept : a.keeping ≡ l.kept
  pub drops : a.drops.items ≡ l.drops
  pub told_at : a.told_at ≡ l.told_at
  pub counts : a.counts ≡ l.counts
  pub text : a.text.writer.items ≡ l.text

-- it is ready for an event, and all lines of earlier ones were taken out
pub record IsReady {S A R : Type 0} {C : _} (a : Answerer S A R C) : Type 0 where
  pub between : IsBetweenCalls (seen a.server)
  pub taken : (seen a.server).outcomes ≡ []

-- it was ready, is so again, and its life went on so, whatever it was
pub record Makes {S A R : Type 0} {C : _} (on : Life → Life) (old new : Answerer S A R C) : Type 0 where
  pub ready : IsReady new
  pub goes : (l : Life) → IsAlive l old → IsAlive (on l) new

-- these are the lines that answer an event in its life, whatever it was
abbrev pub AreAnswers : {S A R : Type 0} → {C : _} → Event A → List (Entry A) → Answerer S A R C → Type 0
AreAnswers e told old = (l : Life) → IsAlive l old → map (λ x. x.line) told ≡ event_lines l.world e

use Rattle.std.specs.Prelude.{ℕ, ◌≡◌, ◌^◌, Bool, false, ◌||◌, List, [], ◌∷◌, Option, IsSome}
use Rattle.air_ledger.specs.Tills.{Holding}
use Rattle.std.specs.Io.KnownBytes.{Appends}
use Rattle.text_lines.specs.Line.{text_of}
use Rattle.text_words.specs.declared.fault.TextFault.{TextFault}
use Rattle.text_words.specs.declared.fault.TextFault.TheVariants.{NoMemory}
use Rattle.text_words.specs.Words.{has_refusal}
use Rattle.run_lines.specs.declared.uplink_counts.UplinkCounts.{UplinkCounts}
use Rattle.run_lines.specs.UplinkCounts.{counts_of, counts_sum, AreCountsUpTo}
use Rattle.run_server.specs.Booking.{Booking}
use Rattle.run_server.specs.WorkersRun.{opening_till}
use Rattle.airbook_text.specs.Receives.{datagram_room, Received, Seen, AreMade}
use Rattle.airbook_text.specs.ListenTurns.{Account, Said, account_of}
use Rattle.airbook_text.specs.Listening.{IsReport, SaysInPart}

-- What the steps of a server that listens do.

-- what it has come to: what was settled and booked, how many uplinks were answered, and whether a line began with `no` or `bad`
pub record Progress : Type 0 where
  pub account : Account
  pub counts : UplinkCounts
  pub refused : Bool

-- that of a till, what was booked, the counts, and whether a line was a refusal
abbrev pub progress : Holding → List Booking → UplinkCounts → Bool → Progress
progress till bookings counts refused = record { account = account_of till bookings; counts = counts; refused = refused }

-- where nothing has happened
abbrev pub opened : Progress
opened = progress opening_till [] (counts_of {A = Unit {0}} []) false

-- this was said: it was counted, and written
pub record HasSaid (said : Said) (old new : Progress) (before after : Option (List ℕ)) : Type 0 where
  pub counts : new.counts ≡ counts_sum old.counts (counts_of said.entries)
  pub small : AreCountsUpTo (2 ^ 64) (counts_of said.entries)
  pub refused : new.refused ≡ old.refused || has_refusal said.lines
  pub written : Appends before after (text_of said.lines)

-- what is to be said so, and booked, was
abbrev pub Says : (Account → Said → Type 0) → Progress → Progress → Option (List ℕ) → Option (List ℕ) → Type 0
Says IsSaid old new before after = (said : Said) × IsSaid new.account said × HasSaid said old new before after

-- the report was written
abbrev pub Reports : List ℕ → Progress → Option (List ℕ) → Option (List ℕ) → Type 0
Reports ids s before after =
    (report : List (List ℕ)) × IsReport ids s.account s.counts report × (has_refusal report ≡ false)
    × Appends before after (text_of report)

-- one receive was made, and what is to be said to what it gave was
abbrev pub Turns : (Received → Account → Said → Type 0) → Seen → Seen → Progress → Progress → Option (List ℕ)
    → Option (List ℕ) → Type 0
Turns IsSaid seen seen_after old new before after =
    (received : Received) × AreMade datagram_room 1 seen seen_after (received ∷ []) × Says (IsSaid received) old new before after

-- or it was said in part, of what has an answer; a growth was refused only where a datagram was received
abbrev pub TurnsInPart : (Received → Type 0) → (Received → Account → Said → Type 0) → Seen → Seen → Option (List ℕ)
    → Option (List ℕ) → TextFault → Type 0
TurnsInPart IsToBeSaid IsSaid seen seen_after before after fault =
    (received : Received) × AreMade datagram_room 1 seen seen_after (received ∷ []) × (fault ≡ NoMemory → IsSome received)
    × IsToBeSaid received × SaysInPart (IsSaid received) before after fault

use Rattle.std.specs.Prelude.{ℕ, List, [], ◌∷◌, Option, Some, None}
use Rattle.rx_windows.specs.declared.candidate.Candidate.{Candidate}
use Rattle.server_core.specs.declared.entry.Entry.{Entry}
use Rattle.server_core.specs.declared.entry.Line.{Line}
use Rattle.server_core.specs.declared.entry.Line.TheVariants.{Send, Frame}
use Rattle.serve_downlinks.specs.declared.downlink.Downlink.{Downlink}

-- The downlinks among the lines that answer a pass.

-- a downlink: the number of the uplink that it answers, the candidate that was booked for it, and its PHYPayload
pub record ToSend : Type 0 where
  pub number : ℕ
  pub candidate : Candidate
  pub frame : List ℕ

-- what the code keeps of one
abbrev pub to_send : Downlink → ToSend
to_send d = record { number = d.number; candidate = d.candidate; frame = d.frame.now }

abbrev pub line_of : {A : Type 0} → Entry A → Line A
line_of e = e.line

-- the first two lines are one's: the candidate is told, and then its frame
abbrev pub downlink_at : {A : Type 0} → List (Line A) → Option ToSend
downlink_at (Send n c ∷ Frame m bytes ∷ more) = Some (record { number = n; candidate = c; frame = bytes })
downlink_at lines = None

abbrev pub with_first : Option ToSend → List ToSend → List ToSend
with_first None ds = ds
with_first (Some d) ds = d ∷ ds

abbrev pub downlinks : {A : Type 0} → List (Line A) → List ToSend
downlinks [] = []
downlinks (l ∷ ls) = with_first (downlink_at (l ∷ ls)) (downlinks ls)

use Rattle.std.specs.Prelude.{ℕ, ◌≤◌, ◌≡◌, ⊤, Option, Some, None}
use Rattle.radio_airtime.specs.TimeOnAir.{airtime_of}
use Rattle.rx_windows.specs.declared.candidate.Candidate.{Candidate}
use Rattle.answer_ticket.specs.declared.outcome.Ending.{Ending}
use Rattle.answer_ticket.specs.declared.outcome.Ending.TheVariants.{Answered, Unanswered, GivenUp}

-- How an answer ended.

-- the gateway whose book has the answer
abbrev pub gateway_of : Ending → Option ℕ
gateway_of (Answered gateway window start airtime carried) = Some gateway
gateway_of (Unanswered refusal) = None
gateway_of GivenUp = None

-- the longest time on air that an answer may have, in microseconds: that of 64 bytes at DR0
abbrev pub longest_us : ℕ
longest_us = 2793472

-- an answer that was booked is on air for no longer
abbrev pub IsWithinLongest : Ending → Type 0
IsWithinLongest (Answered gateway window start airtime carried) = airtime ≤ longest_us
IsWithinLongest (Unanswered refusal) = ⊤
IsWithinLongest GivenUp = ⊤

-- how an answer ended that was booked as the candidate
abbrev pub answered_as : Candidate → Ending
answered_as c = Answered c.gateway c.window c.start (airtime_of c.rate c.len) c.carries

-- an answer that was booked was booked as a candidate: it is on air for as long as the formula says of that one
abbrev pub IsOfCandidate : Ending → Type 0
IsOfCandidate (Answered gateway window start airtime carried) =
    (c : Candidate) × (Answered gateway window start airtime carried ≡ answered_as c)
IsOfCandidate (Unanswered refusal) = ⊤
IsOfCandidate GivenUp = ⊤

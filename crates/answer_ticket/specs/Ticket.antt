use Rattle.std.specs.Prelude.{ℕ, ◌≡◌, ◌<◌, List, length, Option}
use Rattle.rx_windows.specs.declared.candidate.Candidate.{Candidate}
use Rattle.answer_ticket.specs.Job.{Job, IsJob, candidates, candidate_at}

-- What callers see of a ticket: its job, and the place of the candidate to try next, counted from 0.
pub record Standing : Type 0 where
  pub job : Job
  pub at : ℕ

-- the candidate to try next
abbrev pub candidate_of : Standing → Option Candidate
candidate_of t = candidate_at t.job t.at

-- where a ticket may stand: at a candidate of a job
pub record IsStanding (t : Standing) : Type 0 where
  pub job : IsJob t.job
  pub at : t.at < length (candidates t.job)

-- what every ticket keeps of where it stands and of its list of candidates
pub record IsTicket (t : Standing) (stored : List Candidate) : Type 0 where
  pub standing : IsStanding t
  pub list : stored ≡ candidates t.job

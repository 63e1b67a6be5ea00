use Rattle.std.specs.Prelude.{ℕ, ◌≡◌, ◌<◌, ◌⊎◌, true, List, Option, Some, None, Ok}
use Rattle.std.specs.Option.{IsSomeAnd}
use Rattle.gateway_book.specs.declared.refusal.Refusal.{Refusal}
use Rattle.gateway_book.specs.Book.{Book}
use Rattle.rx_windows.specs.declared.candidate.Candidate.{Candidate}
use Rattle.answer_ticket.specs.declared.outcome.Ending.{Ending}
use Rattle.answer_ticket.specs.declared.outcome.Ending.TheVariants.{Answered, Unanswered, GivenUp}
use Rattle.answer_ticket.specs.declared.tried.Receipt.{Receipt}
use Rattle.answer_ticket.specs.declared.tried.Tried.TheVariants.{Wrong, NoMemory}
use Rattle.answer_ticket.specs.Ended.{answered_as}
use Rattle.answer_ticket.specs.Job.{Job, candidate_at}
use Rattle.answer_ticket.specs.Ticket.{Standing, candidate_of}
use Rattle.answer_ticket.specs.Tried.{IsReceipt, next_of, refusal_by}
use Rattle.server_desk.specs.Register.{is_among}
use Rattle.server_station.specs.Stations.{WasTaken, WasTried}

-- How the tries of a ticket end, after this project's profile. Each book that was asked is some book that was found behind the
-- lock of the candidate's gateway.

-- a book of the candidate's gateway, which is one of these, answered so, memory aside
pub record HasAnswered (ids : List ℕ) (job : Job) (c : Candidate) (answer : Option Refusal) : Type 0 where
  pub here : is_among ids c.gateway ≡ true
  pub book : Book
  pub asked : book.id ≡ c.gateway
  pub answered : refusal_by book job c ≡ answer

-- each candidate of the job before this place was refused at such a gateway
abbrev pub AreRefused : List ℕ → Job → ℕ → Type 0
AreRefused ids job at =
    (k : ℕ) (c : Candidate) → k < at → candidate_at job k ≡ Some c → (refusal : Refusal) × HasAnswered ids job c (Some refusal)

-- the candidate was accepted: it is the answer, and its receipt names it and has its frame
pub record IsAccepted {A : Type 0} (ids : List ℕ) (job : Job) (c : Candidate) (ending : Ending)
    (booked : Option (Receipt A)) : Type 0 where
  pub accepted : HasAnswered ids job c None
  pub ended : ending ≡ answered_as c
  pub receipt : IsSomeAnd booked (IsReceipt job c)

-- the candidate at which the ticket stood was refused so, and it was the last
pub record IsTheLast {A : Type 0} (ids : List ℕ) (t : Standing) (c : Candidate) (refusal : Refusal)
    (booked : Option (Receipt A)) : Type 0 where
  pub refused : HasAnswered ids t.job c (Some refusal)
  pub last : candidate_of (next_of t) ≡ None
  pub unbooked : booked ≡ None

-- the ticket was given up where it stood: there is no such gateway, or a try found no memory, or another gateway's book
pub record IsGivenUp {A : Type 0} (ids : List ℕ) (t : Standing) (c : Candidate) (booked : Option (Receipt A)) : Type 0 where
  pub tried : is_among ids c.gateway ≡ true → WasTried {A = A} t (NoMemory t) ⊎ WasTried {A = A} t (Wrong t)
  pub unbooked : booked ≡ None

-- how a ticket ended that stood at this candidate
abbrev pub EndsAt : {A : Type 0} → List ℕ → Standing → Candidate → Ending → Option (Receipt A) → Type 0
EndsAt ids t c (Answered gateway window start airtime carried) booked =
    IsAccepted ids t.job c (Answered gateway window start airtime carried) booked
EndsAt ids t c (Unanswered refusal) booked = IsTheLast ids t c refusal booked
EndsAt ids t c GivenUp booked = IsGivenUp ids t c booked

-- at a station of these gateways the candidates of the job were tried in their order, each once, until the ticket ended so
pub record IsTriedOut {A : Type 0} (ids : List ℕ) (job : Job) (ending : Ending) (booked : Option (Receipt A)) : Type 0 where
  pub ticket : Standing
  pub own : ticket.job ≡ job
  pub before : AreRefused ids ticket.job ticket.at
  pub ended : IsSomeAnd (candidate_of ticket) (λ c. EndsAt ids ticket c ending booked)

-- some desk gave a ticket for number n, and it was tried until it ended so
pub record IsAnswered {A : Type 0} (ids : List ℕ) (n : ℕ) (ending : Ending) (booked : Option (Receipt A)) : Type 0 where
  pub given : Standing
  pub taken : WasTaken n (Ok given)
  pub tried : IsTriedOut ids given.job ending booked

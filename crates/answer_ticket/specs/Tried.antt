use Rattle.std.specs.Prelude.{ℕ, ◌≡◌, ◌≢◌, ◌+◌, Bool, List, Option, Some, None, IsSome}
use Rattle.std.specs.Option.{IsSomeAnd}
use Rattle.resv_list.specs.declared.reservation.Reservation.{Reservation}
use Rattle.gateway_book.specs.declared.refusal.Refusal.{Refusal}
use Rattle.gateway_book.specs.Answer.{IsAsked, refusal_of}
use Rattle.gateway_book.specs.Book.{Book, terms_of, with_booked}
use Rattle.rx_windows.specs.declared.candidate.Candidate.{Candidate}
use Rattle.answer_ticket.specs.declared.outcome.Ending.{Ending}
use Rattle.answer_ticket.specs.declared.outcome.Ending.TheVariants.{Unanswered}
use Rattle.answer_ticket.specs.declared.outcome.Outcome.{Outcome}
use Rattle.answer_ticket.specs.declared.tried.Receipt.{Receipt}
use Rattle.answer_ticket.specs.declared.tried.Tried.{Tried}
use Rattle.answer_ticket.specs.declared.tried.Tried.TheVariants.{Booked, Next, Out, Wrong, NoMemory}
use Rattle.answer_ticket.specs.Ended.{answered_as}
use Rattle.answer_ticket.specs.Job.{Job, ask_for, frame_for}
use Rattle.answer_ticket.specs.Ticket.{Standing, candidate_of}

-- What a ticket gives that is tried on a gateway's book, after this project's profile.

-- what a book answers, memory aside, to the candidate
abbrev pub refusal_by : Book → Job → Candidate → Option Refusal
refusal_by book job c = refusal_of (terms_of book) book.list (ask_for job c)

-- what is left of a ticket that ended so
abbrev pub stub_of : Job → Ending → Outcome
stub_of job ending = record { number = job.number; result = ending }

-- the ticket at the candidate after the one that it stood at
abbrev pub next_of : Standing → Standing
next_of t = record t { at = t.at + 1 }

-- the receipt of the job: it names the candidate's transmission, and has its frame
pub record IsReceipt {A : Type 0} (job : Job) (c : Candidate) (receipt : Receipt A) : Type 0 where
  pub number : receipt.number ≡ job.number
  pub gateway : receipt.gateway ≡ c.gateway
  pub window : receipt.window ≡ c.window
  pub reservation : IsAsked (ask_for job c) receipt.reservation
  pub frame : receipt.frame ≡ frame_for job c

-- what a receipt says was booked
abbrev pub booked_candidate : {A : Type 0} → Receipt A → Bool → Candidate
booked_candidate r carries =
    record {
      gateway = r.gateway;
      window = r.window;
      start = r.reservation.start;
      freq_hz = r.reservation.freq_hz;
      rate = r.reservation.rate;
      len = r.reservation.len;
      carries = carries;
    }

-- the book accepted the candidate, and has its reservation
pub record IsBooked {A : Type 0} (t : Standing) (c : Candidate) (old new : Book) (stub : Outcome)
    (receipt : Receipt A) : Type 0 where
  pub asked : old.id ≡ c.gateway
  pub accepted : refusal_by old t.job c ≡ None
  pub ended : stub ≡ stub_of t.job (answered_as c)
  pub named : IsReceipt t.job c receipt
  pub book : new ≡ with_booked old receipt.reservation

-- the book refused the candidate, and another follows
pub record IsNext (t : Standing) (c : Candidate) (old new : Book) (ticket : Standing) (refusal : Refusal) : Type 0 where
  pub asked : old.id ≡ c.gateway
  pub refused : refusal_by old t.job c ≡ Some refusal
  pub follows : IsSome (candidate_of (next_of t))
  pub moved : ticket ≡ next_of t
  pub book : new ≡ old

-- the book refused the candidate, and it was the last
pub record IsOut (t : Standing) (c : Candidate) (old new : Book) (stub : Outcome) (refusal : Refusal) : Type 0 where
  pub asked : old.id ≡ c.gateway
  pub refused : refusal_by old t.job c ≡ Some refusal
  pub last : candidate_of (next_of t) ≡ None
  pub ended : stub ≡ stub_of t.job (Unanswered refusal)
  pub book : new ≡ old

-- the book is another gateway's
pub record IsWrong (t : Standing) (c : Candidate) (old new : Book) (ticket : Standing) : Type 0 where
  pub other : old.id ≢ c.gateway
  pub same : ticket ≡ t
  pub book : new ≡ old

-- there was no memory for the frame or in the book
pub record IsWithoutMemory (t : Standing) (c : Candidate) (old new : Book) (ticket : Standing) : Type 0 where
  pub asked : old.id ≡ c.gateway
  pub same : ticket ≡ t
  pub book : new ≡ old

-- what a try of the candidate gives, and the book before and after it
abbrev pub TriedAs : {A : Type 0} → Standing → Candidate → Book → Book → Tried A → Type 0
TriedAs t c old new (Booked stub receipt) = IsBooked t c old new stub receipt
TriedAs t c old new (Next ticket refusal) = IsNext t c old new ticket refusal
TriedAs t c old new (Out stub refusal) = IsOut t c old new stub refusal
TriedAs t c old new (Wrong ticket) = IsWrong t c old new ticket
TriedAs t c old new (NoMemory ticket) = IsWithoutMemory t c old new ticket

-- what a try of the ticket gives: it stands at a candidate, and that one is tried
abbrev pub TriedIs : {A : Type 0} → Standing → Book → Book → Tried A → Type 0
TriedIs t old new tried = IsSomeAnd (candidate_of t) (λ c. TriedAs t c old new tried)

-- what is given where the book has reserved the candidate
abbrev pub booked_of : {A : Type 0} → Job → Candidate → Reservation → List ℕ → Tried A
booked_of job c r frame =
    Booked
    (stub_of job (answered_as c))
    (record { number = job.number; gateway = c.gateway; window = c.window; reservation = r; frame = frame })

-- what is given where the book refuses a candidate, by the candidate that follows it, if one does
abbrev pub refused_before : {A : Type 0} → Option Candidate → Standing → Refusal → Tried A
refused_before None t refusal = Out (stub_of t.job (Unanswered refusal)) refusal
refused_before (Some c) t refusal = Next (next_of t) refusal

-- what is given where the book refuses the candidate that the ticket stands at
abbrev pub refused_of : {A : Type 0} → Standing → Refusal → Tried A
refused_of t refusal = refused_before (candidate_of (next_of t)) t refusal

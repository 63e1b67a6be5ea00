use Rattle.std.specs.Prelude.{◌≡◌, ◌≢◌, List, Option, Some, None, Result, Err, MatchOption}
use Rattle.std.proofs.Common.{refl, ap, ◌∙◌, arith, ◌⊎◌, inl, inr}
use Rattle.resv_list.specs.declared.reservation.Reservation.{Reservation}
use Rattle.gateway_book.specs.declared.refusal.Refusal.{Refusal}
use Rattle.gateway_book.specs.declared.refusal.Refusal.TheVariants as refusal
use Rattle.gateway_book.specs.declared.ask.Ask.{Ask}
use Rattle.gateway_book.specs.Answer.{refusal_of}
use Rattle.gateway_book.specs.Book.{Book, terms_of}
use Rattle.rx_windows.specs.declared.candidate.Candidate.{Candidate}
use Rattle.rx_windows.proofs.WindowLaws.{length-candidates_of}
use Rattle.answer_ticket.specs.declared.tried.Tried.{Tried}
use Rattle.answer_ticket.specs.declared.tried.Tried.TheVariants.{NoMemory}
use Rattle.answer_ticket.specs.Job.{Job, IsJob, candidates, ask_for}
use Rattle.answer_ticket.specs.Ticket.{Standing, IsTicket, candidate_of}
use Rattle.answer_ticket.specs.Tried.{TriedIs, TriedAs, refusal_by, refused_before, refused_of, next_of}

-- What a ticket's calls rest on.

-- the first candidate is there
pub first_kept : (job : Job) (stored : List Candidate) → IsJob job → stored ≡ candidates job
    → IsTicket (record { job = job; at = 0 }) stored
first_kept job stored h e =
    let heard = h.heard_by_one in
    let two = length-candidates_of job.copies job.plan in
    record { standing = record { job = h; at = omega arith }; list = e }

-- a refusal is want of memory or another
wants_memory : (r : Refusal) → (r ≡ refusal.NoMemory) ⊎ (r ≢ refusal.NoMemory)
wants_memory refusal.NoMemory = inl refl
wants_memory r = inr (λ e. absurd (cc))

abbrev refusing : Refusal → Result Reservation Refusal
refusing r = Err r

module _ {A : Type 0} (t : Standing) (c : Candidate) (old : Book) (asked : old.id ≡ c.gateway) where
  -- the book found no memory
  memory_tried : (tried : Tried A) → tried ≡ NoMemory t → TriedAs t c old old tried
  memory_tried tried e = rw e (record { asked = asked; same = refl; book = refl })

  -- the book refused the candidate
  next_tried : (r : Refusal) (tried : Tried A) (o : Option Candidate) → candidate_of (next_of t) ≡ o
      → refusal_by old t.job c ≡ Some r → tried ≡ refused_before o t r → TriedAs t c old old tried
  next_tried r tried None e f same = rw same (record { asked = asked; refused = f; last = e; ended = refl; book = refl })
  next_tried r tried (Some next) e f same =
      rw same (record { asked = asked; refused = f; follows = rw e refl; moved = refl; book = refl })

  tried_by : (o : Option Refusal) (r : Refusal) (tried : Tried A) → refusal_by old t.job c ≡ o
      → MatchOption o (r ≡ refusal.NoMemory) (λ s. refusing r ≡ Err s) → tried ≡ refused_of t r → r ≢ refusal.NoMemory
      → TriedAs t c old old tried
  tried_by None r tried f answer e other = absurd (other answer)
  tried_by (Some s) r tried f answer e other =
      let same : s ≡ r = cc in
      next_tried r tried (candidate_of (next_of t)) refl (f ∙ ap Some same) e

  -- what an Err of the book gives that was asked for the candidate
  pub err_tried : (ask : Ask) (r : Refusal) (tried : Tried A) → candidate_of t ≡ Some c → ask ≡ ask_for t.job c
      → MatchOption (refusal_of (terms_of old) old.list ask) (r ≡ refusal.NoMemory) (λ s. refusing r ≡ Err s)
      → (r ≡ refusal.NoMemory → tried ≡ NoMemory t) → (r ≢ refusal.NoMemory → tried ≡ refused_of t r) → TriedIs t old old tried
  err_tried ask r tried at same answer memory refused =
      rw at
      (elim (wants_memory r) [
        | inl m ↦ memory_tried tried (memory m)
        | inr m ↦ tried_by (refusal_by old t.job c) r tried refl
            (rw same at answer) (refused m) m
      ])

-- Lemmas on the tries of a ticket.
use Rattle.std.proofs.Common.{ℕ, ◌≡◌, ◌+◌, ◌⊎◌, inl, inr, true, List, Option, Some, None, IsSome, refl, sym}
use Rattle.std.proofs.Common.{ap, ◌∙◌, subst, arith}
use Rattle.std.specs.Option.{IsSomeAnd, option_map, option_map_or}
use Rattle.std.proofs.lemmas.Bool.{cases_lt}
use Rattle.std.proofs.lemmas.Option.{same_Some}
use Rattle.gateway_book.specs.declared.refusal.Refusal.{Refusal}
use Rattle.gateway_book.specs.Book.{Book}
use Rattle.rx_windows.specs.declared.candidate.Candidate.{Candidate}
use Rattle.answer_ticket.specs.declared.outcome.Ending.TheVariants.{GivenUp}
use Rattle.answer_ticket.specs.declared.outcome.Outcome.{Outcome}
use Rattle.answer_ticket.specs.declared.tried.Receipt.{Receipt}
use Rattle.answer_ticket.specs.declared.tried.Tried.{Tried}
use Rattle.answer_ticket.specs.declared.tried.Tried.TheVariants.{Wrong, NoMemory}
use Rattle.answer_ticket.specs.Job.{Job}
use Rattle.answer_ticket.specs.Ticket.{Standing, candidate_of}
use Rattle.answer_ticket.specs.Tried.{IsBooked, IsNext, IsOut, IsWrong, IsWithoutMemory}
use Rattle.server_desk.specs.Register.{is_among}
use Rattle.server_station.specs.Stations.{WasTried, gateway_to_try}
use Rattle.server_station.specs.Tries.{HasAnswered, AreRefused, EndsAt, IsTriedOut}

-- a try that hands this ticket back, as one of another gateway's book
abbrev pub wrong_of : (A : Type 0) → Standing → Tried A
wrong_of A t = Wrong t

-- and as one that found no memory
abbrev pub vain_of : (A : Type 0) → Standing → Tried A
vain_of A t = NoMemory t

-- a ticket that comes back, of a try that found no memory or another gateway's book, is as it was
module _ (A : Type 0) (t back : Standing) where
  wrong_at : (old new : Book) (o : Option Candidate) → IsSomeAnd o (λ c. IsWrong t c old new back) → back ≡ t
  wrong_at old new None h = absurd h
  wrong_at old new (Some c) h = h.same

  vain_at : (old new : Book) (o : Option Candidate) → IsSomeAnd o (λ c. IsWithoutMemory t c old new back) → back ≡ t
  vain_at old new None h = absurd h
  vain_at old new (Some c) h = h.same

  pub tried_in_vain : (tried : Tried A) → WasTried t tried → (tried ≡ wrong_of A back) ⊎ (tried ≡ vain_of A back)
      → WasTried t (vain_of A t) ⊎ WasTried t (wrong_of A t)
  tried_in_vain tried w (inl e) =
      let h : WasTried t (wrong_of A back) = subst (λ (x : Tried A). WasTried t x) e w in
      inr (subst (λ b. WasTried t (wrong_of A b)) (wrong_at h.0 h.1 (candidate_of t) h.2) h)
  tried_in_vain tried w (inr e) =
      let h : WasTried t (vain_of A back) = subst (λ (x : Tried A). WasTried t x) e w in
      inl (subst (λ b. WasTried t (vain_of A b)) (vain_at h.0 h.1 (candidate_of t) h.2) h)

-- the gateway of a book that was asked is that of the candidate at which the ticket stands
tried_gateway : (o : Option Candidate) (id : ℕ) → option_map (λ (c : Candidate). c.gateway) o ≡ Some id
    → option_map_or (λ (c : Candidate). c.gateway) o 0 ≡ id
tried_gateway None id e = absurd (cc (e))
tried_gateway (Some c) id e = same_Some _ _ e

pub is_among_tried : (ids : List ℕ) (t : Standing) (id : ℕ) → option_map (λ (c : Candidate). c.gateway) (candidate_of t) ≡ Some id
    → is_among ids id ≡ true → is_among ids (gateway_to_try t) ≡ true
is_among_tried ids t id e among = ap (is_among ids) (tried_gateway (candidate_of t) id e) ∙ among

-- and the ticket stands at one
pub stands_at : (o : Option Candidate) (id : ℕ) → option_map (λ (c : Candidate). c.gateway) o ≡ Some id → IsSome o
stands_at None id e = absurd (cc (e))
stands_at (Some c) id e = refl

-- what a try of a ticket says whose candidates were refused up to where it stands
module _ (ids : List ℕ) (job : Job) (t : Standing) (own : t.job ≡ job) (so_far : AreRefused ids t.job t.at) where
  -- the candidate's gateway is the one to try
  here_at : (c : Candidate) → candidate_of t ≡ Some c → is_among ids (gateway_to_try t) ≡ true → is_among ids c.gateway ≡ true
  here_at c stands among = sym (ap (λ o. is_among ids (option_map_or (λ (d : Candidate). d.gateway) o 0)) stands) ∙ among

  one_more : (c : Candidate) (refusal : Refusal) → candidate_of t ≡ Some c → HasAnswered ids t.job c (Some refusal)
      → AreRefused ids t.job (t.at + 1)
  one_more c refusal stands answered k d before there =
      elim (cases_lt k t.at) [
        | inl h ↦ so_far k d h there
        | inr h ↦
            let here : k ≡ t.at = omega (arith, before, h) in
            let same : c ≡ d = cc (stands, there, here) in (
              refusal,
              subst (λ (x : Candidate). HasAnswered ids t.job x (Some refusal)) same answered,
            )
      ]

  next_at : (old new : Book) (next : Standing) (refusal : Refusal) (o : Option Candidate) → candidate_of t ≡ o
      → is_among ids (gateway_to_try t) ≡ true → IsSomeAnd o (λ c. IsNext t c old new next refusal)
      → (next.job ≡ job) × AreRefused ids next.job next.at
  next_at old new next refusal None stands among h = absurd h
  next_at old new next refusal (Some c) stands among h =
      subst (λ (u : Standing). (u.job ≡ job) × AreRefused ids u.job u.at) (sym h.moved) (
        own,
        one_more c refusal stands
            (record { here = here_at c stands among; book = old; asked = h.asked; answered = h.refused }),
      )

  -- it was refused there too, and stands at the next one
  pub refused_there : (old new : Book) (next : Standing) (refusal : Refusal) → is_among ids (gateway_to_try t) ≡ true
      → IsSomeAnd (candidate_of t) (λ c. IsNext t c old new next refusal) → (next.job ≡ job) × AreRefused ids next.job next.at
  refused_there old new next refusal among w = next_at old new next refusal (candidate_of t) refl among w

  ended_with : {A : Type 0} (stub : Outcome) (booked : Option (Receipt A))
      → IsSomeAnd (candidate_of t) (λ c. EndsAt ids t c stub.result booked) → IsTriedOut ids job stub.result booked
  ended_with stub booked ends = record { ticket = t; own = own; before = so_far; ended = ends }

  booked_at : {A : Type 0} (old new : Book) (stub : Outcome) (receipt : Receipt A) (o : Option Candidate) → candidate_of t ≡ o
      → is_among ids (gateway_to_try t) ≡ true → IsSomeAnd o (λ c. IsBooked t c old new stub receipt)
      → IsSomeAnd o (λ c. EndsAt ids t c stub.result (Some receipt))
  booked_at old new stub receipt None stands among h = absurd h
  booked_at old new stub receipt (Some c) stands among h =
      subst (λ e. EndsAt ids t c e (Some receipt)) (sym (ap (λ (s : Outcome). s.result) h.ended))
      (record {
        accepted = record { here = here_at c stands among; book = old; asked = h.asked; answered = h.accepted };
        ended = refl;
        receipt = h.named;
      })

  -- it was booked there
  pub booked_there : {A : Type 0} (old new : Book) (stub : Outcome) (receipt : Receipt A) → is_among ids (gateway_to_try t) ≡ true
      → IsSomeAnd (candidate_of t) (λ c. IsBooked t c old new stub receipt) → IsTriedOut ids job stub.result (Some receipt)
  booked_there old new stub receipt among w =
      ended_with stub (Some receipt) (booked_at old new stub receipt (candidate_of t) refl among w)

  out_at : (A : Type 0) (old new : Book) (stub : Outcome) (refusal : Refusal) (o : Option Candidate) → candidate_of t ≡ o
      → is_among ids (gateway_to_try t) ≡ true → IsSomeAnd o (λ c. IsOut t c old new stub refusal)
      → IsSomeAnd o (λ c. EndsAt {A = A} ids t c stub.result None)
  out_at A old new stub refusal None stands among h = absurd h
  out_at A old new stub refusal (Some c) stands among h =
      subst (λ e. EndsAt {A = A} ids t c e None) (sym (ap (λ (s : Outcome). s.result) h.ended))
      (record {
        refused = record { here = here_at c stands among; book = old; asked = h.asked; answered = h.refused };
        last = h.last;
        unbooked = refl;
      })

  -- it was refused there, at the last
  pub out_there : (A : Type 0) (old new : Book) (stub : Outcome) (refusal : Refusal) → is_among ids (gateway_to_try t) ≡ true
      → IsSomeAnd (candidate_of t) (λ c. IsOut t c old new stub refusal) → IsTriedOut {A = A} ids job stub.result None
  out_there A old new stub refusal among w =
      ended_with stub None (out_at A old new stub refusal (candidate_of t) refl among w)

  given_up_at : (A : Type 0) (o : Option Candidate) → candidate_of t ≡ o → IsSome o
      → (is_among ids (gateway_to_try t) ≡ true → WasTried {A = A} t (NoMemory t) ⊎ WasTried {A = A} t (Wrong t))
      → IsSomeAnd o (λ c. EndsAt {A = A} ids t c GivenUp None)
  given_up_at A None stands some tried = absurd (cc (some))
  given_up_at A (Some c) stands some tried =
      record {
        tried = λ among. tried (ap (λ o. is_among ids (option_map_or (λ (d : Candidate). d.gateway) o 0)) stands ∙ among);
        unbooked = refl;
      }

  -- it was given up there
  pub given_up_there : (A : Type 0) (stub : Outcome) → IsSome (candidate_of t) → stub.result ≡ GivenUp
      → (is_among ids (gateway_to_try t) ≡ true → WasTried {A = A} t (NoMemory t) ⊎ WasTried {A = A} t (Wrong t))
      → IsTriedOut {A = A} ids job stub.result None
  given_up_there A stub stands ended tried =
      ended_with stub None
      (subst (λ e. IsSomeAnd (candidate_of t) (λ c. EndsAt {A = A} ids t c e None)) (sym ended)
      (given_up_at A (candidate_of t) refl stands tried))

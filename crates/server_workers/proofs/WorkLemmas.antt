-- Lemmas on what a worker has done.
use Rattle.std.proofs.Common.{ℕ, ◌≡◌, ◌+◌, ◌++◌, List, sym, ap, ◌∙◌, arith}
use Rattle.std.proofs.lemmas.List.Sums.{sum_by-append}
use Rattle.answer_ticket.specs.declared.outcome.Outcome.{Outcome}
use Rattle.air_ledger.specs.Tills.{Holding}
use Rattle.server_desk.specs.Airtime.{airtime_of_ending}
use Rattle.server_workers.specs.declared.worked.Worked.{Worked}
use Rattle.server_workers.specs.Works.{outcomes_airtime}
use Rattle.server_workers.specs.Working.{IsMore}

-- the airtime of some outcomes and of more
pub outcomes_airtime-append : (l more : List Outcome) → outcomes_airtime (l ++ more) ≡ outcomes_airtime l + outcomes_airtime more
outcomes_airtime-append l more = sum_by-append (λ (o : Outcome). airtime_of_ending o.result) l more

-- a till by its parts and its amount
pub holds : (b : Holding) (parts n : ℕ) → b.parts ≡ parts → b.amount ≡ n → b ≡ record { parts = parts; amount = n }
holds b parts n p e = ap (λ k. record { parts = k; amount = b.amount }) p ∙ ap (λ k. record { parts = parts; amount = k }) e

-- a worker's till has risen by the airtime of the new outcomes
pub risen : {B A : Type 0} (old new : Worked B A) → IsMore old new
    → (more : List Outcome) × (new.outcomes.items ≡ old.outcomes.items ++ more)
    × (new.till ≡ record old.till { amount = old.till.amount + outcomes_airtime more })
risen old new m =
    let more = m.lists.outcomes.begins.0 in
    let all : outcomes_airtime new.outcomes.items ≡ outcomes_airtime old.outcomes.items + outcomes_airtime more =
    ap outcomes_airtime m.lists.outcomes.begins.1 ∙ outcomes_airtime-append old.outcomes.items more in (
      more,
      m.lists.outcomes.begins.1,
      holds new.till old.till.parts (old.till.amount + outcomes_airtime more) (new.one_part ∙ sym old.one_part)
          (omega (arith, all, old.counted, new.counted)),
    )

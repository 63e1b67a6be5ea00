-- An answer is settled at a station.
use Rattle.std.specs.Prelude.{◌≡◌, ◌+◌, ◌<◌, ◌↔◌, Bool, true, false, MatchBool, Result, Ok, Err, IfOk, IfErr, OnOk, IsSome}
use Rattle.std.proofs.Common.{sym, ap, refl, subst, arith}
use Rattle.radio_airtime.specs.Bounds.{airtime_of-positive}
use Rattle.rx_windows.specs.declared.candidate.Candidate.{Candidate}
use Rattle.air_ledger.specs.Tills.{Holding}
use Rattle.answer_ticket.specs.declared.outcome.Ending.{Ending}
use Rattle.answer_ticket.specs.declared.outcome.Ending.TheVariants.{Answered, Unanswered, GivenUp}
use Rattle.answer_ticket.specs.declared.outcome.Outcome.{Outcome}
use Rattle.answer_ticket.specs.Ended.{IsOfCandidate, gateway_of, answered_as}
use Rattle.server_desk.specs.Airtime.{airtime_of_ending}

-- an answer was booked exactly where it is on air for some time
pub is_on_air : (ending : Ending) → IsOfCandidate ending → IsSome (gateway_of ending) ↔ (0 < airtime_of_ending ending)
is_on_air (Answered gateway window start airtime carried) booked =
    let c : Candidate = booked.0 in
    let same : airtime_of_ending (Answered gateway window start airtime carried) ≡ airtime_of_ending (answered_as c) =
    ap airtime_of_ending booked.1 in
    let some : 0 < airtime = omega (arith, same, airtime_of-positive c.rate c.len) in
    (λ h. some, λ h. refl)
is_on_air (Unanswered refusal) booked = (λ h. absurd (cc), λ h. absurd (omega (arith, h)))
is_on_air GivenUp booked = (λ h. absurd (cc), λ h. absurd (omega (arith, h)))

module _ (stub : Outcome) (r : Result Outcome Outcome) where
  -- either the stub's outcome is told, or the stub is handed back
  pub told : (b : Bool) → MatchBool b (r ≡ Ok stub) (r ≡ Err stub) → IfOk r (λ o. o ≡ stub)
  told true e = subst (λ s. IfOk s (λ o. o ≡ stub)) (sym e) refl
  told false e = subst (λ s. IfOk s (λ o. o ≡ stub)) (sym e) tt

  pub handed_back : (b : Bool) → MatchBool b (r ≡ Ok stub) (r ≡ Err stub) → IfErr r (λ o. o ≡ stub)
  handed_back true e = subst (λ s. IfErr s (λ o. o ≡ stub)) (sym e) tt
  handed_back false e = subst (λ s. IfErr s (λ o. o ≡ stub)) (sym e) refl

-- the amount rises exactly with an answer that was booked
pub rises : (stub : Outcome) (r : Result Outcome Outcome) (old new : Holding) → IfOk r (λ o. o ≡ stub)
    → IfOk r (λ o. IsOfCandidate o.result)
    → OnOk r (new ≡ record old { amount = old.amount + airtime_of_ending stub.result })
    → IfOk r (λ o. IsSome (gateway_of o.result) ↔ (old.amount < new.amount))
rises stub (Err back) old new kept timed counted = tt
rises stub (Ok o) old new kept timed counted =
    let on_air = is_on_air o.result timed in
    let ending : airtime_of_ending o.result ≡ airtime_of_ending stub.result =
    ap (λ (x : Outcome). airtime_of_ending x.result) kept in
    let amount : new.amount ≡ old.amount + airtime_of_ending stub.result = ap (λ h. h.amount) counted in (
      λ h. let some : 0 < airtime_of_ending o.result = on_air.0 h in omega (arith, some, ending, amount),
      λ h. on_air.1 (omega (arith, h, ending, amount)),
    )

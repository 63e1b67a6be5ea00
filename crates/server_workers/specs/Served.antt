use Rattle.std.specs.Prelude.{ℕ, ◌≡◌, List, All, Some}
use Rattle.air_ledger.specs.Tills.{Holding}
use Rattle.server_station.specs.Handling.{IsHandled}
use Rattle.server_station.specs.declared.handled.Handled.{Handled}
use Rattle.server_workers.specs.declared.served.Served.{Served}
use Rattle.server_workers.specs.declared.worked.Worked.{Worked}
use Rattle.server_workers.specs.Filing.{nothing, filing, IsReordered}
use Rattle.server_workers.specs.Lists.{lists_of, lists_of_served}
use Rattle.server_workers.specs.Turns.{Turns, AreAmong, AreIdle, of_turns}

-- What becomes of the numbers that several workers take up.

-- a worker that hasn't begun has done nothing
pub record IsIdle {B A : Type 0} (worked : Worked B A) : Type 0 where
  pub filed : filing (lists_of worked) ≡ nothing
  pub overrun : worked.overrun ≡ 0

-- each of these numbers got what is told of it, at some station and counted with some till
abbrev pub AreTold : {A : Type 0} → Turns A → Type 0
AreTold {A} turns =
    All (λ (t : ℕ × Handled A). (ids : List ℕ) × (old : Holding) × (new : Holding) × IsHandled ids t.0 old new t.1) turns

-- what became of these, of the given numbers, is all that a worker keeps, in their order; where none of them got a ticket, no try
-- went on at a gate that didn't let it in
pub record HasDone {B A : Type 0} (given : List ℕ) (turns : Turns A) (worked : Worked B A) : Type 0 where
  pub among : AreAmong (Some given) turns
  pub told : AreTold turns
  pub idle : AreIdle turns → worked.overrun ≡ 0
  pub filed : filing (lists_of worked) ≡ of_turns turns

-- a worker keeps what became of some of the given numbers, and nothing else
abbrev pub IsDone : {B A : Type 0} → List ℕ → Worked B A → Type 0
IsDone {B} {A} given worked = ∥ ((turns : Turns A) × HasDone given turns worked) ∥₁

-- the same of all workers together, each list in some order
pub record HaveServed {B A : Type 0} (given : List ℕ) (turns : Turns A) (served : Served B A) : Type 0 where
  pub among : AreAmong (Some given) turns
  pub told : AreTold turns
  pub idle : AreIdle turns → served.overrun ≡ 0
  pub filed : IsReordered (of_turns turns) (filing (lists_of_served served))

-- some of the given numbers were taken up, and the lists have what became of them, and nothing else
abbrev pub IsServed : {B A : Type 0} → List ℕ → Served B A → Type 0
IsServed {B} {A} given served = ∥ ((turns : Turns A) × HaveServed given turns served) ∥₁

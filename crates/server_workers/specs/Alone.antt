use Rattle.std.specs.Prelude.{ℕ, ◌≡◌, List, map, Some}
use Rattle.server_station.specs.declared.handled.Handled.{Handled}
use Rattle.server_workers.specs.declared.worked.Worked.{Worked}
use Rattle.server_workers.specs.declared.served.Served.{Served}
use Rattle.server_workers.specs.Served.{HaveServed}
use Rattle.server_workers.specs.Turns.{Turns, AreFiled}

-- One worker alone.

-- a worker took up just these numbers, of those that are known, each once and in their order, at a station of these gateways, and
-- filed what became of each
abbrev pub HasTakenUp : {B A : Type 0} → List ℕ → List ℕ → List ℕ → Worked B A → Worked B A → Type 0
HasTakenUp {B} {A} known ids numbers old new =
    (turns : Turns A) × (map (λ (t : ℕ × Handled A). t.0) turns ≡ numbers) × AreFiled (Some known) ids turns old new

-- each of the given numbers was taken up once, in their order, and the lists have what became of them, and nothing else
abbrev pub IsServedAlone : {B A : Type 0} → List ℕ → Served B A → Type 0
IsServedAlone {B} {A} given served =
    ∥ ((turns : Turns A) × (map (λ (t : ℕ × Handled A). t.0) turns ≡ given) × HaveServed given turns served) ∥₁

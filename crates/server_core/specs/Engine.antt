use Rattle.std.specs.Prelude.{ℕ, ◌≡◌, Option, Some, None}
use Rattle.server_core.specs.declared.event.Event.{Event}
use Rattle.server_core.specs.declared.event.Event.TheVariants as events

-- One event after another, whoever answers.

-- by what it is to have done an event: it was done, unless it is a `Pass`; of that nothing was done, and the moment until which
-- time passes is left
abbrev pub IsDoneButPass : {X A : Type 0} → (ℕ → Event A → X → X → Type 0) → ℕ → Event A → X → X → Option ℕ → Type 0
IsDoneButPass has_done place e old new None = has_done place e old new
IsDoneButPass has_done place e old new (Some now) = (e ≡ events.Pass now) × (new ≡ old)

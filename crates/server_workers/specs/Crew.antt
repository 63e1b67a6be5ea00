use Rattle.std.specs.Prelude.{◌≡◌, Bool, true, false, is_some, []}
use Rattle.server_workers.specs.declared.worked.Worked.{Worked}

-- A crew of workers.

-- a worker that hasn't begun has settled nothing
abbrev pub HasSettledNone : {B A : Type 0} → Bool → Worked B A → Type 0
HasSettledNone has_begun worked = has_begun ≡ false → worked.outcomes.items ≡ []

-- a worker that has begun went on until it had a reason to stop
abbrev pub HasDoneItsPart : {B A : Type 0} → Bool → Worked B A → Type 0
HasDoneItsPart has_begun worked = has_begun ≡ true → is_some worked.stopped ≡ true

use Rattle.std.specs.Prelude.{ℕ, ◌≡◌, ◌+◌, ◌-◌, ◌^◌, ◌<◌, ◌⊎◌, Bool, List, min, sum_by}
use Rattle.std.specs.Int.{from_bool}
use Rattle.server_workers.specs.declared.served.Served.{Served}
use Rattle.server_workers.specs.declared.worked.Worked.{Worked}
use Rattle.server_workers.specs.Filing.{Filing, gathered, filing, IsReordered, IsByNumber}
use Rattle.server_workers.specs.Lists.{lists_of, lists_of_served}

-- What all workers together have done.

-- no station has so few or so many workers
abbrev pub IsOutside : ℕ → Type 0
IsOutside workers = (workers ≡ 0) ⊎ (16 < workers)

-- a count that stays at its greatest value
abbrev pub added_up : ℕ → ℕ → ℕ
added_up count more = min (count + more) (2 ^ 64 - 1)

-- what some workers filed, one behind another, and how many of their tries went on
abbrev pub all_filed : {B A : Type 0} → List (Worked B A) → Filing A
all_filed {B} {A} crew = gathered (λ (w : Worked B A). filing (lists_of w)) crew

-- how many tries of theirs went on at a gate that did not let them in
abbrev pub all_overrun : {B A : Type 0} → List (Worked B A) → ℕ
all_overrun {B} {A} crew = sum_by (λ (w : Worked B A). w.overrun) crew

-- how many have begun
abbrev pub begun_count : List Bool → ℕ
begun_count crew = sum_by from_bool crew

-- what a crew did, each list in some order
pub record IsSummedUp {B A : Type 0} (crew : List (Worked B A)) (served : Served B A) : Type 0 where
  pub filed : IsReordered (all_filed crew) (filing (lists_of_served served))
  pub overrun : served.overrun ≡ added_up 0 (all_overrun crew)

-- each list is sorted by number
abbrev pub IsSortedByNumber : {B A : Type 0} → Served B A → Type 0
IsSortedByNumber served = IsByNumber (filing (lists_of_served served))

use Rattle.std.specs.Prelude.{ℕ, ◌≡◌, ◌≤◌, Bool, true, false, if◌then◌else◌, List, [], ◌∷◌}
use Rattle.std.specs.Option.{option_to_list}
use Rattle.answer_ticket.specs.declared.outcome.Outcome.{Outcome}
use Rattle.answer_ticket.specs.declared.tried.Receipt.{Receipt}
use Rattle.server_desk.specs.declared.faults.TakeFault.{TakeFault}
use Rattle.server_desk.specs.declared.faults.TakeFault.TheVariants as taking
use Rattle.server_station.specs.declared.handled.Handled.{Handled}
use Rattle.server_station.specs.declared.handled.Handled.TheVariants.{NotTaken, Settled, Stray}
use Rattle.server_workers.specs.declared.worked.Worked.{Worked}
use Rattle.server_station.specs.Handling.{IsHandled, was_taken}
use Rattle.server_workers.specs.Filing.{Filing, put_behind, filing, AreLonger}
use Rattle.server_workers.specs.Lists.{lists_of}

-- How a worker goes on.

-- a worker has done what it had done before, and maybe more; no list has outgrown its room
pub record IsMore {B A : Type 0} (old new : Worked B A) : Type 0 where
  pub lists : AreLonger (lists_of old) (lists_of new)
  pub overrun : old.overrun ≤ new.overrun

-- a number without a ticket is only skipped where its device is engaged, or there is no memory: it may get one later
abbrev pub may_come_later : TakeFault → Bool
may_come_later taking.NotReady = false
may_come_later taking.Taken = false
may_come_later taking.Silent = false
may_come_later taking.Engaged = true
may_come_later taking.CounterSpent = false
may_come_later taking.NoMemory = true

-- what each list of a worker gets, by what became of number n
abbrev pub receipts_of : {A : Type 0} → Handled A → List (Receipt A)
receipts_of (NotTaken fault) = []
receipts_of (Settled outcome receipt) = option_to_list receipt
receipts_of (Stray outcome receipt) = option_to_list receipt

-- the outcome of an answer that was settled
abbrev pub outcomes_of : {A : Type 0} → Handled A → List Outcome
outcomes_of (NotTaken fault) = []
outcomes_of (Settled outcome receipt) = outcome ∷ []
outcomes_of (Stray outcome receipt) = []

-- the number, where it may come later
abbrev pub skipped_of : {A : Type 0} → ℕ → Handled A → List ℕ
skipped_of n (NotTaken fault) = if may_come_later fault then n ∷ [] else []
skipped_of n (Settled outcome receipt) = []
skipped_of n (Stray outcome receipt) = []

-- the number with its fault, where it may not
abbrev pub refused_of : {A : Type 0} → ℕ → Handled A → List (ℕ × TakeFault)
refused_of n (NotTaken fault) = if may_come_later fault then [] else (n, fault) ∷ []
refused_of n (Settled outcome receipt) = []
refused_of n (Stray outcome receipt) = []

-- the number of a stray
abbrev pub strays_of : {A : Type 0} → ℕ → Handled A → List ℕ
strays_of n (NotTaken fault) = []
strays_of n (Settled outcome receipt) = []
strays_of n (Stray outcome receipt) = n ∷ []

abbrev pub of_turn : {A : Type 0} → ℕ → Handled A → Filing A
of_turn n turn =
    record {
      receipts = receipts_of turn;
      outcomes = outcomes_of turn;
      skipped = skipped_of n turn;
      refused = refused_of n turn;
      strays = strays_of n turn;
    }

-- what became of number n stands at the ends of the lists, and nothing else was added
pub record IsFiled {B A : Type 0} (ids : List ℕ) (n : ℕ) (old new : Worked B A) (turn : Handled A) : Type 0 where
  pub told : IsHandled ids n old.till new.till turn
  pub filed : filing (lists_of new) ≡ put_behind (filing (lists_of old)) (of_turn n turn)
  pub idle : was_taken turn ≡ false → new.overrun ≡ old.overrun

-- a worker took up number n once, at a station of these gateways, and filed what became of it
abbrev pub HasFiled : {B A : Type 0} → List ℕ → ℕ → Worked B A → Worked B A → Type 0
HasFiled {B} {A} ids n old new = (turn : Handled A) × IsFiled ids n old new turn

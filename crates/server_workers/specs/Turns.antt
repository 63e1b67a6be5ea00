use Rattle.std.specs.Prelude.{ℕ, ◌≡◌, true, false, List, [], ◌∷◌, All, Option, IsSomeAnd, ⊤}
use Rattle.std.specs.Option.{ForSome}
use Rattle.air_ledger.specs.Tills.{Holding}
use Rattle.server_desk.specs.Register.{is_among}
use Rattle.server_station.specs.Handling.{IsHandled, was_taken}
use Rattle.server_station.specs.declared.handled.Handled.{Handled}
use Rattle.server_workers.specs.declared.worked.Stopped.{Stopped}
use Rattle.server_workers.specs.declared.worked.Stopped.TheVariants.{Full, AtEnd}
use Rattle.server_workers.specs.declared.worked.Worked.{Worked}
use Rattle.server_workers.specs.Filing.{Filing, put_behind, gathered, filing, HasRoom}
use Rattle.server_workers.specs.Lists.{lists_of}
use Rattle.server_workers.specs.Working.{of_turn}

-- What a worker does from when it begins until it stops.

-- the number is one of those that are known, if any are
abbrev pub IsOneOf : Option (List ℕ) → ℕ → Type 0
IsOneOf known n = ForSome known (λ numbers. is_among numbers n ≡ true)

-- numbers that were taken up, one after another, and what became of each
abbrev pub Turns : Type 0 → Type 0
Turns A = List (ℕ × Handled A)

-- what became of them, one after another
abbrev pub of_turns : {A : Type 0} → Turns A → Filing A
of_turns {A} turns = gathered (λ (t : ℕ × Handled A). of_turn t.0 t.1) turns

-- the till went from hand to hand: each number's answer counted with it what the last one had left
abbrev pub AreHandled : {A : Type 0} → List ℕ → Turns A → Holding → Holding → Type 0
AreHandled ids [] old new = new ≡ old
AreHandled ids (t ∷ turns) old new = (mid : Holding) × IsHandled ids t.0 old mid t.1 × AreHandled ids turns mid new

-- none of these numbers got a ticket
abbrev pub AreIdle : {A : Type 0} → Turns A → Type 0
AreIdle {A} turns = All (λ (t : ℕ × Handled A). was_taken t.1 ≡ false) turns

-- these numbers are among those that are known, if any are
abbrev pub AreAmong : {A : Type 0} → Option (List ℕ) → Turns A → Type 0
AreAmong {A} known turns = All (λ (t : ℕ × Handled A). IsOneOf known t.0) turns

-- what became of these numbers stands at the ends of the lists, in their order, and nothing else was added; where none of them
-- got a ticket, no try went on at a gate that didn't let it in
pub record AreFiled {B A : Type 0} (known : Option (List ℕ)) (ids : List ℕ) (turns : Turns A)
    (old new : Worked B A) : Type 0 where
  pub among : AreAmong known turns
  pub told : AreHandled ids turns old.till new.till
  pub idle : AreIdle turns → new.overrun ≡ old.overrun
  pub filed : filing (lists_of new) ≡ put_behind (filing (lists_of old)) (of_turns turns)

-- a worker took up some numbers, of those that are known if any are, at a station of these gateways, and filed what became of
-- each
abbrev pub HasWorked : {B A : Type 0} → Option (List ℕ) → List ℕ → Worked B A → Worked B A → Type 0
HasWorked {B} {A} known ids old new = (turns : Turns A) × AreFiled known ids turns old new

-- a worker may stop where one more number may not fit, and where the channel told that it is closed and empty
abbrev pub IsReason : {B A : Type 0} → Worked B A → Stopped → Type 0
IsReason worked Full = HasRoom (lists_of worked) → ⊥
IsReason worked (AtEnd drained) = ⊤

-- it stopped for such a reason
abbrev pub HasStopped : {B A : Type 0} → Worked B A → Type 0
HasStopped worked = IsSomeAnd worked.stopped (IsReason worked)

use Rattle.std.specs.Prelude.{ℕ, ◌≡◌, List, [], ◌∷◌, ◌++◌, map, Some}
use Rattle.std.specs.Global.{Global}
use Rattle.air_ledger.specs.Tills.{Holding}
use Rattle.server_desk.specs.declared.faults.TakeFault.{TakeFault}
use Rattle.server_station.specs.declared.handled.Handled.{Handled}
use Rattle.server_station.specs.declared.handled.Handled.TheVariants.{NotTaken, Settled, Stray}
use Rattle.server_workers.specs.Filing.{Filing, put_behind, gathered, IsReordered}
use Rattle.server_workers.specs.Working.{receipts_of, outcomes_of, strays_of}
use Rattle.server_workers.specs.Turns.{Turns, AreAmong, AreHandled, of_turns}
use Rattle.server_workers.specs.Served.{AreTold}

-- Who ended the uplinks that one `pass` closed, after this project's profile: the workers, and, where none of them ended one, the
-- calling thread.

-- every fault for which number n got no ticket
abbrev pub faults_of : ℕ → Handled Global → List (ℕ × TakeFault)
faults_of n (NotTaken fault) = (n, fault) ∷ []
faults_of n (Settled outcome receipt) = []
faults_of n (Stray outcome receipt) = []

-- how the calling thread ends number n: it skips none
abbrev pub ended_by : ℕ → Handled Global → Filing Global
ended_by n turn =
    record {
      receipts = receipts_of turn;
      outcomes = outcomes_of turn;
      skipped = [];
      refused = faults_of n turn;
      strays = strays_of n turn;
    }

abbrev pub ended_by_turns : Turns Global → Filing Global
ended_by_turns turns = gathered (λ (t : ℕ × Handled Global). ended_by t.0 t.1) turns

-- what became of number n stands at the ends of the lists, and nothing else was added
pub record IsFiled (n : ℕ) (turn : Handled Global) (old new : Filing Global) : Type 0 where
  pub receipts : new.receipts ≡ old.receipts ++ receipts_of turn
  pub outcomes : new.outcomes ≡ old.outcomes ++ outcomes_of turn
  pub skipped : new.skipped ≡ old.skipped
  pub refused : new.refused ≡ old.refused ++ faults_of n turn
  pub strays : new.strays ≡ old.strays ++ strays_of n turn

-- the calling thread took up each of these numbers at a station of these gateways, once and in their order, filed what became of
-- it, and counted it with the till
abbrev pub HasFiled : List ℕ → List ℕ → Holding → Holding → Filing Global → Filing Global → Type 0
HasFiled ids numbers before after old new =
    (turns : Turns Global) × (map (λ (t : ℕ × Handled Global). t.0) turns ≡ numbers) × AreHandled ids turns before after
    × (new ≡ put_behind old (ended_by_turns turns))

-- the same, and what was filed was put into some order
abbrev pub HasFiledInOrder : List ℕ → List ℕ → Holding → Holding → Filing Global → Filing Global → Type 0
HasFiledInOrder ids numbers before after old new =
    (finished : Filing Global) × HasFiled ids numbers before after old finished × IsReordered finished new

-- some of these numbers were taken up, and the lists have what became of them, and nothing else
pub record HaveEnded (numbers : List ℕ) (turns : Turns Global) (f : Filing Global) : Type 0 where
  pub among : AreAmong (Some numbers) turns
  pub told : AreTold turns
  pub filed : IsReordered (of_turns turns) f

-- workers ended some of these numbers so, and skipped others
abbrev pub WereEnded : List ℕ → Filing Global → Type 0
WereEnded numbers f = ∥ ((turns : Turns Global) × HaveEnded numbers turns f) ∥₁

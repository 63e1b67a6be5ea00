use Rattle.std.specs.Prelude.{ℕ, ◌+◌, ◌≤◌, List, [], ◌∷◌, ◌++◌, Vec, vec_len, vec_capacity}
use Rattle.std.specs.List.Sorted.{IsPermutation, IsNonDecreasing, IsNonDecreasingBy}
use Rattle.answer_ticket.specs.declared.outcome.Outcome.{Outcome}
use Rattle.answer_ticket.specs.declared.tried.Receipt.{Receipt}
use Rattle.server_desk.specs.declared.faults.TakeFault.{TakeFault}
use Rattle.server_workers.specs.declared.filed.Filed.{Filed}
use Rattle.server_workers.specs.Works.{IsOpen, Fits, IsEmptyFor, IsLonger, IsJoined}

-- What became of numbers that were taken up, list by list, after this project's profile.

pub record Filing (A : Type 0) : Type 0 where
  pub receipts : List (Receipt A)
  pub outcomes : List Outcome
  pub skipped : List ℕ
  pub refused : List (ℕ × TakeFault)
  pub strays : List ℕ

-- no number was taken up
abbrev pub nothing : {A : Type 0} → Filing A
nothing = record { receipts = []; outcomes = []; skipped = []; refused = []; strays = [] }

-- more was filed behind what there was
abbrev pub put_behind : {A : Type 0} → Filing A → Filing A → Filing A
put_behind old more =
    record {
      receipts = old.receipts ++ more.receipts;
      outcomes = old.outcomes ++ more.outcomes;
      skipped = old.skipped ++ more.skipped;
      refused = old.refused ++ more.refused;
      strays = old.strays ++ more.strays;
    }

-- what each of these comes to, one behind another
abbrev pub gathered : {T A : Type 0} → (T → Filing A) → List T → Filing A
gathered f [] = nothing
gathered f (t ∷ ts) = put_behind (f t) (gathered f ts)

-- the same was filed, in some order
pub record IsReordered {A : Type 0} (old new : Filing A) : Type 0 where
  pub receipts : IsPermutation old.receipts new.receipts
  pub outcomes : IsPermutation old.outcomes new.outcomes
  pub skipped : IsPermutation old.skipped new.skipped
  pub refused : IsPermutation old.refused new.refused
  pub strays : IsPermutation old.strays new.strays

-- each list is sorted by number
pub record IsByNumber {A : Type 0} (f : Filing A) : Type 0 where
  pub receipts : IsNonDecreasingBy (λ (r : Receipt A). r.number) f.receipts
  pub outcomes : IsNonDecreasingBy (λ (o : Outcome). o.number) f.outcomes
  pub skipped : IsNonDecreasing f.skipped
  pub refused : IsNonDecreasingBy (λ (r : ℕ × TakeFault). r.0) f.refused
  pub strays : IsNonDecreasing f.strays

-- what stands in the lists
abbrev pub filing : {A : Type 0} → Filed A → Filing A
filing filed =
    record {
      receipts = filed.receipts.items;
      outcomes = filed.outcomes.items;
      skipped = filed.skipped.items;
      refused = filed.refused.items;
      strays = filed.strays.items;
    }

-- each of the lists is so
pub record Each {A : Type 0} (is_so : (X : Type 0) → Vec X A → Type 0) (filed : Filed A) : Type 0 where
  pub receipts : is_so (Receipt A) filed.receipts
  pub outcomes : is_so Outcome filed.outcomes
  pub skipped : is_so ℕ filed.skipped
  pub refused : is_so (ℕ × TakeFault) filed.refused
  pub strays : is_so ℕ filed.strays

-- each of the lists is so beside the same list of another
pub record EachBeside {A : Type 0} (is_so : (X : Type 0) → Vec X A → Vec X A → Type 0) (other filed : Filed A) : Type 0 where
  pub receipts : is_so (Receipt A) other.receipts filed.receipts
  pub outcomes : is_so Outcome other.outcomes filed.outcomes
  pub skipped : is_so ℕ other.skipped filed.skipped
  pub refused : is_so (ℕ × TakeFault) other.refused filed.refused
  pub strays : is_so ℕ other.strays filed.strays

-- nothing stands in any list, and each has room for so many items
abbrev pub AreEmptyFor : {A : Type 0} → ℕ → Filed A → Type 0
AreEmptyFor room = Each (λ X list. IsEmptyFor room list)

-- one more number fits, whatever becomes of it
abbrev pub HasRoom : {A : Type 0} → Filed A → Type 0
HasRoom = Each (λ X list. IsOpen list)

-- so many numbers more fit, whatever becomes of them
abbrev pub HasRoomFor : {A : Type 0} → ℕ → Filed A → Type 0
HasRoomFor n = Each (λ X list. Fits n list)

-- no list has room for more than so many items
abbrev pub IsWithin : {A : Type 0} → ℕ → Filed A → Type 0
IsWithin room = Each (λ X list. vec_capacity list ≤ room)

-- there is room for all that was filed elsewhere
abbrev pub HasRoomForMore : {A : Type 0} → Filed A → Filed A → Type 0
HasRoomForMore = EachBeside (λ X more all. vec_len all + vec_len more ≤ vec_capacity all)

-- nothing was lost, and no list has outgrown its room
abbrev pub AreLonger : {A : Type 0} → Filed A → Filed A → Type 0
AreLonger = EachBeside (λ X old new. IsLonger old new)

-- what was filed elsewhere stands behind what there was, and no room was lost
pub record AreJoined {A : Type 0} (old more new : Filed A) : Type 0 where
  pub receipts : IsJoined old.receipts more.receipts new.receipts
  pub outcomes : IsJoined old.outcomes more.outcomes new.outcomes
  pub skipped : IsJoined old.skipped more.skipped new.skipped
  pub refused : IsJoined old.refused more.refused new.refused
  pub strays : IsJoined old.strays more.strays new.strays

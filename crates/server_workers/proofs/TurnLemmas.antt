-- What a worker files, number by number.
use Rattle.std.proofs.Common.{◌≡◌, ℕ, ◌++◌, List, [], ◌∷◌, Option, Some, false, refl, sym}
use Rattle.std.proofs.Common.{◌∙◌, subst, arith}
use Rattle.std.proofs.lemmas.List.Elements.{All-nil, All-push, All-pop}
use Rattle.air_ledger.specs.Tills.{Holding}
use Rattle.server_station.specs.Handling.{IsHandled, was_taken}
use Rattle.server_station.specs.declared.handled.Handled.{Handled}
use Rattle.server_workers.specs.declared.worked.Worked.{Worked}
use Rattle.server_workers.specs.Filing.{filing}
use Rattle.server_workers.specs.Lists.{lists_of}
use Rattle.server_workers.specs.Working.{IsMore, IsFiled, HasFiled, of_turn}
use Rattle.server_workers.specs.Turns.{Turns, IsOneOf, AreHandled, AreFiled, HasWorked}
use Rattle.server_workers.proofs.FilingLemmas.{put_behind-nothing, filed_behind, lists_longer_none, lists_longer_on}

-- nothing was taken up yet
pub filed_none : {B A : Type 0} (known : Option (List ℕ)) (ids : List ℕ) (w : Worked B A) → AreFiled known ids [] w w
filed_none {B} {A} known ids w =
    record {
      among = All-nil (λ (t : ℕ × Handled A). IsOneOf known t.0);
      told = refl;
      idle = λ none. refl;
      filed = sym (put_behind-nothing (filing (lists_of w)));
    }

pub worked_none : {B A : Type 0} (known : Option (List ℕ)) (ids : List ℕ) (w : Worked B A) → HasWorked known ids w w
worked_none known ids w = ([], filed_none known ids w)

-- the till goes on to one number more
pub handed_on : {A : Type 0} (ids : List ℕ) (turns : Turns A) (n : ℕ) (turn : Handled A) (old mid new : Holding)
    → AreHandled ids turns old mid → IsHandled ids n mid new turn → AreHandled ids (turns ++ (n, turn) ∷ []) old new
handed_on {A} ids [] n turn old mid new e h = (new, subst (λ till. IsHandled ids n till new turn) e h, refl)
handed_on ids (t ∷ turns) n turn old mid new so_far h =
    (so_far.0, so_far.1, handed_on ids turns n turn so_far.0 mid new so_far.2 h)

-- one more number was taken up
pub filed_on : {B A : Type 0} (known : Option (List ℕ)) (ids : List ℕ) (turns : Turns A) (n : ℕ) (turn : Handled A)
    (old mid new : Worked B A) → IsOneOf known n → AreFiled known ids turns old mid → IsFiled ids n mid new turn
    → AreFiled known ids (turns ++ (n, turn) ∷ []) old new
filed_on {B} {A} known ids turns n turn old mid new is all one =
    let t : ℕ × Handled A = (n, turn) in
    record {
      among = All-push (λ (s : ℕ × Handled A). IsOneOf known s.0) turns t all.among is;
      told = handed_on ids turns n turn old.till mid.till new.till all.told one.told;
      idle = λ none.
          let cut = All-pop (λ (s : ℕ × Handled A). was_taken s.1 ≡ false) (turns ++ t ∷ []) turns (Some t) refl none in
          one.idle cut.1 ∙ all.idle cut.0;
      filed = filed_behind (λ (s : ℕ × Handled A). of_turn s.0 s.1) turns t (filing (lists_of old)) (filing (lists_of mid))
          (filing (lists_of new)) all.filed one.filed;
    }

pub worked_on : {B A : Type 0} (known : Option (List ℕ)) (ids : List ℕ) (n : ℕ) (old mid new : Worked B A)
    → IsOneOf known n → HasWorked known ids old mid → HasFiled ids n mid new → HasWorked known ids old new
worked_on known ids n old mid new is so_far filed =
    (so_far.0 ++ (n, filed.0) ∷ [], filed_on known ids so_far.0 n filed.0 old mid new is so_far.1 filed.1)

-- a worker that did nothing
pub more_none : {B A : Type 0} (w : Worked B A) → IsMore w w
more_none w = record { lists = lists_longer_none (lists_of w); overrun = omega arith }

-- what a worker has done only grows
pub more_on : {B A : Type 0} (old mid new : Worked B A) → IsMore old mid → IsMore mid new → IsMore old new
more_on old mid new a b =
    record {
      lists = lists_longer_on (lists_of old) (lists_of mid) (lists_of new) a.lists b.lists;
      overrun = let first = a.overrun in let then = b.overrun in omega (arith, first, then);
    }

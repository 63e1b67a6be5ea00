-- What one worker does who works alone.
use Rattle.std.proofs.Common.{ℕ, ◌≡◌, ◌==◌, ◌+◌, ◌<◌, ◌≤◌, ◌++◌, List, [], ◌∷◌, Some, None, Option, Bool, true, false}
use Rattle.std.proofs.Common.{length, Vec, if◌then◌else◌, refl, sym, ap, subst, ◌∙◌, ◌^◌, arith, get_or}
use Rattle.std.proofs.Math.Logic.{∥∥₁_map}
use Rattle.std.specs.Option.{option_to_list}
use Rattle.std.proofs.lemmas.List.{length-append, map-append}
use Rattle.std.proofs.lemmas.List.Sums.{sum_by-cons}
use Rattle.std.proofs.lemmas.Bool.Decides.{nat_tests}
use Rattle.std.proofs.lemmas.List.Folds.{list_any_at}
use Rattle.server_desk.specs.Register.{is_among}
use Rattle.server_station.specs.declared.handled.Handled.{Handled}
use Rattle.server_station.specs.declared.handled.Handled.TheVariants.{NotTaken, Settled, Stray}
use Rattle.server_workers.specs.declared.served.Served.{Served}
use Rattle.server_workers.specs.declared.worked.Worked.{Worked}
use Rattle.server_workers.specs.Alone.{HasTakenUp, IsServedAlone}
use Rattle.server_workers.specs.Served.{IsIdle, IsServed}
use Rattle.server_workers.specs.Filing.{Filing, put_behind, filing, IsReordered, HasRoomFor}
use Rattle.server_workers.specs.Lists.{lists_of, lists_of_served}
use Rattle.server_workers.specs.Serving.{IsSummedUp}
use Rattle.server_workers.specs.Working.{IsMore, HasFiled, may_come_later}
use Rattle.server_workers.specs.Working.{receipts_of, outcomes_of, skipped_of, refused_of, strays_of}
use Rattle.server_workers.specs.Works.{Fits, IsLonger}
use Rattle.server_workers.proofs.FilingLemmas.{put_behind-nothing}
use Rattle.server_workers.proofs.ServedLemmas.{each_told}
use Rattle.server_workers.specs.Turns.{IsOneOf, of_turns}
use Rattle.server_workers.proofs.TurnLemmas.{filed_none, filed_on}

-- a number that stands in a list is among its numbers
pub listed : (numbers : List ℕ) (at : ℕ) → at < length numbers → is_among numbers (get_or numbers at 0) ≡ true
listed numbers at within = list_any_at (λ z. z == get_or numbers at 0) numbers at 0 within (grind (arith, nat_tests))

-- each list gets one item at most by what became of a number
one_of : {X : Type 0} (b : Bool) (xs ys : List X) → length xs ≤ 1 → length ys ≤ 1 → length (if b then xs else ys) ≤ 1
one_of true xs ys first second = first
one_of false xs ys first second = second

one_item : {X : Type 0} (o : Option X) → length (option_to_list o) ≤ 1
one_item None = omega arith
one_item (Some x) = omega arith

module _ {A : Type 0} where
  one_receipt : (turn : Handled A) → length (receipts_of turn) ≤ 1
  one_receipt (NotTaken fault) = omega arith
  one_receipt (Settled outcome receipt) = one_item receipt
  one_receipt (Stray outcome receipt) = one_item receipt

  one_outcome : (turn : Handled A) → length (outcomes_of turn) ≤ 1
  one_outcome (NotTaken fault) = omega arith
  one_outcome (Settled outcome receipt) = omega arith
  one_outcome (Stray outcome receipt) = omega arith

  one_skipped : (n : ℕ) (turn : Handled A) → length (skipped_of n turn) ≤ 1
  one_skipped n (NotTaken fault) = one_of (may_come_later fault) (n ∷ []) [] (omega arith) (omega arith)
  one_skipped n (Settled outcome receipt) = omega arith
  one_skipped n (Stray outcome receipt) = omega arith

  one_refused : (n : ℕ) (turn : Handled A) → length (refused_of n turn) ≤ 1
  one_refused n (NotTaken fault) = one_of (may_come_later fault) [] ((n, fault) ∷ []) (omega arith) (omega arith)
  one_refused n (Settled outcome receipt) = omega arith
  one_refused n (Stray outcome receipt) = omega arith

  one_stray : (n : ℕ) (turn : Handled A) → length (strays_of n turn) ≤ 1
  one_stray n (NotTaken fault) = omega arith
  one_stray n (Settled outcome receipt) = omega arith
  one_stray n (Stray outcome receipt) = omega arith

-- where one item more was filed at most, the others still fit
still_fits : {X Z : Type 0} (n m : ℕ) (old new : Vec X Z) (more : List X) → Fits n old → m + 1 ≡ n → length more ≤ 1
    → new.items ≡ old.items ++ more → IsLonger old new → Fits m new
still_fits n m old new more fits less one filed longer =
    let len : length new.items ≡ length old.items + length more = ap length filed ∙ length-append old.items more in
    omega (arith, fits, less, one, len, longer.fits)

pub room_on : {B A : Type 0} (ids : List ℕ) (n count left : ℕ) (old new : Worked B A) → HasRoomFor count (lists_of old)
    → left + 1 ≡ count → HasFiled ids n old new → IsMore old new → HasRoomFor left (lists_of new)
room_on {B} {A} ids n count left old new room less filed more =
    let turn = filed.0 in
    let one = filed.1.filed in
    record {
      receipts = still_fits count left _ _ (receipts_of turn) room.receipts less (one_receipt turn)
          (ap (λ (f : Filing A). f.receipts) one) more.lists.receipts;
      outcomes = still_fits count left _ _ (outcomes_of turn) room.outcomes less (one_outcome turn)
          (ap (λ (f : Filing A). f.outcomes) one) more.lists.outcomes;
      skipped = still_fits count left _ _ (skipped_of n turn) room.skipped less (one_skipped n turn)
          (ap (λ (f : Filing A). f.skipped) one) more.lists.skipped;
      refused = still_fits count left _ _ (refused_of n turn) room.refused less (one_refused n turn)
          (ap (λ (f : Filing A). f.refused) one) more.lists.refused;
      strays = still_fits count left _ _ (strays_of n turn) room.strays less (one_stray n turn)
          (ap (λ (f : Filing A). f.strays) one) more.lists.strays;
    }

-- one more number was taken up
pub taken_none : {B A : Type 0} (known ids : List ℕ) (w : Worked B A) → HasTakenUp known ids [] w w
taken_none known ids w = ([], refl, filed_none (Some known) ids w)

known_one : (known : List ℕ) (n : ℕ) → is_among known n ≡ true → IsOneOf (Some known) n
known_one known n is = λ x e. let s : known ≡ x = cc in subst (λ l. is_among l n ≡ true) s is

pub taken_on : {B A : Type 0} (known ids numbers : List ℕ) (n : ℕ) (old mid new : Worked B A) → is_among known n ≡ true
    → HasTakenUp known ids numbers old mid → HasFiled ids n mid new → HasTakenUp known ids (numbers ++ n ∷ []) old new
taken_on {B} {A} known ids numbers n old mid new is so_far filed = (
  so_far.0 ++ (n, filed.0) ∷ [],
  map-append (λ (t : ℕ × Handled A). t.0) so_far.0 ((n, filed.0) ∷ []) ∙ ap (λ l. l ++ n ∷ []) so_far.1,
  filed_on (Some known) ids so_far.0 n filed.0 old mid new (known_one known n is) so_far.2 filed.1,
)

-- what a worker kept who worked alone is all that is kept
pub alone_summed_up : {B A : Type 0} (w : Worked B A) (new : Served B A) → w.overrun < 2 ^ 64
    → IsReordered (filing (lists_of w)) (filing (lists_of_served new)) → new.overrun ≡ w.overrun → IsSummedUp (w ∷ []) new
alone_summed_up {B} {A} w new small same overrun =
    record {
      filed = subst (λ f. IsReordered f (filing (lists_of_served new))) (sym (put_behind-nothing (filing (lists_of w)))) same;
      overrun =
          let all = sum_by-cons (λ (v : Worked B A). v.overrun) w [] in
          omega (arith, small, overrun, all);
    }

-- what became of the numbers that a worker took up alone is what was served
pub alone_served : {B A : Type 0} (numbers ids : List ℕ) (idle worked : Worked B A) (served : Served B A) → IsIdle idle
    → HasTakenUp numbers ids numbers idle worked → IsSummedUp (worked ∷ []) served → IsServedAlone numbers served
alone_served {B} {A} numbers ids idle worked served none taken all =
    let turns = taken.0 in
    let filed = taken.2 in
    ∣ (
      turns,
      taken.1,
      record {
        among = filed.among;
        told = each_told ids turns idle.till worked.till filed.told;
        idle = λ quiet.
            let kept = filed.idle quiet in
            let sum = sum_by-cons (λ (v : Worked B A). v.overrun) worked [] in
            omega (arith, all.overrun, kept, none.overrun, sum);
        filed = subst (λ f. IsReordered f (filing (lists_of_served served)))
            (put_behind-nothing (filing (lists_of worked)) ∙ filed.filed
            ∙ ap (λ f. put_behind f (of_turns turns)) none.filed) all.filed;
      },
    ) ∣₁

-- where each of the numbers was taken up, some were
pub served_alone : {B A : Type 0} (numbers : List ℕ) (served : Served B A) → IsServedAlone numbers served
    → IsServed numbers served
served_alone numbers served alone = ∥∥₁_map alone (λ s. (s.0, s.2))

-- What workers keep, from the numbers that they took up.
use Rattle.std.proofs.Common.{ℕ, ◌≡◌, ◌++◌, List, [], ◌∷◌, Some, map, refl, sym, ap, ◌∙◌, subst, arith, false}
use Rattle.std.proofs.Math.Logic.{∥∥₁_elim, ∥∥₁_map, ∥∥₁_prop}
use Rattle.std.proofs.lemmas.List.Elements.{All-nil, All-cons, All-head, All-tail, All-append}
use Rattle.std.proofs.lemmas.List.Sums.{sum_by-cons}
use Rattle.air_ledger.specs.Tills.{Holding}
use Rattle.server_station.specs.Handling.{IsHandled, was_taken}
use Rattle.server_station.specs.declared.handled.Handled.{Handled}
use Rattle.server_workers.specs.declared.served.Served.{Served}
use Rattle.server_workers.specs.declared.worked.Worked.{Worked}
use Rattle.server_workers.specs.Served.{IsIdle, AreTold, HasDone, IsDone, HaveServed, IsServed}
use Rattle.server_workers.specs.Filing.{put_behind, filing, IsReordered}
use Rattle.server_workers.specs.Lists.{lists_of_served}
use Rattle.server_workers.specs.Serving.{IsSummedUp, added_up, all_filed, all_overrun}
use Rattle.server_workers.specs.Turns.{Turns, AreHandled, AreIdle, AreFiled, HasWorked, IsOneOf, AreAmong, of_turns}
use Rattle.server_workers.specs.Working.{of_turn}
use Rattle.server_workers.proofs.FilingLemmas.{gathered-append}

-- nothing was taken up yet
pub done_none : {B A : Type 0} (given : List ℕ) (w : Worked B A) → IsIdle w → IsDone given w
done_none {B} {A} given w idle =
    ∣ (
      [],
      record {
        among = All-nil (λ (t : ℕ × Handled A). IsOneOf (Some given) t.0);
        told = All-nil _;
        idle = λ none. idle.overrun;
        filed = idle.filed;
      },
    ) ∣₁

module _ {A : Type 0} where
  -- what a number's turn says without the station and the tills that it stood between
  abbrev One : ℕ × Handled A → Type 0
  One t = (ids : List ℕ) × (old : Holding) × (new : Holding) × IsHandled ids t.0 old new t.1

  -- numbers that were taken up one after another
  pub each_told : (ids : List ℕ) (turns : Turns A) (old new : Holding) → AreHandled ids turns old new → AreTold turns
  each_told ids [] old new h = All-nil One
  each_told ids (t ∷ turns) old new h = All-cons One t turns (ids, old, h.0, h.1) (each_told ids turns h.0 new h.2)

  -- numbers of which none got a ticket, cut in two
  idle_parts : (xs ys : Turns A) → AreIdle (xs ++ ys) → AreIdle xs × AreIdle ys
  idle_parts [] ys h = (All-nil (λ (t : ℕ × Handled A). was_taken t.1 ≡ false), h)
  idle_parts (x ∷ xs) ys h =
      let rest = idle_parts xs ys (All-tail (λ (t : ℕ × Handled A). was_taken t.1 ≡ false) x (xs ++ ys) h) in (
        All-cons (λ (t : ℕ × Handled A). was_taken t.1 ≡ false) x xs
            (All-head (λ (t : ℕ × Handled A). was_taken t.1 ≡ false) x (xs ++ ys) h) rest.0,
        rest.1,
      )

-- some numbers more were taken up
more_done : {B A : Type 0} (given ids : List ℕ) (first more : Turns A) (old new : Worked B A) → HasDone given first old
    → AreFiled (Some given) ids more old new
    → HasDone given (first ++ more) new
more_done {B} {A} given ids first more old new done filed =
    record {
      among = All-append (λ (t : ℕ × Handled A). IsOneOf (Some given) t.0) first more done.among filed.among;
      told = All-append One first more done.told (each_told ids more old.till new.till filed.told);
      idle = λ none. let parts = idle_parts first more none in filed.idle parts.1 ∙ done.idle parts.0;
      filed = filed.filed ∙ ap (λ f. put_behind f (of_turns more)) done.filed
          ∙ sym (gathered-append (λ (t : ℕ × Handled A). of_turn t.0 t.1) first more);
    }

pub done_on : {B A : Type 0} (given ids : List ℕ) (old new : Worked B A) → IsDone given old
    → HasWorked (Some given) ids old new → IsDone given new
done_on given ids old new done worked =
    ∥∥₁_map done (λ d. (d.0 ++ worked.0, more_done given ids d.0 worked.0 old new d.1 worked.1))

-- what these numbers came to is what a crew keeps
record HaveDone {B A : Type 0} (given : List ℕ) (turns : Turns A) (crew : List (Worked B A)) : Type 0 where
  among : AreAmong (Some given) turns
  told : AreTold turns
  idle : AreIdle turns → all_overrun crew ≡ 0
  filed : all_filed crew ≡ of_turns turns

one_more : {B A : Type 0} (given : List ℕ) (first more : Turns A) (w : Worked B A) (crew : List (Worked B A))
    → HasDone given first w → HaveDone given more crew → HaveDone given (first ++ more) (w ∷ crew)
one_more {B} {A} given first more w crew one others =
    record {
      among = All-append (λ (t : ℕ × Handled A). IsOneOf (Some given) t.0) first more one.among others.among;
      told = All-append One first more one.told others.told;
      idle = λ none.
          let parts = idle_parts first more none in
          let own = one.idle parts.0 in
          let rest = others.idle parts.1 in
          let all = sum_by-cons (λ (v : Worked B A). v.overrun) w crew in
          omega (arith, own, rest, all);
      filed = ap (λ f. put_behind f (all_filed crew)) one.filed ∙ ap (put_behind (of_turns first)) others.filed
          ∙ sym (gathered-append (λ (t : ℕ × Handled A). of_turn t.0 t.1) first more);
    }

nobody_done : {B A : Type 0} (given : List ℕ) → HaveDone {B = B} {A = A} given [] []
nobody_done {B} {A} given =
    record {
      among = All-nil (λ (t : ℕ × Handled A). IsOneOf (Some given) t.0);
      told = All-nil One;
      idle = λ none. refl;
      filed = refl;
    }

crew_done : {M B A : Type 0} (given : List ℕ) (worked : M → Worked B A) (done : (m : M) → IsDone given (worked m))
    (crew : List M) → ∥ ((turns : Turns A) × HaveDone given turns (map worked crew)) ∥₁
crew_done given worked done [] = ∣ ([], nobody_done given) ∣₁
crew_done given worked done (m ∷ crew) =
    ∥∥₁_elim (done m) ∥∥₁_prop
    (λ one. ∥∥₁_map (crew_done given worked done crew)
    (λ others. (one.0 ++ others.0, one_more given one.0 others.0 (worked m) (map worked crew) one.1 others.1)))

-- what is put together of them
put_together : {B A : Type 0} (given : List ℕ) (turns : Turns A) (crew : List (Worked B A)) (served : Served B A)
    → HaveDone given turns crew → IsSummedUp crew served → HaveServed given turns served
put_together {B} {A} given turns crew served done all =
    record {
      among = done.among;
      told = done.told;
      idle = λ none.
          all.overrun ∙ ap (λ n. added_up 0 n) (done.idle none);
      filed = subst (λ f. IsReordered f (filing (lists_of_served served))) done.filed all.filed;
    }

pub served_by : {M B A : Type 0} (given : List ℕ) (worked : M → Worked B A) (done : (m : M) → IsDone given (worked m))
    (crew : List M) (served : Served B A) → IsSummedUp (map worked crew) served → IsServed given served
served_by given worked done crew served all =
    ∥∥₁_map (crew_done given worked done crew)
    (λ found. (found.0, put_together given found.0 (map worked crew) served found.1 all))

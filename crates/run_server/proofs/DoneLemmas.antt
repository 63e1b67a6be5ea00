-- What is done for events, one after another.
use Rattle.std.proofs.Common.{◌≡◌, ℕ, ◌+◌, ◌<◌, ◌++◌, List, [], ◌∷◌, length, refl, sym}
use Rattle.std.proofs.Common.{ap, arith, subst, Option, Some, None, Result, Ok, IfOk, Bool, false, ◌==◌}
use Rattle.std.specs.Global.{Global}
use Rattle.server_core.specs.declared.event.Event.{Event}
use Rattle.server_core.specs.declared.event.Event.TheVariants as events
use Rattle.server_core.specs.Engine.{IsDoneButPass}
use Rattle.run_server.specs.WorkersRun.{RunState, ShiftState, HasPassed, IsDone, IsShiftDone, AreDone, AreAnswered, AreDealtWith}

-- one more event was done for
pub done_more : (ids : List ℕ) (place : ℕ) (es : List (Event Global)) (e : Event Global) (old mid new : RunState)
    → AreDone ids place es old mid → IsDone ids (place + length es) e mid new → AreDone ids place (es ++ e ∷ []) old new
done_more ids place [] e old mid new same done = (
  new,
  subst (λ p. IsDone ids p e old new) (omega arith) (subst (λ k. IsDone ids (place + 0) e k new) same done),
  refl,
)
done_more ids place (f ∷ es) e old mid new so_far done = (
  so_far.0,
  so_far.1,
  done_more ids (place + 1) es e so_far.0 mid new so_far.2
      (subst (λ p. IsDone ids p e mid new) (omega arith) done),
)

-- some numbers were answered
pub dealt_with : (ids : List ℕ) (place : ℕ) (numbers : List ℕ) (old new : RunState) → 0 < length numbers
    → AreAnswered ids place numbers old new → AreDealtWith ids place numbers old new
dealt_with ids place [] old new some h = absurd (omega (arith, some))
dealt_with ids place (n ∷ numbers) old new some h = h

pub of_ok : {X E : Type 0} (P : X → Type 0) (r : Result X E) (x : X) → r ≡ Ok x → IfOk r P → P x
of_ok P r x e h = subst (λ s. IfOk s P) e h

-- a list that isn't empty
pub some_left : (l m : List ℕ) (t : Bool) → t ≡ (length l == 0) → t ≡ false → l ≡ m → 0 < length m
some_left [] m t e f same = absurd (cc (e, f))
some_left (n ∷ l) m t e f same = subst (λ k. 0 < length k) same (omega arith)

-- what was left of a `Pass` was done
pub passed_then : (place now : ℕ) (e : Event Global) (old mid new : ShiftState) → (e ≡ events.Pass now) × (mid ≡ old)
    → new.ids ≡ mid.ids → new.workers ≡ mid.workers → HasPassed mid.ids place now mid.run new.run
    → IsShiftDone place e old new
passed_then place now e old mid new left ids workers passed =
    subst (λ (s : ShiftState). IsShiftDone place e s new) left.1 (record {
      ids = ids;
      workers = workers;
      done = subst (λ f. IsDone mid.ids place f mid.run new.run) (sym left.0) passed;
    })

-- what was done, of what is seen of a shift
pub seen_done : {X A : Type 0} {Y : Type 0} (f : X → Y) (R : ℕ → Event A → Y → Y → Type 0) (place : ℕ) (e : Event A)
    (old new : X) (left : Option ℕ) → IsDoneButPass (λ p d a b. R p d (f a) (f b)) place e old new left
    → IsDoneButPass R place e (f old) (f new) left
seen_done f R place e old new None done = done
seen_done f R place e old new (Some now) done = (done.0, ap f done.1)

-- The kinds of event at a server on one thread.
use Rattle.server_core.proofs.Words
use Words.{subst, sym, Err, List, Ok, OnOk, Result, [], refl, ℕ, ◌∷◌, ◌≡◌, Heard1, Does, IsBetweenCalls, Makes, Seen, pass_whole}
use Words.{with_lines, Cancel, Hear, Queue, Step, Tick, Event, event_steps, run_from}
use Rattle.server_core.proofs.{Calls.IsDone, Calls.noting_none}
use Rattle.server_core.specs.declared.event.Event.TheVariants as events
use Rattle.server_core.specs.declared.entry.Line.TheVariants as says

-- an event that is one step was done by that step
pub event_ok : {A X E P : Type 0} (r : Result X E) (place : ℕ) (e : Event A) (s : Step) (old new : Seen A)
    → (IsDone place s old new → Does place e old new) → (P → IsDone place s old new) → OnOk r P
    → record { ready : OnOk r (IsBetweenCalls new); done : OnOk r (Does place e old new) }
event_ok (Ok x) place e s old new does f p =
    let d = f p in
    record { ready = d.ready; done = does d }
event_ok (Err x) place e s old new does f p = record { ready = tt; done = tt }

module _ {A : Type 0} (place : ℕ) (old new : Seen A) where
  pub queue_does : (addr port : ℕ) (payload : List ℕ) → IsDone place (Queue addr (port, payload)) old new
      → Does place (events.Queue addr port payload) old new
  unfolding event_steps
  queue_does addr port payload d = d.made

  pub hear_does : (bytes : List ℕ) (heard : Heard1) (arrived : ℕ) → IsDone place (Hear bytes heard arrived) old new
      → Does place (events.Hear bytes heard arrived) old new
  unfolding event_steps
  hear_does bytes heard arrived d = d.made

  pub tick_does : (gateway now : ℕ) → IsDone place (Tick gateway now) old new → Does place (events.Tick gateway now) old new
  unfolding event_steps
  tick_does gateway now d = d.made

  pub cancel_does : (number : ℕ) → IsDone place (Cancel number) old new → Does place (events.Cancel number) old new
  unfolding event_steps
  cancel_does number d = d.made

  -- a line that can't be read
  pub bad_told : (line : ℕ) → new ≡ with_lines place (says.Bad line ∷ []) old → Does place (events.Bad line) old new
  unfolding event_steps run_from
  bad_told line told =
      λ w at. record { at = rw told at; steps = rw told (sym (noting_none old.steps)); outcomes = rw told refl }

  -- a `Pass`, of which nothing was done before
  pub pass_does : (now : ℕ) (e : Event A) (mid : Seen A) → e ≡ events.Pass now → mid ≡ old
      → Makes place (λ w. pass_whole w now) mid new → Does place e old new
  unfolding event_steps
  pass_does now e mid is same made =
      let passed : Does place (events.Pass now) old new = subst (λ s. Makes place (λ w. pass_whole w now) s new) same made in
      subst (λ f. Does place f old new) (sym is) passed

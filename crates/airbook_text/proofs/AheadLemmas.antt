-- What was done ahead of the events that are left.
use Rattle.std.proofs.Common.{◌≡◌, ℕ, ◌+◌, ◌++◌, List, [], ◌∷◌, length, sym, ap, ◌∙◌, arith, subst}
use Rattle.std.specs.Global.{Global}
use Rattle.server_core.specs.declared.event.Event.{Event}
use Rattle.server_desk.specs.declared.setting.DeviceSetting.{DeviceSetting}
use Rattle.server_desk.specs.declared.setting.GatewaySetting.{GatewaySetting}
use Rattle.run_lines.specs.RunEvents.{events_from, events_of}
use Rattle.run_lines.proofs.PartLemmas.{events-append}
use Rattle.run_server.specs.WorkersRun.{RunState, run_state, opening_till, AreDone}
use Rattle.airbook_text.specs.Ahead.{IsAhead}

-- what was done for some events, and then for those behind them
pub done_all : (ids : List ℕ) (place : ℕ) (es more : List (Event Global)) (old mid new : RunState)
    → AreDone ids place es old mid → AreDone ids (place + length es) more mid new → AreDone ids place (es ++ more) old new
done_all ids place [] more old mid new same done =
    subst (λ p. AreDone ids p more old new) (omega arith) (subst (λ k. AreDone ids (place + 0) more k new) same done)
done_all ids place (e ∷ es) more old mid new so_far done = (
  so_far.0,
  so_far.1,
  done_all ids (place + 1) es more so_far.0 mid new so_far.2 (subst (λ p. AreDone ids p more mid new) (omega arith) done),
)

-- once the rest is done too, all is
pub ahead_done : (gateways : List GatewaySetting) (es : List (Event Global)) (ids : List ℕ) (place : ℕ)
    (rest : List (Event Global)) (mid reached : RunState) → IsAhead gateways es ids place rest mid
    → AreDone ids place rest mid reached → AreDone ids 0 es (run_state opening_till [] []) reached
ahead_done gateways es ids place rest mid reached a done =
    subst (λ l. AreDone ids 0 l (run_state opening_till [] []) reached) (sym a.whole)
    (done_all ids 0 a.front rest (run_state opening_till [] []) mid reached a.done
    (subst (λ p. AreDone ids p rest mid reached) (omega (arith, a.behind)) done))

-- the events of a text's lines, by those of two parts of it
pub in_parts : (devices : List DeviceSetting) (number : ℕ) (all front back : List (List ℕ)) → all ≡ front ++ back
    → number ≡ 1 + length front → events_of {A = Global} devices front ++ events_from devices number back ≡ events_of devices all
in_parts devices number all front back parts behind =
    ap (λ n. events_of devices front ++ events_from devices n back) behind ∙ sym (events-append devices 1 front back)
    ∙ ap (events_of devices) (sym parts)

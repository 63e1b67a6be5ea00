-- The events of lines that are cut in two.
use Rattle.std.proofs.Common.{ℕ, ◌≡◌, ◌+◌, List, [], ◌∷◌, ◌++◌, length, sym, ap, ◌∙◌, arith, append_assoc}
use Rattle.std.specs.Option.{option_to_list}
use Rattle.server_core.specs.declared.event.Event.{Event}
use Rattle.server_desk.specs.declared.setting.DeviceSetting.{DeviceSetting}
use Rattle.run_lines.specs.RunEvents.{line_event, events_from}

-- the events of some lines, and then those of the lines behind them
pub events-append : {A : Type 0} (devices : List DeviceSetting) (number : ℕ) (front back : List (List ℕ))
    → events_from {A = A} devices number (front ++ back)
    ≡ events_from devices number front ++ events_from devices (number + length front) back
unfolding events_from
events-append devices number [] back = ap (λ n. events_from devices n back) (omega arith)
events-append devices number (line ∷ front) back =
    ap (λ l. option_to_list (line_event devices number line) ++ l) (events-append devices (number + 1) front back)
    ∙ sym (append_assoc (option_to_list (line_event devices number line)) (events_from devices (number + 1) front)
    (events_from devices (number + 1 + length front) back))
    ∙ ap (λ n. (option_to_list (line_event devices number line) ++ events_from devices (number + 1) front)
    ++ events_from devices n back) (omega arith)

-- the events of one line more, and those of the lines behind it
pub events_more : {A : Type 0} (devices : List DeviceSetting) (at : ℕ) (line : List ℕ) (more : List (List ℕ))
    (all old new : List (Event A)) → all ≡ old ++ events_from devices at (line ∷ more)
    → new ≡ old ++ option_to_list (line_event devices at line) → all ≡ new ++ events_from devices (at + 1) more
unfolding events_from
events_more devices at line more all old new o n =
    o ∙ sym (append_assoc old (option_to_list (line_event devices at line)) (events_from devices (at + 1) more))
    ∙ ap (λ l. l ++ events_from devices (at + 1) more) (sym n)

use Rattle.std.proofs.Common.{Global, refl, ◌≡◌, ap}
use Rattle.std.specs.Str.Lines.{lines}
use Rattle.run_lines.specs.RunEvents.{events_of}
use Rattle.run_lines.specs.RunInput.{settings_part, event_part}
use Rattle.airbook_text.proofs.RunWhole.{answered-by, runs-in_part, runs-told}
use Rattle.airbook_text.proofs.run.run_text.Goals as goal

pub returns-then-workers-eq0-clause-ok : goal.returns-then-workers-eq0-clause-ok
returns-then-workers-eq0-clause-ok g c alone =
    let made :
    c.in_ok-events.events.items
    ≡ events_of c.in_ok-settings.settings.devices (lines (event_part c.in_ok-input.input.items)) =
    c.in_ok-events.ensures.given in
    runs-told Global _ _ _ _ c.in_ok-input.input.items _ _ _ c.tell_alone.result c.in_ok-input.ensures.ok
    c.in_ok-input.ensures.consumed (ap settings_part c.as_slice.ensures.value) refl c.in_ok-settings.ensures.given
    (rw made at c.tell_alone.ensures.ok) (rw made at c.tell_alone.ensures.told)

pub returns-then-workers-eq0-clause-front : goal.returns-then-workers-eq0-clause-front
returns-then-workers-eq0-clause-front g c alone failed =
    let made :
    c.in_ok-events.events.items
    ≡ events_of c.in_ok-settings.settings.devices (lines (event_part c.in_ok-input.input.items)) =
    c.in_ok-events.ensures.given in
    let answered = answered-by Global _ _ c.in_ok-input.input.items _ _ _ _ c.in_ok-input.ensures.ok
    c.in_ok-input.ensures.consumed (ap settings_part c.as_slice.ensures.value) refl c.in_ok-settings.ensures.given refl in
    runs-in_part Global _ _ _ _ _ _ _ answered (rw made at (c.tell_alone.ensures.front failed))

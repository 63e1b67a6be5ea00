use Rattle.std.proofs.Common.{Global, ◌≢◌, ap, ◌∙◌, subst, IfOk, IfErr}
use Rattle.std.specs.Str.Lines.{lines}
use Rattle.text_words.specs.declared.fault.TextFault.TheVariants.{NoMemory}
use Rattle.run_lines.specs.RunEvents.{events_of}
use Rattle.run_lines.specs.RunInput.{event_part}
use Rattle.run_server.specs.Bookings.{open_receipts}
use Rattle.run_server.specs.WorkersRun.{run_state, IsClosing, IsClosingFault}
use Rattle.airbook_text.specs.Ahead.{IsAhead}
use Rattle.airbook_text.proofs.AheadLemmas.{ahead_done}
use Rattle.airbook_text.proofs.PlayedLemmas.{finished_with, apart_with, played_apart, played_with}
use Rattle.airbook_text.proofs.run_ahead.play.Goals as goal

pub returns-in-Ok-answer_all-clause-played : goal.returns-in-Ok-answer_all-clause-played
returns-in-Ok-answer_all-clause-played g c =
    let settings = c.args.settings.now in
    let es = events_of {A = Global} settings.devices (lines (event_part c.args.input.items)) in
    let begun = c.in-Ok.made.0 in
    let rest = c.in-Ok.made.1.items in
    let ids = begun.shift.station.value in
    let mid = run_state begun.shift.till begun.shift.receipts begun.shift.entries.items in
    let after = c.in-Ok-answer_all.shift in
    let reached = run_state after.till after.receipts after.entries.items in
    let ahead : IsAhead settings.gateways es ids begun.place rest mid =
    subst (λ text. IsAhead settings.gateways (events_of {A = Global} settings.devices (lines text)) ids begun.place rest mid)
    (c.parts_of.ensures.events ∙ ap event_part c.as_slice.ensures.value) c.in-Ok.ensures.ahead in
    let done = ahead_done settings.gateways es ids begun.place rest mid reached ahead c.in-Ok-answer_all.ensures.done in
    played_with settings.gateways ids es c.close.result ahead.in_order
    (finished_with ids es after.till after.receipts after.entries c.close.result done c.close.ensures.entries
    (subst (λ l. IfOk c.close.result (λ played. IsClosing l (open_receipts after.receipts) played.totals.items
    played.books.items)) c.in-Ok-answer_all.ensures.station c.close.ensures.books) c.close.ensures.booked)

pub returns-in-Ok-answer_all-clause-apart : goal.returns-in-Ok-answer_all-clause-apart
returns-in-Ok-answer_all-clause-apart g c =
    let settings = c.args.settings.now in
    let es = events_of {A = Global} settings.devices (lines (event_part c.args.input.items)) in
    let begun = c.in-Ok.made.0 in
    let rest = c.in-Ok.made.1.items in
    let ids = begun.shift.station.value in
    let mid = run_state begun.shift.till begun.shift.receipts begun.shift.entries.items in
    let after = c.in-Ok-answer_all.shift in
    let reached = run_state after.till after.receipts after.entries.items in
    let ahead : IsAhead settings.gateways es ids begun.place rest mid =
    subst (λ text. IsAhead settings.gateways (events_of {A = Global} settings.devices (lines text)) ids begun.place rest mid)
    (c.parts_of.ensures.events ∙ ap event_part c.as_slice.ensures.value) c.in-Ok.ensures.ahead in
    let done = ahead_done settings.gateways es ids begun.place rest mid reached ahead c.in-Ok-answer_all.ensures.done in
    played_apart settings.gateways ids es c.close.result ahead.in_order
    (apart_with ids es after.till after.receipts after.entries.items c.close.result done
    (subst (λ l. IfErr c.close.result (λ fault. fault ≢ NoMemory → IsClosingFault l (open_receipts after.receipts) fault))
    c.in-Ok-answer_all.ensures.station c.close.ensures.cause))

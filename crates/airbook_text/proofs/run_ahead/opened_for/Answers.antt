use Rattle.std.proofs.Common.{◌+◌, ap, subst, IfOk}
use Rattle.std.specs.Str.Lines.{lines}
use Rattle.run_server.specs.WorkersRun.{run_state}
use Rattle.airbook_text.specs.Ahead.{IsAhead}
use Rattle.airbook_text.proofs.AheadLemmas.{in_parts}
use Rattle.airbook_text.proofs.run_ahead.opened_for.Goals as goal

pub returns-in_ok-shift-in-Some-clause-ahead : goal.returns-in_ok-shift-in-Some-clause-ahead
returns-in_ok-shift-in-Some-clause-ahead g c =
    let settings = c.args.settings.now in
    let whole = lines c.args.text.now in
    let front = lines c.in-Some.front.now in
    let back = lines c.in-Some.back.now in
    subst (λ es. IfOk c.ahead_of.result (λ made. IsAhead settings.gateways es made.0.shift.station.value made.0.place
    made.1.items (run_state made.0.shift.till made.0.shift.receipts made.0.shift.entries.items)))
    (in_parts settings.devices (1 + c.in-Some.count) whole front back c.in-Some.ensures.lines
    (ap (λ n. 1 + n) c.in-Some.ensures.count))
    c.ahead_of.ensures.ahead

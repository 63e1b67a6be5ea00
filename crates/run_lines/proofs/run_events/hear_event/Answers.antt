use Rattle.std.proofs.Common.{◌≡◌, length, sym, arith}
use Rattle.std.proofs.lemmas.Result.{IfOk-weaker}
use Rattle.run_lines.proofs.EventLemmas.{hear_event-other, hear_event-by}
use Rattle.run_lines.proofs.run_events.hear_event.Goals as goal
use Rattle.run_lines.proofs.run_events.hear_event.Goals.{in_default-via-then-words-lt8}
use Rattle.run_lines.proofs.run_events.hear_event.Goals.{in_default-via-else-words-lt8+else-words-lt9}

pub returns-in_default : goal.returns-in_default
returns-in_default c =
    sym (hear_event-other _ _ c.args.words.now (λ eight. elim c.in_default.branch [
      | in_default-via-then-words-lt8 w ↦ absurd (grind (arith, eight))
      | in_default-via-else-words-lt8+else-words-lt9 w ↦ absurd (grind (arith, eight))
    ]))

pub returns : goal.returns
returns c =
    let eight : length c.args.words.now ≡ 8 = omega arith in
    IfOk-weaker c.hear_with.result _ _
    (λ event gives. hear_event-by (λ word. word.now) c.args.ring.now.devices.now c.args.words.now _ c.heard_with-heard.result
    c.number_u64.result event eight c.heard_with-heard.ensures c.number_u64.ensures gives)
    c.hear_with.ensures

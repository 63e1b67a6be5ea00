use Rattle.std.proofs.Common.{◌≡◌, ◌+◌, ◌/◌, ◌<◌, length, drop, get_or, sym, ap, ◌∙◌, arith}
use Rattle.std.proofs.lemmas.List.{take_rest, get_or-drop, length-drop}
use Rattle.memchr.specs.Find.{is_byte}
use Rattle.memchr.proofs.lemmas.CallerLemmas.{length-places}
use Rattle.run_lines.proofs.CutLemmas.{lines-cut, count-cut}
use Rattle.run_lines.proofs.all_events.first_quarter.Goals as goal

pub returns-clause-lines : goal.returns-clause-lines
returns-clause-lines c =
    let text = c.args.text.now in
    let quarter = length text / 4 in
    let feed = c.in_ok-end.field-0 in
    let within : feed < length (drop quarter text) = rw take_rest at c.in_ok-end.ensures.within in
    let at : get_or (drop quarter text) feed 0 ≡ 10 = rw take_rest at c.in_ok-end.ensures.feed in
    rw (c.split_at.ensures.front, c.split_at.ensures.back)
    (lines-cut text (quarter + feed) (omega (arith, within, length-drop quarter text))
    (sym (get_or-drop quarter text feed 0) ∙ at))

pub returns-clause-count : goal.returns-clause-count
returns-clause-count c =
    let text = c.args.text.now in
    let quarter = length text / 4 in
    let feed = c.in_ok-end.field-0 in
    let front = c.split_at.result.0.now in
    let within : feed < length (drop quarter text) = rw take_rest at c.in_ok-end.ensures.within in
    let at : get_or (drop quarter text) feed 0 ≡ 10 = rw take_rest at c.in_ok-end.ensures.feed in
    c.count.ensures ∙ ap length c.memchr_iter.ensures.value ∙ length-places (is_byte 10) front
    ∙ rw c.split_at.ensures.front
    (count-cut text (quarter + feed) (omega (arith, within, length-drop quarter text))
    (sym (get_or-drop quarter text feed 0) ∙ at))

use Rattle.std.proofs.Common.{◌≡◌, ◌/◌, ◌++◌, length, sym, ap, ◌∙◌}
use Rattle.std.proofs.lemmas.List.{take-append-drop}
use Rattle.std.proofs.lemmas.Result.{IfOk-weaker, IfOk-at_ok}
use Rattle.run_lines.specs.ReplayText.{bytes_of}
use Rattle.run_lines.proofs.ReplayLemmas.{entries_text, entries-append, bytes-append}
use Rattle.run_lines.proofs.all_lines.+halves_of_text.Goals as goal

pub returns : goal.returns
returns g t c =
    let entries = c.args.entries.now in
    let front = c.split_at.result.0.now in
    let back = c.split_at.result.1.now in
    let halves = c.split_at.ensures in
    let whole : front ++ back ≡ entries = rw (halves.front, halves.back) (take-append-drop (length entries / 2) entries) in
    let one = IfOk-at_ok (λ v. bytes_of v.items ≡ entries_text front) c.in_ok-first.was c.join-first.ensures.first in
    let other = IfOk-at_ok (λ v. bytes_of v.items ≡ entries_text back) c.in_ok-second.was c.join-first.ensures.second in
    let first = c.in_ok-first.field-0.items in
    let second = c.in_ok-second.field-0.items in
    IfOk-weaker c.joined.result (λ texts. texts.items ≡ first ++ second) _
    (λ texts e. ap bytes_of e ∙ bytes-append first second ∙ ap (λ l. l ++ bytes_of second) one
    ∙ ap (λ l. entries_text front ++ l) other ∙ sym (entries-append front back) ∙ ap entries_text whole)
    c.joined.ensures

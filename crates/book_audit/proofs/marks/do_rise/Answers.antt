use Rattle.std.proofs.Common.{nat_lt, rules, tests}
use Rattle.std.proofs.lemmas.List.Sorted.{answers_always}
use Rattle.book_audit.proofs.MarkLemmas.{all_rise}
use Rattle.book_audit.proofs.marks.do_rise.Goals as goal

pub returns : goal.returns
returns g c =
    all_rise c.args.receipts.now c.is_sorted_by.result
    (c.is_sorted_by.ensures.cases (λ r s. nat_lt r.reservation.number s.reservation.number)
    (answers_always _ _ _ (λ f a r q k. search (rules, tests))))

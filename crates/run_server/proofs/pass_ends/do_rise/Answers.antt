use Rattle.std.proofs.Common.{nat_lt, rules, tests}
use Rattle.std.proofs.lemmas.List.Sorted.{answers_always}
use Rattle.run_server.proofs.NumberLemmas.{increasing}
use Rattle.run_server.proofs.pass_ends.do_rise.Goals as goal

pub returns : goal.returns
returns c =
    increasing c.args.numbers.now c.is_sorted_by.result
    (c.is_sorted_by.ensures.cases nat_lt (answers_always _ _ _ (λ f a r q k. search (rules, tests))))

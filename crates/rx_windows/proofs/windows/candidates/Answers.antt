use Rattle.std.proofs.Common.{◌∙◌, ap, tests, rules}
use Rattle.std.proofs.lemmas.Iterator.{YieldsList-from_slice, YieldsList-from_map}
use Rattle.std.proofs.lemmas.Iterator.Consumers.{YieldsList-from_chain}
use Rattle.std.proofs.lemmas.Iterator.Adapters.{items_from_extend}
use Rattle.std.specs.Iterator.Adapters.{map_callee}
use Rattle.rx_windows.specs.Windows.{rx1_of, rx2_of, candidates_of}
use Rattle.rx_windows.proofs.windows.candidates.Goals as goal

pub returns : goal.returns
unfolding candidates_of
returns g c =
    let copies = c.args.copies.now in
    let plan = c.args.plan.now in
    let added =
    items_from_extend
    c.extend.result
    c.extend.ensures.ran
    (YieldsList-from_chain
    (YieldsList-from_map _ (rx1_of plan) (YieldsList-from_slice copies (cc))
    (ap map_callee c.chain.ensures.first ∙ c.map-first.ensures.closure) (λ x r q k. search (rules, tests)))
    (YieldsList-from_map _ (rx2_of plan) (YieldsList-from_slice copies (cc))
    (ap map_callee c.chain.ensures.second ∙ c.map-second.ensures.closure) (λ x r q k. search (rules, tests)))
    c.chain.ensures.first_done
    c.chain.ensures.second_done) in
    search rules

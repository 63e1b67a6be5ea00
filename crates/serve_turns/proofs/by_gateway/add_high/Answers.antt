use Rattle.std.proofs.Common.{append-nil, ap, sym, ◌++◌, ◌∙◌}
use Rattle.std.proofs.lemmas.Bool.{ltb-false}
use Rattle.std.proofs.lemmas.Option.{slice_get_past}
use Rattle.serve_turns.specs.Forwarders.{with_high}
use Rattle.serve_turns.proofs.by_gateway.add_high.Goals as goal

pub returns-in-None : goal.returns-in-None
returns-in-None g c =
    let none = slice_get_past c.args.highs.now c.args.place (ltb-false c.args.place _ (sym c.in-None.ensures.lookup.0)) in
    sym (append-nil c.args.resumed.now.items)
    ∙ ap (λ o. c.args.resumed.now.items ++ with_high c.args.forwarder.now o) (sym none)

use Rattle.std.proofs.Common.{ap, sym}
use Rattle.std.proofs.lemmas.Bool.{ltb-false}
use Rattle.std.proofs.lemmas.Option.{slice_get_past}
use Rattle.serve_opening.specs.Gateways.{known_by, others}
use Rattle.serve_opening.proofs.gateway.take_at.Goals as goal

pub returns-in-None : goal.returns-in-None
returns-in-None g c =
    let none = slice_get_past c.args.forwarders.now c.args.place (ltb-false c.args.place _ (sym c.in-None.ensures.lookup.0)) in
    record {
      taken = ap (λ o. known_by o c.args.known.now.items) (sym none);
      rest = ap (λ o. others o c.args.known.now.items) (sym none);
    }

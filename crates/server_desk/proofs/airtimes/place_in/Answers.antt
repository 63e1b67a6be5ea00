use Rattle.std.proofs.Common.{rules, tests, ap, sym, refl, position, ◌==◌, ◌∙◌}
use Rattle.std.proofs.lemmas.List.{map-id}
use Rattle.std.proofs.lemmas.Iterator.{YieldsList-from_slice}
use Rattle.std.proofs.lemmas.Iterator.Search.{position_from_yields_List}
use Rattle.server_desk.proofs.Places.{place_of_first}
use Rattle.server_desk.proofs.airtimes.place_in.Goals as goal

pub returns-clause-found : goal.returns-clause-found
returns-clause-found c =
    let ids = c.args.ids.now in
    position_from_yields_List (λ id. id == c.args.gateway) _ _ c.position.result c.position.ensures.ran
    (YieldsList-from_slice ids c.iter.ensures.rest) (λ x b q k. search (rules, tests))
    ∙ ap (position (λ id. id == c.args.gateway)) (sym (map-id ids))
    ∙ place_of_first (λ id. id) (λ id. id == c.args.gateway) (λ id. id == c.args.gateway) (λ id. refl) ids

use Rattle.std.proofs.Common.{arith, ◌<◌, [], ◌∷◌, ◌++◌, map, take, length, ap, sym, ◌∙◌}
use Rattle.std.proofs.lemmas.List.{map_more}
use Rattle.server_station.proofs.place.empty_places.Goals as goal

pub empty_place-requires : goal.empty_place-requires
empty_place-requires g c = c.requires c.loop-gateway.gateway-index (record { id = 0; cap = 0; gap = 0 }) (omega arith)

pub loop-gateway-preserved : goal.loop-gateway-preserved
loop-gateway-preserved g c =
    let within : c.loop-gateway.gateway-index < length c.args.gateways.now = omega arith in
    c.in_ok-push.ensures.items
    ∙ ap (λ l. l ++ c.empty_place.result ∷ []) c.loop-gateway.invariant
    ∙ ap (λ n. map (λ s. s.id) (take c.loop-gateway.gateway-index c.args.gateways.now) ++ n ∷ []) c.empty_place.ensures
    ∙ sym (map_more (λ s. s.id) c.args.gateways.now c.loop-gateway.gateway-index (record { id = 0; cap = 0; gap = 0 }) within)

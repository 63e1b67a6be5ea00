use Rattle.std.proofs.Common.{◌≡◌, map, take}
use Rattle.server_station.proofs.place.empty_places.Given as goal

abbrev pub invariant-loop-gateway : goal.invariant-loop-gateway
invariant-loop-gateway g l = l.places.items ≡ map (λ g. g.id) (take l.gateway-index l.gateways)

use Rattle.server_core.proofs.Words.{option_map, drop, map, ◌+◌, ◌≡◌, gateway_with, gateway_of}
use Rattle.server_core.proofs.books.place_of.Given as goal

abbrev pub invariant-loop-place : goal.invariant-loop-place
invariant-loop-place g l =
    option_map (λ found. l.place + found.0) (gateway_with l.gateway (map gateway_of (drop l.place l.books)))
    ≡ option_map (λ found. found.0) (gateway_with l.gateway (map gateway_of l.books))

use Rattle.server_core.proofs.Words.{map, ◌≡◌, opened_gateway, gateway_of}
use Rattle.std.proofs.Common.{take}
use Rattle.server_core.proofs.books.books_of.Given as goal

abbrev pub invariant-loop-gateway : goal.invariant-loop-gateway
invariant-loop-gateway g l = map gateway_of l.books.items ≡ map opened_gateway (take l.gateway-index l.gateways)

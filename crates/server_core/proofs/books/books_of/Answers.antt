use Rattle.server_core.proofs.Words.{map, ◌∙◌, ◌++◌, ◌∷◌, [], ap, sym, get_or, map-append, opened_gateway, gateway_of}
use Rattle.server_core.proofs.Words.{GatewaySetting}
use Rattle.std.proofs.Common.{take}
use Rattle.std.proofs.lemmas.List.{take_more}
use Rattle.server_core.proofs.books.books_of.Goals as goal

pub empty_book-requires : goal.empty_book-requires
empty_book-requires g c = c.requires c.loop-gateway.gateway-index _ c.loop-gateway-test.true

pub loop-gateway-preserved : goal.loop-gateway-preserved
loop-gateway-preserved g c =
    let all = c.args.gateways.now in
    let place = c.loop-gateway.gateway-index in
    let none : GatewaySetting = record { id = 0; cap = 0; gap = 0 } in
    let so_far = map opened_gateway (take place all) in
    ap (map gateway_of) c.in_ok-push.ensures.items
    ∙ map-append gateway_of c.loop-gateway.books.items (c.empty_book.result ∷ [])
    ∙ ap (λ made. made ++ gateway_of c.empty_book.result ∷ []) c.loop-gateway.invariant
    ∙ ap (λ book. so_far ++ gateway_of book ∷ []) c.empty_book.ensures
    ∙ sym (map-append opened_gateway (take place all) (get_or all place none ∷ []))
    ∙ ap (map opened_gateway) (sym (take_more all place none c.loop-gateway-test.true))

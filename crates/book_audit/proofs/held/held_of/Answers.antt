use Rattle.std.proofs.Common.{◌<◌, ◌++◌, length, map, take, sym, ap, ◌∙◌, arith}
use Rattle.book_audit.specs.Audit.{held_by}
use Rattle.book_audit.proofs.HeldLemmas.{held_more}
use Rattle.book_audit.proofs.held.held_of.Goals as goal

pub loop-gateway-preserved : goal.loop-gateway-preserved
loop-gateway-preserved g c =
    let within : c.loop-gateway.gateway-index < length c.args.shelf.now = omega arith in
    c.in_ok-add_all.ensures
    ∙ ap (λ l. l ++ map (λ r. (c.loop-gateway-item.result.0, r)) c.deref.result.now) c.loop-gateway.invariant
    ∙ ap (λ l. held_by (take c.loop-gateway.gateway-index c.args.shelf.now) ++ map (λ r. (c.loop-gateway-item.result.0, r)) l)
    (c.deref.ensures.value ∙ c.in_ok-members.ensures.members)
    ∙ sym (held_more c.args.shelf.now c.loop-gateway.gateway-index c.loop-gateway-item.result within c.loop-gateway-item.is)

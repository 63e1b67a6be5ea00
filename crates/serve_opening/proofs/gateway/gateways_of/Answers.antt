use Rattle.serve_opening.proofs.Matching.{opens_step, opens_all}
use Rattle.serve_opening.proofs.gateway.gateways_of.Goals as goal

pub opened-requires : goal.opened-requires
opened-requires g c = c.requires c.loop-place.place _ c.loop-place-test.true

pub loop-place-preserved : goal.loop-place-preserved
loop-place-preserved g c =
    opens_step _ _ _ _ _ _ _ _ _ _ _ _ _ _ c.loop-place-test.true c.loop-place.invariant c.take_at-taken.ensures.taken
    c.take_at-taken.ensures.rest c.high_of.ensures c.in_ok-opened.ensures c.in_ok-push-2.ensures.items c.in_ok-push.ensures.items

pub returns : goal.returns
returns g c =
    let all = opens_all _ _ _ _ _ _ _ c.loop-place-test.false c.loop-place.invariant in
    record { books = all.0; highs = all.1; forgotten = all.2 }

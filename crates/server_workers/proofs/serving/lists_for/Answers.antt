use Rattle.std.proofs.Common.{arith, subst, sym, ◌∙◌, All}
use Rattle.std.proofs.lemmas.List.Elements.{All-push}
use Rattle.server_workers.specs.Filing.{AreEmptyFor}
use Rattle.server_workers.proofs.serving.lists_for.Goals as goal

pub loop-worker-preserved : goal.loop-worker-preserved
loop-worker-preserved g c =
    record {
      count = omega (arith, c.push_reserved.ensures.len, c.loop-worker.invariant.count);
      places = c.push_reserved.ensures.capacity ∙ c.loop-worker.invariant.places;
      empty =
          subst (All (λ own. AreEmptyFor c.args.room own)) (sym c.push_reserved.ensures.items)
          (All-push (λ own. AreEmptyFor c.args.room own) c.loop-worker.lists.items c.in_ok-with_room.field-0
          c.loop-worker.invariant.empty c.in_ok-with_room.ensures);
    }

use Rattle.server_desk.proofs.DeskLemmas.{found_at, found_kept, queued_holds, pushed_servable, queued_step}
use Rattle.server_desk.proofs.desk.Desk.queue.Goals as goal

pub invariant_of-self : goal.invariant_of-self
invariant_of-self g c =
    let p = rw (← c.self.view_is) at c.in-Some.ensures in
    let at = found_at _ _ _ _ c.index_mut.ensures.value p in (
      queued_holds _ _ _ _ _ _ _ at _ c.self.invariant.0 c.push.ensures.setting
          (pushed_servable _ _ (c.args.port, c.args.payload.now) c.push.result c.push.ensures.told c.push.ensures.pushed
          c.push.ensures.refused) c.push.ensures.out,
      c.self.invariant.1,
    )

pub returns-in-Some-clause-step : goal.returns-in-Some-clause-step
returns-in-Some-clause-step g c =
    let p = rw (← c.self.view_is) at c.in-Some.ensures in
    let at = found_at _ _ _ _ c.index_mut.ensures.value p in
    rw (← c.self.view_is) (queued_step _ _ _ _ _ _ _ at _ _ (c.args.port, c.args.payload.now) c.push.result
    (found_kept _ _ _ _ c.index_mut.ensures.value p) c.push.ensures.told c.push.ensures.pushed)

use Rattle.server_workers.proofs.TurnLemmas.{more_none, more_on, worked_none, worked_on}
use Rattle.server_workers.proofs.working.work_on.Goals as goal

pub loop-init : goal.loop-init
loop-init g c = (tt, tt, more_none c.args.worked.now, worked_none _ _ c.args.worked.now)

pub loop-preserved : goal.loop-preserved
loop-preserved g c =
    let so_far = c.loop.invariant in
    let one = c.answer.ensures in (
      tt,
      tt,
      more_on c.args.worked.now c.loop.worked c.answer.new.self so_far.2 one.more,
      worked_on _ _ _ c.args.worked.now c.loop.worked c.answer.new.self c.in-Ok.ensures so_far.3 one.filed,
    )

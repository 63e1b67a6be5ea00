use Rattle.std.proofs.Common.{subst, sym}
use Rattle.server_workers.specs.Filing.{filing}
use Rattle.run_server.specs.PassTurns.{HasFiledInOrder}
use Rattle.run_server.proofs.TurnLemmas.{none_filed, is_none}
use Rattle.run_server.proofs.station_pass.take_up.Goals as goal

pub returns-then-is_empty-clause-filed : goal.returns-then-is_empty-clause-filed
returns-then-is_empty-clause-filed g c =
    subst (λ l. HasFiledInOrder c.args.station.now l c.args.till.now c.args.till.now (filing c.args.filed.now) (filing c.args.filed.now))
    (sym (is_none c.args.numbers.now c.is_empty.result c.is_empty.ensures c.if-is_empty.true))
    (none_filed c.args.station.now c.args.till.now (filing c.args.filed.now))

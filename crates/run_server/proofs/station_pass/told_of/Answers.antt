use Rattle.std.proofs.Common.{◌∙◌}
use Rattle.server_workers.specs.Filing.{filing}
use Rattle.run_server.proofs.TurnLemmas.{told_in_order}
use Rattle.run_server.proofs.station_pass.told_of.Goals as goal

pub returns-clause-told : goal.returns-clause-told
returns-clause-told g c =
    told_in_order c.args.station.now c.args.till.now c.take_up.new.till (filing c.args.filed) (filing c.take_up.new.filed) c.args.numbers.now
    c.as_slice.result.now c.in_ok-answers.answers.items c.answers.new.filed.receipts.items c.in_ok-take_up.ensures.filed
    (c.as_slice.ensures.value ∙ c.in_ok-left.ensures) c.in_ok-take_up.ensures.sorted c.in_ok-answers.ensures.told
    c.answers.ensures.booked

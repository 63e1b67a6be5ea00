use Rattle.std.proofs.Common.{ap, ◌∙◌}
use Rattle.server_workers.specs.Filing.{filing}
use Rattle.server_workers.proofs.FilingLemmas.{empty}
use Rattle.server_workers.proofs.AloneLemmas.{alone_served, served_alone}
use Rattle.server_workers.proofs.alone.serve_alone.Goals as goal

pub returns-clause-each : goal.returns-clause-each
returns-clause-each g c =
    let made = c.idle-worked.ensures in
    let none = c.in-Ok.ensures in
    alone_served c.args.numbers.now c.args.station.now c.idle-worked.result c.answer_all.new.self c.taken_over.result
    (record { filed = ap filing made.lists ∙ empty _ _ none; overrun = made.overrun })
    c.answer_all.ensures.turns c.taken_over.ensures.all

pub returns-clause-turns : goal.returns-clause-turns
returns-clause-turns g c = served_alone c.args.numbers.now c.taken_over.result (returns-clause-each g c)

use Rattle.std.proofs.Common.{subst}
use Rattle.std.proofs.lemmas.Result.{IfOk-weaker}
use Rattle.air_ledger.specs.Tills.{Holding}
use Rattle.server_workers.specs.Filing.{nothing, filing}
use Rattle.run_server.specs.declared.station_pass.Told.{Told}
use Rattle.run_server.specs.PassTold.{IsPassToldFrom, IsPassToldAlone}
use Rattle.run_server.proofs.TurnLemmas.{raised_none}
use Rattle.run_server.proofs.station_pass.told_alone.Goals as goal

pub returns-clause-told : goal.returns-clause-told
returns-clause-told g c =
    let after = c.told_of-told.new.till in
    let ids = c.args.station.now in
    IfOk-weaker c.told_of-told.result
    (λ (t : Told). IsPassToldFrom ids c.args.fault.till after (filing c.none.result) c.args.numbers.now
    t.answers.items t.booked.items)
    (λ (t : Told). IsPassToldAlone ids c.args.fault.till after c.args.numbers.now t.answers.items t.booked.items)
    (λ t told.
    subst (λ (h : Holding). IsPassToldFrom ids h after nothing c.args.numbers.now t.answers.items t.booked.items)
    (raised_none c.args.fault.till)
    (subst (λ f. IsPassToldFrom ids c.args.fault.till after f c.args.numbers.now t.answers.items t.booked.items)
    c.none.ensures told))
    c.told_of-told.ensures.told

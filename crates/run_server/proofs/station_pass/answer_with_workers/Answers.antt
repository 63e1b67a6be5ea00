use Rattle.std.proofs.Common.{subst, sym}
use Rattle.std.specs.Prelude.{IfOk, IfErr}
use Rattle.std.proofs.lemmas.Result.{IfOk-weaker}
use Rattle.air_ledger.specs.Tills.{Holding}
use Rattle.server_workers.specs.Filing.{filing}
use Rattle.server_workers.specs.Lists.{lists_of_served}
use Rattle.run_server.specs.declared.station_pass.Told.{Told}
use Rattle.run_server.specs.PassTold.{IsPassTold, IsPassToldFrom, IsPassToldAlone}
use Rattle.run_server.proofs.TurnLemmas.{served_ended, told_alone}
use Rattle.run_server.proofs.station_pass.answer_with_workers.Goals as goal

pub returns-in-Ok-clause-told : goal.returns-in-Ok-clause-told
returns-in-Ok-clause-told g c =
    let served = c.in-Ok.served in
    let made = c.told_behind.result in
    IfOk-weaker made.told
    (λ (t : Told). IsPassToldFrom c.args.station.now served.till made.till (filing (lists_of_served served)) c.args.numbers.now
    t.answers.items t.booked.items)
    (λ (t : Told). IsPassTold c.args.station.now c.args.till made.till c.args.numbers.now t.answers.items t.booked.items)
    (λ t told. record {
      workers = filing (lists_of_served served);
      by_number = c.in-Ok.ensures.sorted;
      ended = served_ended c.args.numbers.now served c.in-Ok.ensures.turns;
      told = subst (λ (h : Holding). IsPassToldFrom c.args.station.now h made.till (filing (lists_of_served served)) c.args.numbers.now
          t.answers.items t.booked.items) c.in-Ok.ensures.till told;
    })
    c.told_behind.ensures.told

pub returns-in-Err-clause-told : goal.returns-in-Err-clause-told
returns-in-Err-clause-told g c =
    let made = c.told_alone.result in
    IfOk-weaker made.told
    (λ (t : Told). IsPassToldAlone c.args.station.now c.in-Err.fault.till made.till c.args.numbers.now
    t.answers.items t.booked.items)
    (λ (t : Told). IsPassTold c.args.station.now c.args.till made.till c.args.numbers.now t.answers.items t.booked.items)
    (λ t told. told_alone c.args.station.now c.args.till made.till c.args.numbers.now t.answers.items t.booked.items
    (subst (λ (h : Holding). IsPassToldAlone c.args.station.now h made.till c.args.numbers.now t.answers.items t.booked.items)
    c.in-Err.ensures.back told))
    c.told_alone.ensures.told

pub returns-in-Err-clause-alone : goal.returns-in-Err-clause-alone
returns-in-Err-clause-alone g c =
    let made = c.told_alone.result in
    subst (λ ran. IfErr ran (λ _. IfOk made.told
    (λ (t : Told). IsPassToldAlone c.args.station.now c.args.till made.till c.args.numbers.now t.answers.items t.booked.items)))
    (sym c.told_alone.ensures.ran)
    (subst (λ (h : Holding). IfOk made.told
    (λ (t : Told). IsPassToldAlone c.args.station.now h made.till c.args.numbers.now t.answers.items t.booked.items))
    c.in-Err.ensures.back c.told_alone.ensures.told)

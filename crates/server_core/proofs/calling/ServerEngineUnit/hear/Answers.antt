use Rattle.server_core.proofs.Words.{seen}
use Rattle.server_core.proofs.{Calls.call_done, Calls.hear_is, Events.event_ok, Events.hear_does}
use Rattle.server_core.specs.declared.event.Event.TheVariants as events
use Rattle.server_core.proofs.calling.ServerEngineUnit.hear.Goals as goal

pub returns : goal.returns
returns g c =
    let call = c.hear-answer in
    event_ok c.told.result c.args.place (events.Hear c.args.bytes.now c.args.heard c.args.arrived) _ (seen c.args.self.now)
    (seen c.told.new.self)
    (hear_does c.args.place (seen c.args.self.now) (seen c.told.new.self) c.args.bytes.now c.args.heard c.args.arrived)
    (call_done _ c.args.place (seen c.args.self.now) (seen c.did_hear.new.self) (seen c.told.new.self) call.result call.new.self _
    (hear_is c.args.bytes.now c.args.heard c.args.arrived)
    c.in_ok-did_hear.ensures
    (record { answer = call.ensures.answer; told = call.ensures.told; step = call.ensures.step; refused = call.ensures.refused })
    c.in_ok-heard_line.ensures.memory c.in_ok-heard_line.ensures.line c.requires)
    c.told.ensures

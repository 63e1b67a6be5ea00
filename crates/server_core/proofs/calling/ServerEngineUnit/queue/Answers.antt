use Rattle.server_core.proofs.Words.{seen}
use Rattle.server_core.proofs.{Calls.call_done, Calls.queue_is, Events.event_ok, Events.queue_does}
use Rattle.server_core.specs.declared.event.Event.TheVariants as events
use Rattle.server_core.proofs.calling.ServerEngineUnit.queue.Goals as goal

pub returns : goal.returns
returns g c =
    let call = c.queue-answer in
    event_ok c.told.result c.args.place (events.Queue c.args.addr c.args.port c.args.payload.now) _ (seen c.args.self.now)
    (seen c.told.new.self)
    (queue_does c.args.place (seen c.args.self.now) (seen c.told.new.self) c.args.addr c.args.port c.args.payload.now)
    (call_done _ c.args.place (seen c.args.self.now) (seen c.did_queue.new.self) (seen c.told.new.self) call.result
    call.new.self _
    (queue_is c.args.addr (c.args.port, c.args.payload.now))
    c.in_ok-did_queue.ensures
    (record { answer = call.ensures.answer; told = call.ensures.told; step = call.ensures.step; refused = call.ensures.refused })
    c.in_ok-queued_line.ensures.memory c.in_ok-queued_line.ensures.line c.requires)
    c.told.ensures

use Rattle.server_core.proofs.Words.{seen}
use Rattle.server_core.proofs.{Calls.ready_noted, BookCalls.cancel_done, Events.event_ok, Events.cancel_does}
use Rattle.server_core.specs.declared.event.Event.TheVariants as events
use Rattle.server_core.proofs.calling.ServerEngineUnit.cancel.Goals as goal

pub cancelled-answer-requires : goal.cancelled-answer-requires
cancelled-answer-requires g c = ready_noted _ (seen c.args.self.now) (seen c.did.new.self) c.in_ok-did.ensures c.requires

pub returns : goal.returns
returns g c = event_ok c.told.result c.args.place (events.Cancel c.args.number) _ (seen c.args.self.now) (seen c.told.new.self)
    (cancel_does c.args.place (seen c.args.self.now) (seen c.told.new.self) c.args.number)
    (cancel_done _ _ (seen c.args.self.now) (seen c.did.new.self) (seen c.cancelled-answer.new.self)
    (seen c.told.new.self) _ _ c.in_ok-did.ensures c.cancelled-answer.ensures c.cancelled_line.ensures c.requires) c.told.ensures

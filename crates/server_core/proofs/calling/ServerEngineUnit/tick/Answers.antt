use Rattle.server_core.proofs.Words.{ap, arith, Totals, seen}
use Rattle.server_core.proofs.{Calls.on_ok, BookCalls.book_within, BookCalls.not_ticked, BookCalls.ticked_done}
use Rattle.server_core.proofs.Events.{event_ok, tick_does}
use Rattle.server_core.specs.declared.event.Event.TheVariants as events
use Rattle.server_core.proofs.calling.ServerEngineUnit.tick.Goals as goal

pub returns-in_default-clause-done : goal.returns-in_default-clause-done
returns-in_default-clause-done g c = on_ok c.told.result
    (λ told. tick_does c.args.place (seen c.args.self.now) (seen c.told.new.self) c.args.gateway c.args.now
    (not_ticked _ (seen c.args.self.now) (seen c.did.new.self) (seen c.told.new.self) _ _ c.in_ok-did.ensures c.requires
    (rw c.deref.ensures.value at c.in_default.ensures) told))
    c.told.ensures

pub index_mut-book-requires : goal.index_mut-book-requires
index_mut-book-requires g c =
    let within = book_within c.args.gateway c.did.new.self.books.items c.in-Some.at
    (rw c.deref.ensures.value at c.in-Some.ensures) in
    omega (arith, c.did.new.self.books.ok.0)

pub returns : goal.returns
returns g c = event_ok c.told-2.result c.args.place (events.Tick c.args.gateway c.args.now) _ (seen c.args.self.now)
    (seen c.told-2.new.self)
    (tick_does c.args.place (seen c.args.self.now) (seen c.told-2.new.self) c.args.gateway c.args.now)
    (ticked_done _ (seen c.args.self.now) (seen c.did.new.self) (seen c.told-2.new.self) _ _
    c.in_ok-did.ensures c.requires _ _ _ _ (rw c.deref.ensures.value at c.in-Some.ensures) c.index_mut-book.ensures.value
    c.tick.ensures.ticked (ap (λ (t : Totals). t.floor) c.totals-floor.ensures.totals)) c.told-2.ensures

use Rattle.server_core.proofs.Words.{◌≡◌, ap, seen}
use Rattle.server_core.proofs.{Calls.on_ok, Events.pass_does}
use Rattle.server_core.specs.declared.event.Event.TheVariants as events
use Rattle.server_core.proofs.server.Server.event.Goals as goal

pub returns-in-Some-clause-done : goal.returns-in-Some-clause-done
returns-in-Some-clause-done g c =
    let mid = c.do_all_but_pass.new.engine in
    let left : (c.args.event.now ≡ events.Pass c.in-Some.now) × (mid ≡ c.args.self.now) =
    rw c.in-Some.is at c.in_ok-do_all_but_pass.ensures.done in
    on_ok c.pass.result
    (pass_does c.args.place (seen c.args.self.now) (seen c.pass.new.self) c.in-Some.now c.args.event.now (seen mid) left.0
    (ap (λ s. seen s) left.1))
    c.pass.ensures.made

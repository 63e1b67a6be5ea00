use Rattle.std.proofs.Common.{refl, subst}
use Rattle.server_core.specs.Server.{seen}
use Rattle.serve_turns.specs.Life.{Makes, doing}
use Rattle.serve_turns.proofs.Lives.{event_done}
use Rattle.serve_turns.proofs.answerer.Answerer.queue.Goals as goal

pub returns : goal.returns
returns g c =
    let old = c.args.self.now in
    let new = record old { server = c.take_lines.new.self } in
    subst (λ e. Makes (doing e) old new) c.in_ok-asked.ensures
    (event_done c.in_ok-asked.asked c.take_lines.result.items (seen c.event.new.self) old
    (record {
      ready = c.requires;
      between = c.in_ok-event.ensures.ready;
      does = c.in_ok-event.ensures.done;
      taken = c.take_lines.ensures.taken;
    })
    new c.take_lines.ensures.rest (record { set = refl; known = refl; kept = refl; drops = refl; told_at = refl; counts = refl }) refl)

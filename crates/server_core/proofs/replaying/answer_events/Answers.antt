use Rattle.std.proofs.Common.{ap, append_assoc, arith, sym, ◌∙◌}
use Rattle.server_core.proofs.Words.{seen, refl, ◌++◌}
use Rattle.server_core.proofs.Replays.{replaying_first, replaying_on, replayed, none_left, one_more}
use Rattle.server_core.proofs.replaying.answer_events.Goals as goal

pub loop-event-init : goal.loop-event-init
loop-event-init g c = record {
  left = search;
  place = refl;
  run = replaying_first c.args.settings.now _ (seen c.in_ok-server.server) c.in_ok-server.ensures;
}

pub loop-event-preserved : goal.loop-event-preserved
loop-event-preserved g c =
    let before = c.loop-event in
    record {
      left = append_assoc before.yielded _ _ ∙ ap (λ rest. before.yielded ++ rest) (sym c.in-Some.ensures.steps.0)
          ∙ before.invariant.left;
      place = one_more before.yielded c.in-Some.event before.place before.invariant.place;
      run = replaying_on _ _ _ (seen before.server) (seen c.use_up.new.self) c.in_ok-use_up.ensures.ready before.yielded
          (rw before.invariant.place at c.in_ok-use_up.ensures.done) before.invariant.run;
    }

pub returns : goal.returns
returns g c =
    let all = none_left c.loop-event.yielded c.loop-event.event-iterator.rest.items c.args.events.items
    (omega (arith, c.loop-event.event-iterator.rest.ok.0, c.in-None.ensures.steps.0)) c.loop-event.invariant.left in
    let done = replayed _ _ _ _ (seen c.loop-event.server) all c.loop-event.invariant.run in
    record { outcomes = done.outcomes; books = done.books }

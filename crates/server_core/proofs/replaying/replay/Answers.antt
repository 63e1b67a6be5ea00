use Rattle.std.proofs.Common.{ap}
use Rattle.std.proofs.lemmas.List.{take_all}
use Rattle.server_core.proofs.Words.{seen, map, noting, option_map, schedule, step_of, ◌∙◌}
use Rattle.server_core.proofs.Replays.{replaying_first, replaying_next, replayed, steps_kept}
use Rattle.server_core.proofs.replaying.replay.Goals as goal

pub loop-place-init : goal.loop-place-init
loop-place-init g c = replaying_first c.args.settings.now _ (seen c.in_ok-server.server) c.in_ok-server.ensures

pub loop-place-preserved : goal.loop-place-preserved
loop-place-preserved g c =
    replaying_next _ _ _ (seen c.loop-place.server) (seen c.event.new.self) c.in_ok-event.ensures.ready c.args.events.now _
    c.loop-place-test.true c.index-events-place.is c.in_ok-event.ensures.done c.loop-place.invariant

pub returns : goal.returns
returns g c =
    let all = take_all c.loop-place.place c.args.events.now c.loop-place-test.false in
    let done = replayed _ _ _ _ (seen c.loop-place.server) all c.loop-place.invariant in
    record {
      steps = steps_kept (seen c.loop-place.server).steps (map step_of c.new.result.items) (map step_of c.in-Some.steps.items) _
          (done.steps ∙ ap (noting (schedule c.args.settings.now c.args.events.now)) c.in_ok-server.ensures.steps)
          (ap (map step_of) c.new.ensures.items) (ap (option_map (λ made. map step_of made.items)) c.in-Some.is);
      outcomes = done.outcomes;
      books = done.books;
    }

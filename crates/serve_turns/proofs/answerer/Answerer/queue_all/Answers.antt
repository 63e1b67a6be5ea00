use Rattle.std.proofs.Common.{append_assoc, ap, arith, subst, sym, ◌++◌, ◌∙◌}
use Rattle.server_core.proofs.Replays.{none_left}
use Rattle.serve_turns.specs.Life.{Makes}
use Rattle.serve_turns.specs.Queues.{after_queues}
use Rattle.serve_turns.proofs.Lives.{stays}
use Rattle.serve_turns.proofs.Entries.{queues_next}
use Rattle.serve_turns.proofs.answerer.Answerer.queue_all.Goals as goal

pub loop-queued-init : goal.loop-queued-init
loop-queued-init g c = record { left = search; makes = stays c.args.self.now c.requires }

pub queue-requires : goal.queue-requires
queue-requires g c = c.loop-queued.invariant.makes.ready

pub loop-queued-preserved : goal.loop-queued-preserved
loop-queued-preserved g c =
    let before = c.loop-queued in
    record {
      left = append_assoc before.yielded _ _ ∙ ap (λ rest. before.yielded ++ rest) (sym c.in-Some.ensures.steps.0)
          ∙ before.invariant.left;
      makes = queues_next before.yielded c.in-Some.queued _ _ _ before.invariant.makes c.in_ok-queue.ensures;
    }

pub returns : goal.returns
returns g c =
    let all = none_left c.loop-queued.yielded c.loop-queued.queued-iterator.rest.items c.args.waiting.items
    (omega (arith, c.loop-queued.queued-iterator.rest.ok.0, c.in-None.ensures.steps.0)) c.loop-queued.invariant.left in
    subst (λ qs. Makes (after_queues g.row.A.Denot qs) c.args.self.now c.loop-queued.self) all c.loop-queued.invariant.makes

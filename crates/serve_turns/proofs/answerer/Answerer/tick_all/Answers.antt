use Rattle.std.proofs.Common.{◌<◌, ◌∙◌, IfSome, ap, length, slice_get, subst}
use Rattle.serve_turns.specs.Life.{Makes}
use Rattle.serve_turns.specs.Turn.{after_tick}
use Rattle.serve_turns.proofs.Entries.{ticks_at}
use Rattle.serve_turns.proofs.answerer.Answerer.tick_all.Goals as goal

pub loop-place-preserved : goal.loop-place-preserved
loop-place-preserved g c =
    let ks = c.args.self.now.forwarders.sessions.items in
    let before = c.loop-place in
    record {
      same = c.in_ok-tick.ensures.known ∙ before.invariant.same;
      makes = ticks_at c.args.now ks before.place c.args.self.now before.self c.tick.new.self
          (subst (λ l. before.place < length l) c.sessions-place-end.ensures c.loop-place-test.true) before.invariant.makes
          (subst (λ l. IfSome (slice_get l before.place) (λ k. Makes (after_tick g.row.A.Denot c.args.now k) before.self c.tick.new.self))
          (ap (λ f. f.sessions.items) before.invariant.same) c.in_ok-tick.ensures.makes);
    }

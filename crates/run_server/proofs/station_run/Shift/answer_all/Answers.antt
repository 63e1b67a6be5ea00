use Rattle.std.proofs.Common.{ap, append_assoc, arith, refl, sym, ◌≡◌, ◌++◌, ◌∙◌, subst, length}
use Rattle.server_core.proofs.Replays.{one_more}
use Rattle.server_core.specs.Engine.{IsDoneButPass}
use Rattle.run_server.specs.WorkersRun.{run_state, shift_state, IsDone, IsShiftDone}
use Rattle.run_server.proofs.DoneLemmas.{passed_then, done_more}
use Rattle.run_server.proofs.station_run.Shift.answer_all.Goals as goal
use Rattle.run_server.proofs.station_run.Shift.answer_all.Goals.{in-Some-left+in_ok-shift, in_default}

pub loop-event-preserved : goal.loop-event-preserved
loop-event-preserved g c =
    let before = c.loop-event in
    let here = before.shift in
    let used = c.use_up.new.self in
    let after = c.match-left.shift in
    let old = shift_state here.station.value here.workers (run_state here.till here.receipts here.entries.items) in
    let mid = shift_state used.station.value used.workers (run_state used.till used.receipts used.entries.items) in
    let new = shift_state after.station.value after.workers (run_state after.till after.receipts after.entries.items) in
    let begun = run_state c.args.self.till c.args.self.receipts c.args.self.entries.items in
    let step : IsShiftDone before.place c.in-Some.event old new =
    elim c.match-left.branch [
      | in-Some-left+in_ok-shift w ↦
          rw w.shift-is (
          passed_then before.place w.in-Some-left.now c.in-Some.event old mid _
          (subst (IsDoneButPass IsShiftDone before.place c.in-Some.event old mid) w.in-Some-left.is c.in_ok-left.ensures)
          w.in_ok-shift.ensures.station w.in_ok-shift.ensures.workers w.in_ok-shift.ensures.done
          )
      | in_default w ↦
          rw w.shift-is (
          subst (IsDoneButPass IsShiftDone before.place c.in-Some.event old mid) w.in_default.is c.in_ok-left.ensures
          )
    ] in
    let place = before.invariant.place in
    record {
      left = append_assoc before.yielded _ _ ∙ ap (λ rest. before.yielded ++ rest) (sym c.in-Some.ensures.steps.0)
          ∙ before.invariant.left;
      place = omega (arith, place, one_more before.yielded c.in-Some.event (length before.yielded) refl);
      station = step.ids ∙ before.invariant.station;
      workers = step.workers ∙ before.invariant.workers;
      done =
          done_more c.args.self.station.value c.args.first before.yielded c.in-Some.event begun old.run new.run before.invariant.done
          (subst (λ p. IsDone c.args.self.station.value p c.in-Some.event old.run new.run) place
          (subst (λ l. IsDone l before.place c.in-Some.event old.run new.run) before.invariant.station step.done));
    }

use Rattle.server_core.proofs.Openings.{if_ok}
use Rattle.run_server.specs.WorkersRun.{run_state, shift_state, IsShiftDone}
use Rattle.run_server.proofs.DoneLemmas.{seen_done}
use Rattle.run_server.proofs.station_run.Shift.use_up.Goals as goal

pub returns : goal.returns
returns g c =
    if_ok c.do_all_but_pass.result
    (λ left done. seen_done (λ shift. shift_state shift.station.value shift.workers
    (run_state shift.till shift.receipts shift.entries.items)) IsShiftDone c.args.place c.args.event c.args.self.now
    c.do_all_but_pass.new.engine left done) c.do_all_but_pass.ensures.done

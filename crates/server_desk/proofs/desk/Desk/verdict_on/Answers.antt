use Rattle.server_desk.proofs.Words.{refl}
use Rattle.server_desk.proofs.Decided.{read_same}
use Rattle.server_desk.proofs.DeskLemmas.{found_kept}
use Rattle.server_desk.proofs.desk.Desk.verdict_on.Goals as goal

pub returns : goal.returns
returns g c =
    let p = rw (← c.self.view_is) at c.in-Some.ensures in
    let mic = rw c.nwk.ensures at c.if-not-check_mic.ensures.value in
    let found = found_kept c.self.inside.devices.items _ _ _ c.index-device.ensures p in
    let read = read_same c.args.bytes.now c.args.uplink c.requires in
    rw (← c.self.view_is, found, ← c.in-Some-infer.ensures, ← mic, ← c.if-is_crowded.ensures, c.is_last.ensures, ← read) refl

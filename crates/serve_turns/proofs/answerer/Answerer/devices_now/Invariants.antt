use Rattle.std.proofs.Common.{◌≡◌, map, take}
use Rattle.server_core.specs.Server.{seen}
use Rattle.serve_turns.specs.NewDesk.{set_with}
use Rattle.serve_turns.proofs.answerer.Answerer.devices_now.Given as goal

abbrev pub invariant-loop-setting : goal.invariant-loop-setting
invariant-loop-setting g l =
    l.devices.items ≡ map (set_with (seen l.self.server).desk.reg.devices) (take l.setting-index l.settings)

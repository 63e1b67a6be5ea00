use Rattle.std.proofs.Common.{◌≡◌, take}
use Rattle.std.specs.List.{flat_map}
use Rattle.server_core.specs.Server.{seen}
use Rattle.serve_turns.proofs.NewDesks.{waits_with}
use Rattle.serve_turns.proofs.answerer.Answerer.waiting_now.Given as goal

abbrev pub invariant-loop-setting : goal.invariant-loop-setting
invariant-loop-setting g l =
    l.waiting.items
    ≡ flat_map (waits_with (seen l.self.server).desk.reg.devices) (take l.setting-index l.settings)

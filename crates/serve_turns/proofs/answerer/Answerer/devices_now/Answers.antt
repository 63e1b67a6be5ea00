use Rattle.std.proofs.Common.{◌∙◌, ap, arith, map}
use Rattle.std.proofs.lemmas.List.{take_all}
use Rattle.server_core.specs.Server.{seen}
use Rattle.serve_turns.specs.NewDesk.{set_with}
use Rattle.serve_turns.proofs.NewDesks.{devices_of_life}
use Rattle.serve_turns.proofs.answerer.Answerer.devices_now.Goals as goal

pub returns : goal.returns
returns g c l alive =
    let a = c.args.self.now in
    let made = set_with (seen a.server).desk.reg.devices in
    let all = take_all c.loop-setting.setting-index c.devices-settings.result.now (omega (arith, c.loop-setting-test.false)) in
    c.loop-setting.invariant ∙ ap (map made) (all ∙ c.devices-settings.ensures.list)
    ∙ devices_of_life a l alive c.devices-settings.ensures.kept.addrs_differ

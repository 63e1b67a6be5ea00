use Rattle.std.proofs.Common.{◌∙◌, ap, arith}
use Rattle.std.proofs.lemmas.List.{take_all}
use Rattle.std.specs.List.{flat_map}
use Rattle.server_core.specs.Server.{seen}
use Rattle.serve_turns.proofs.NewDesks.{waiting_next, waiting_of_life, waits_with}
use Rattle.serve_turns.proofs.answerer.Answerer.waiting_now.Goals as goal

pub loop-setting-preserved : goal.loop-setting-preserved
loop-setting-preserved g c =
    waiting_next (seen c.args.self.now.server).desk.reg.devices c.loop-setting.waiting.items c.add_waiting.new.waiting.items
    c.devices-settings.result.now c.loop-setting.setting-index _ c.waiting.result.now c.loop-setting-test.true c.loop-setting.invariant c.waiting.ensures
    c.in_ok-add_waiting.ensures

pub returns : goal.returns
returns g c l alive =
    let a = c.args.self.now in
    let made = waits_with (seen a.server).desk.reg.devices in
    let all = take_all c.loop-setting.setting-index c.devices-settings.result.now (omega (arith, c.loop-setting-test.false)) in
    c.loop-setting.invariant ∙ ap (flat_map made) (all ∙ c.devices-settings.ensures.list)
    ∙ waiting_of_life a l alive c.devices-settings.ensures.kept.addrs_differ

use Rattle.std.proofs.Common.{◌≡◌, take}
use Rattle.server_workers.specs.Filing.{filing}
use Rattle.run_server.specs.PassTurns.{HasFiled}
use Rattle.run_server.proofs.station_pass.answer_each.Given as goal

abbrev pub invariant-loop-number : goal.invariant-loop-number
invariant-loop-number g l = record {
  parts : l.till.parts ≡ l.fn.till.parts;
  filed : HasFiled l.fn.station (take l.number-index l.numbers) l.fn.till l.till (filing l.fn.filed) (filing l.filed);
}

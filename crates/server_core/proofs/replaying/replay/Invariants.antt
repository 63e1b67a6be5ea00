use Rattle.std.proofs.Common.{take}
use Rattle.server_core.proofs.Words.{seen}
use Rattle.server_core.proofs.Replays.{IsReplaying}
use Rattle.server_core.proofs.replaying.replay.Given as goal

abbrev pub invariant-loop-place : goal.invariant-loop-place
invariant-loop-place g l = IsReplaying l.settings (seen l.initial.server).steps (take l.place l.events) (seen l.server)

use Rattle.std.proofs.Common.{arith}
use Rattle.aes_cmac.proofs.ScheduleFacts.{added_word-turned, added_word-same}
use Rattle.aes_cmac.proofs.schedule.added_to.Goals as goal

pub returns-then-i-gt0 : goal.returns-then-i-gt0
returns-then-i-gt0 c = added_word-same c.args.word c.args.i (omega arith)

pub returns : goal.returns
returns c = added_word-turned c.args.word _ c.args.i _ (omega arith) c.requires.low c.requires.high
    (omega arith) c.rotate_left-turned.ensures c.substituted.ensures

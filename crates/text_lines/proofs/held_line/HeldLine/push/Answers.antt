use Rattle.std.proofs.Common.{arith}
use Rattle.text_lines.proofs.Held.{push_front, push_full}
use Rattle.text_lines.proofs.held_line.HeldLine.push.Goals as goal

pub returns-then-self-lt-KEPT_LIMIT : goal.returns-then-self-lt-KEPT_LIMIT
returns-then-self-lt-KEPT_LIMIT c =
    rw (← c.self.view_is) (push_front c.self.inside.bytes c.self.inside.len (omega arith) c.args.byte (omega arith) (omega arith))

pub returns-else-self-lt-KEPT_LIMIT : goal.returns-else-self-lt-KEPT_LIMIT
returns-else-self-lt-KEPT_LIMIT c =
    rw (← c.self.view_is) (push_full c.self.inside.bytes c.self.inside.len (omega arith) c.args.byte (omega arith))

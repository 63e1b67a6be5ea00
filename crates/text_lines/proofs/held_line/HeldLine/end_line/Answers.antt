use Rattle.std.proofs.Common.{arith}
use Rattle.text_lines.proofs.Held.{kept_front_long, kept_front_return, kept_front_plain}
use Rattle.text_lines.proofs.held_line.HeldLine.end_line.Goals as goal
use Rattle.text_lines.proofs.held_line.HeldLine.end_line.Goals.{else-self-gt0-via-then-self-gt0+else-self-eq13}
use Rattle.text_lines.proofs.held_line.HeldLine.end_line.Goals.{else-self-gt0-via-else-self-gt0}

pub returns-then-self : goal.returns-then-self
returns-then-self c =
    rw (← c.self.view_is) (kept_front_long c.self.inside.bytes c.self.inside.len (omega arith) (omega arith))

pub returns-then-self-eq13 : goal.returns-then-self-eq13
returns-then-self-eq13 c =
    rw (← c.self.view_is) (kept_front_return c.self.inside.bytes c.self.inside.len (omega arith) (omega arith) (omega arith)
    (omega arith))

pub returns-else-self-gt0 : goal.returns-else-self-gt0
returns-else-self-gt0 c =
    rw (← c.self.view_is) (kept_front_plain c.self.inside.bytes c.self.inside.len (omega arith) (omega arith)
    (elim c.else-self-gt0.branch [
      | else-self-gt0-via-then-self-gt0+else-self-eq13 w ↦
          (λ _. w.if-self-eq13.false)
      | else-self-gt0-via-else-self-gt0 w ↦ (λ some. absurd (omega arith))
    ]))

use Rattle.std.proofs.Common.{arith}
use Rattle.text_lines.proofs.Held.{kept_front}
use Rattle.text_lines.proofs.held_line.HeldLine.end_input.Goals as goal

pub returns : goal.returns
returns c = rw (c.min-self-inside.ensures, ← c.self.view_is) (kept_front c.self.inside.bytes c.self.inside.len (omega arith))

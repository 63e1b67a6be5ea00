use Rattle.text_lines.proofs.Parts.{GivesLine-whole, GivesLine-last}
use Rattle.text_lines.proofs.ahead.ReadAhead.next_line.Goals as goal

pub returns-in-Ok-Whole-clause-line : goal.returns-in-Ok-Whole-clause-line
returns-in-Ok-Whole-clause-line g c =
    GivesLine-whole _ _ _ _ (rw c.in-Ok-Whole.field-0-is at c.in-Ok-Whole.ensures.part) c.end_line.ensures

pub returns-in-Ok-Last-clause-line : goal.returns-in-Ok-Last-clause-line
returns-in-Ok-Last-clause-line g c =
    GivesLine-last _ _ _ _ (rw c.in-Ok-Last.field-0-is at c.in-Ok-Last.ensures.part) c.end_input.ensures

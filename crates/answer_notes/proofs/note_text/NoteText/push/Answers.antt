use Rattle.std.proofs.Common.{arith}
use Rattle.answer_notes.proofs.Fronts.{push_front, push_full}
use Rattle.answer_notes.specs.Note.{printable}
use Rattle.answer_notes.proofs.note_text.NoteText.push.Goals as goal

pub returns-then-self-lt-NOTE_LIMIT : goal.returns-then-self-lt-NOTE_LIMIT
returns-then-self-lt-NOTE_LIMIT c =
    rw (← c.self.view_is, c.printable.ensures) (push_front c.self.inside.bytes c.self.inside.len (omega arith)
    (printable c.args.byte) (omega arith) (omega arith))

pub returns-else-self-lt-NOTE_LIMIT : goal.returns-else-self-lt-NOTE_LIMIT
returns-else-self-lt-NOTE_LIMIT c =
    rw (← c.self.view_is) (push_full c.self.inside.bytes c.self.inside.len (omega arith) (printable c.args.byte) (omega arith))

use Rattle.std.proofs.Common.{◌≡◌, ◌++◌, take}
use Rattle.text_lines.specs.Line.{text_of}
use Rattle.serve_turns.specs.Sending.{unwritten}
use Rattle.serve_turns.proofs.telling.put_unwritten.Given as goal

abbrev pub invariant-loop-ask : goal.invariant-loop-ask
invariant-loop-ask g l =
    l.text.writer.items ≡ l.initial.text.writer.items ++ text_of (unwritten (take l.ask-index l.asks))

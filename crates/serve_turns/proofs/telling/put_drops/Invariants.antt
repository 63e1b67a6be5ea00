use Rattle.std.proofs.Common.{◌≡◌, ◌++◌, map, take}
use Rattle.text_lines.specs.Line.{text_of}
use Rattle.serve_turns.specs.Lines.{drop_line}
use Rattle.serve_turns.proofs.telling.put_drops.Given as goal

abbrev pub invariant-loop-tally : goal.invariant-loop-tally
invariant-loop-tally g l =
    l.text.writer.items ≡ l.initial.text.writer.items ++ text_of (map drop_line (take l.tally-index l.drops))

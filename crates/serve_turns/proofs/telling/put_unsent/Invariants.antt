use Rattle.std.proofs.Common.{◌≡◌, ◌++◌, take, zip}
use Rattle.std.specs.List.{flat_map}
use Rattle.text_lines.specs.Line.{text_of}
use Rattle.serve_turns.specs.Sending.{unsent_line}
use Rattle.serve_turns.proofs.telling.put_unsent.Given as goal

abbrev pub invariant-loop-place : goal.invariant-loop-place
invariant-loop-place g l =
    l.text.writer.items
    ≡ l.initial.text.writer.items ++ text_of (flat_map unsent_line (zip (take l.place l.asks) (take l.place l.went)))

use Rattle.std.proofs.Common.{◌≡◌, ◌++◌, map, take}
use Rattle.text_lines.specs.Line.{text_of}
use Rattle.serve_downlinks.specs.Downlinks.{to_send}
use Rattle.serve_turns.specs.Sending.{kept_back}
use Rattle.serve_turns.proofs.telling.put_kept_back.Given as goal

abbrev pub invariant-loop-downlink : goal.invariant-loop-downlink
invariant-loop-downlink g l =
    l.text.writer.items
    ≡ l.initial.text.writer.items ++ text_of (kept_back l.sessions (map to_send (take l.downlink-index l.downlinks)))

use Rattle.std.proofs.Common.{◌≡◌, ◌≤◌, ◌+◌, ◌++◌, length}
use Rattle.std.specs.Str.Lines.{lines}
use Rattle.run_lines.specs.RunEvents.{events_from}
use Rattle.run_lines.proofs.all_events.events_with.Given as goal

abbrev pub invariant-loop-line : goal.invariant-loop-line
invariant-loop-line l = record {
  few : l.at + length l.left ≤ l.number + length l.text;
  so_far : events_from l.ring.devices.now l.number (lines l.text)
      ≡ l.events.items ++ events_from l.ring.devices.now l.at (lines l.left);
}

abbrev pub decreases-loop-line : goal.decreases-loop-line
decreases-loop-line l = length l.left

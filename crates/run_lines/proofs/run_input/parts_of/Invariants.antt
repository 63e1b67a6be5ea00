use Rattle.std.proofs.Common.{◌≡◌, ◌≤◌, ◌++◌, ◌-◌, length, take, drop}
use Rattle.run_lines.specs.RunInput.{settings_part, event_part}
use Rattle.run_lines.proofs.run_input.parts_of.Given as goal

abbrev pub invariant-loop-line : goal.invariant-loop-line
invariant-loop-line l = record {
  within : l.taken ≤ length l.input;
  settings : settings_part l.input ≡ take l.taken l.input ++ settings_part (drop l.taken l.input);
  events : event_part l.input ≡ event_part (drop l.taken l.input);
}

abbrev pub decreases-loop-line : goal.decreases-loop-line
decreases-loop-line l = length l.input - l.taken

use Rattle.std.proofs.Common.{◌≡◌, max, drop}
use Rattle.serve_opening.specs.Silence.{silent_until}
use Rattle.serve_opening.proofs.silence.silent_until.Given as goal

abbrev pub invariant-loop-member : goal.invariant-loop-member
invariant-loop-member l =
    max l.until (silent_until l.gap (drop l.member-index l.members)) ≡ silent_until l.gap l.members

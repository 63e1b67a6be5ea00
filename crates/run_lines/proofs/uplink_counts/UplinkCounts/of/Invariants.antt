use Rattle.std.proofs.Common.{◌≡◌, take}
use Rattle.run_lines.specs.UplinkCounts.{counts_of}
use Rattle.run_lines.proofs.uplink_counts.UplinkCounts.of.Given as goal

abbrev pub invariant-loop-entry : goal.invariant-loop-entry
invariant-loop-entry g l = l.counts ≡ counts_of (take l.entry-index l.entries)

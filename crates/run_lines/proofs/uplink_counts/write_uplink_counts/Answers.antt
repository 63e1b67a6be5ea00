use Rattle.std.proofs.Common.{decimal}
use Rattle.run_lines.proofs.ReplayLemmas.{counts-parts}
use Rattle.run_lines.proofs.uplink_counts.write_uplink_counts.Goals as goal

pub returns : goal.returns
returns c =
    rw (
      c.text-2.ensures.text,
      c.add_count-3.ensures.text,
      c.add_word-2.ensures.text,
      c.add_count-2.ensures.text,
      c.add_word.ensures.text,
      c.add_count.ensures.text,
      c.text.ensures.text,
      c.clear.ensures,
    )
    (counts-parts (decimal c.args.counts.now.sent) (decimal c.args.counts.now.unanswered) (decimal c.args.counts.now.silent))

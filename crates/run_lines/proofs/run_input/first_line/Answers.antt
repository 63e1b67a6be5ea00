use Rattle.std.proofs.lemmas.List.{take_rest}
use Rattle.run_lines.proofs.InputLemmas.{some-byte, raw-feed, raw-last, lines-feed, lines-alone}
use Rattle.run_lines.proofs.run_input.first_line.Goals as goal

pub returns-in-Some-clause-bare : goal.returns-in-Some-clause-bare
returns-in-Some-clause-bare c =
    rw take_rest (lines-feed _ _ c.in-Some.ensures.within c.in-Some.ensures.before c.in-Some.ensures.feed)

pub returns-in-Some-clause-line : goal.returns-in-Some-clause-line
returns-in-Some-clause-line c =
    rw take_rest (raw-feed _ _ c.in-Some.ensures.within c.in-Some.ensures.before c.in-Some.ensures.feed)

pub returns-in-None-2-clause-bare : goal.returns-in-None-2-clause-bare
returns-in-None-2-clause-bare c = lines-alone c.args.bytes.now (some-byte _ c.if-is_empty.ensures) c.in-None.ensures.none

pub returns-in-None-2-clause-line : goal.returns-in-None-2-clause-line
returns-in-None-2-clause-line c = raw-last c.args.bytes.now (some-byte _ c.if-is_empty.ensures) c.in-None.ensures.none

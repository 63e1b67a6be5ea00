use Rattle.std.proofs.Common.{◌≡◌, true, false, sym, ◌∙◌}
use Rattle.serve_journal.specs.Lines.{is_end}
use Rattle.serve_journal.proofs.Parts.{IsOpen-more, one_batch, no_batch}
use Rattle.serve_journal.proofs.lines.next_batch.Goals as goal

pub returns-then-is_word-clause-batch : goal.returns-then-is_word-clause-batch
returns-then-is_word-clause-batch c =
    let line = c.in-Some.ensures.line in
    let last : is_end c.in-Some.line.now ≡ true = sym c.is_word.ensures.test ∙ c.if-is_word.true in
    one_batch c.args.bytes.now c.loop-line.rest.now c.in-Some.line.now c.in-Some.after.now c.loop-line.invariant line.0 line.1 last

pub loop-line-preserved : goal.loop-line-preserved
loop-line-preserved c =
    let line = c.in-Some.ensures.line in
    let other : is_end c.in-Some.line.now ≡ false = sym c.is_word.ensures.test ∙ c.if-is_word.false in
    IsOpen-more c.args.bytes.now c.loop-line.rest.now c.in-Some.line.now c.in-Some.after.now c.loop-line.invariant line.0 line.1 other

pub returns-clause-batch : goal.returns-clause-batch
returns-clause-batch c = no_batch c.args.bytes.now c.loop-line.rest.now c.loop-line.invariant c.in_default.ensures.lines

use Rattle.std.proofs.Common.{sym, ◌∙◌, arith}
use Rattle.serve_journal.proofs.ReadingLemmas.{few_lines, first_read, batch_read}
use Rattle.serve_journal.proofs.reading.read_journal.Goals as goal

pub overflow_add-number : goal.overflow_add-number
overflow_add-number g c =
    let taken = c.in-Ok.ensures in
    let short = c.in-Some.ensures.shorter in
    omega (arith, taken.1, few_lines c.in-Some.first.now, short)

pub loop-batch-init : goal.loop-batch-init
loop-batch-init g c =
    let taken = c.in-Ok.ensures in
    let found = c.in-Some.ensures in
    first_read c.args.bytes.now c.in-Some.first.now c.in-Some.rest.now c.take_first.new.self c.in-Ok.next found.batch
    found.shorter taken

pub overflow_add-number-in-Ok-take_lines : goal.overflow_add-number-in-Ok-take_lines
overflow_add-number-in-Ok-take_lines g c =
    let taken = c.in-Ok-take_lines.ensures in
    let short = c.in-Some-next_batch.ensures.shorter in
    omega (arith, taken.1, few_lines c.in-Some-next_batch.batch.now, short, c.loop-batch.invariant.room)

pub loop-batch-preserved : goal.loop-batch-preserved
loop-batch-preserved g c =
    let taken = c.in-Ok-take_lines.ensures in
    let found = c.in-Some-next_batch.ensures in
    batch_read c.args.bytes.now c.loop-batch.number c.loop-batch.state c.take_lines.new.self c.loop-batch.rest.now
    c.in-Some-next_batch.batch.now c.in-Some-next_batch.after.now c.in-Ok-take_lines.next c.loop-batch.invariant found.batch
    found.shorter (sym c.is_torn.ensures ∙ c.if-is_torn.false) taken

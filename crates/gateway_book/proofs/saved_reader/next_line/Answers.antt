use Rattle.std.proofs.Common.{◌+◌, length, refl, ap, ◌∙◌, rules, arith}
use Rattle.gateway_book.proofs.SavedReading.{TakesOn-nothing, TakesOn-push, TakesOn-feed, TakesOn-end, TakesOn-long}
use Rattle.gateway_book.proofs.SavedReading.{pushed_length}
use Rattle.gateway_book.proofs.saved_reader.next_line.Goals as goal

pub loop-count-init : goal.loop-count-init
loop-count-init g c = record {
  taken = TakesOn-nothing (g.I.ByteIn.left c.args.reader.now) c.clear.new.self c.clear.ensures;
  count = ap length c.clear.ensures;
  quiet = refl;
}

pub returns-in-Ok-None-clause-fault : goal.returns-in-Ok-None-clause-fault
returns-in-Ok-None-clause-fault g c = (
  refl,
  TakesOn-end _ (g.I.ByteIn.left c.loop-count.reader) (g.I.ByteIn.left c.next_byte.new.reader) c.loop-count.line
      c.loop-count.invariant.taken (rw c.in-Ok-None.field-0-is at c.in-Ok-None.ensures.byte)
      (rw c.in-Ok-None.field-0-is at c.in-Ok-None.ensures.end),
)

pub returns-in-Ok-Some-eq10-clause-line : goal.returns-in-Ok-Some-eq10-clause-line
returns-in-Ok-Some-eq10-clause-line g c =
    TakesOn-feed _ (g.I.ByteIn.left c.loop-count.reader) (g.I.ByteIn.left c.next_byte.new.reader) c.loop-count.line
    c.loop-count.invariant.taken (omega (arith, c.loop-count.invariant.count))
    (rw c.in-Ok-Some-eq10.field-0-0-test at (rw c.in-Ok-Some-eq10.field-0-is at c.in-Ok-Some-eq10.ensures.byte))

pub loop-count-preserved : goal.loop-count-preserved
loop-count-preserved g c = record {
  taken = TakesOn-push _ (g.I.ByteIn.left c.loop-count.reader) (g.I.ByteIn.left c.next_byte.new.reader) c.loop-count.line
      c.in-Ok-Some.byte c.push.new.self c.loop-count.invariant.taken (omega (arith, c.loop-count.invariant.count))
      (rw c.in-Ok-Some.field-0-is at c.in-Ok-Some.ensures.byte) (search rules) c.push.ensures;
  count = pushed_length c.loop-count.line c.in-Ok-Some.byte c.push.new.self (omega (arith, c.loop-count.invariant.count))
      c.push.ensures
      ∙ ap (λ n. n + 1) c.loop-count.invariant.count;
  quiet = search rules;
}

pub returns-clause-fault : goal.returns-clause-fault
returns-clause-fault g c = (
  refl,
  TakesOn-long _ (g.I.ByteIn.left c.loop-count.reader) c.loop-count.line c.loop-count.invariant.taken
      (omega (arith, c.loop-count.invariant.count, c.loop-count-test.false)),
)

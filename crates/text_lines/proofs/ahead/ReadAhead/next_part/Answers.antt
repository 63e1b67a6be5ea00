use Rattle.std.proofs.Common.{rules}
use Rattle.text_lines.proofs.Parts.{ReadsOn-push, ReadsOn-feed, ReadsOn-feed_front, ReadsOn-last}
use Rattle.text_lines.proofs.ahead.ReadAhead.next_part.Goals as goal

pub returns-in-Ok-Some-eq10-clause-part : goal.returns-in-Ok-Some-eq10-clause-part
returns-in-Ok-Some-eq10-clause-part g c =
    ReadsOn-feed _ _ _ _ _ c.next_byte.new.self _ c.loop-fault.invariant.reads_on
    (rw c.in-Ok-Some-eq10.field-0-0-test at (rw c.in-Ok-Some-eq10.field-0-is at c.in-Ok-Some-eq10.ensures.byte))

pub returns-in-Ok-Some-eq10-clause-front : goal.returns-in-Ok-Some-eq10-clause-front
returns-in-Ok-Some-eq10-clause-front g c =
    ReadsOn-feed_front _ _ _ _ _ _ _ c.loop-fault.invariant.reads_on
    (rw c.in-Ok-Some-eq10.field-0-0-test at (rw c.in-Ok-Some-eq10.field-0-is at c.in-Ok-Some-eq10.ensures.byte))
    (rw c.in-Ok-Some-eq10.field-0-is at c.in-Ok-Some-eq10.ensures.counted)

pub returns-in-Ok-None-2-clause-part : goal.returns-in-Ok-None-2-clause-part
returns-in-Ok-None-2-clause-part g c =
    ReadsOn-last _ _ _ _ _ c.next_byte.new.self _ c.loop-fault.invariant.reads_on
    (rw c.in-Ok-None-2.field-0-is at c.in-Ok-None.ensures.byte)
    (rw c.in-Ok-None-2.field-0-is at c.in-Ok-None.ensures.end)
    (search rules)

pub loop-fault-preserved : goal.loop-fault-preserved
loop-fault-preserved g c = record {
  reads_on = ReadsOn-push _ _ _ _ _ _ _ c.in-Ok-Some.byte _ c.loop-fault.invariant.reads_on
      (rw c.in-Ok-Some.field-0-is at c.in-Ok-Some.ensures.byte)
      (rw c.in-Ok-Some.field-0-is at c.in-Ok-Some.ensures.counted)
      (search rules)
      c.push.ensures;
  quiet = search rules;
}

use Rattle.std.proofs.Common.{rules}
use Rattle.text_lines.proofs.TurnLemmas.{AreTurns-so_far, AreTurns-next, AreTurns-failed}
use Rattle.text_lines.proofs.SoFar.{ReadsPart-now, TakesFront-none, ReadsPart-line, ReadsAll-last, IsSoFar-next, KeepsLimit-all}
use Rattle.text_lines.proofs.answering.answer_lines.Goals as goal

pub returns-in-Err-Read-clause-part : goal.returns-in-Err-Read-clause-part
returns-in-Err-Read-clause-part g c =
    let l = c.loop-number in
    ReadsPart-now _ _ _ _ l.input c.next_line.new.self l.number _ _ l.invariant.so_far c.next_line.ensures.front
    (AreTurns-so_far _ _ _ _ _ _ _)

pub returns-in-Err-TooMuch-clause-part : goal.returns-in-Err-TooMuch-clause-part
returns-in-Err-TooMuch-clause-part g c =
    let l = c.loop-number in
    ReadsPart-now _ _ _ _ l.input c.next_line.new.self l.number _ _ l.invariant.so_far c.next_line.ensures.front
    (AreTurns-so_far _ _ _ _ _ _ _)

pub returns-clause-part : goal.returns-clause-part
returns-clause-part g c =
    let l = c.loop-number in
    ReadsPart-now _ _ _ _ l.input l.input l.number _ _ l.invariant.so_far (TakesFront-none l.input _)
    (AreTurns-so_far _ _ _ _ _ _ _)

pub returns-in-Err-clause-part : goal.returns-in-Err-clause-part
returns-in-Err-clause-part g c =
    let l = c.loop-number in
    ReadsPart-line _ _ _ _ l.input c.next_line.new.self l.number _ _ c.in-Ok.found c.next_line.new.line l.invariant.so_far
    c.in-Ok.ensures.line c.in-Ok.ensures.within c.in_default.not-End
    (AreTurns-failed g.T.LineAnswerer.turns g.met.T.LineAnswerer.by_kept _ _ _ _ _ _ l.number c.next_line.new.line _ _ l.refused _
    (rw c.as_slice-bytes.ensures.bytes at c.in-Err.ensures.line))

pub returns-in-Last-clause-ok : goal.returns-in-Last-clause-ok
returns-in-Last-clause-ok g c =
    let l = c.loop-number in
    ReadsAll-last _ _ _ _ l.input c.next_line.new.self l.number _ _ c.next_line.new.line l.invariant.so_far
    c.next_line.ensures.front (rw c.in-Last.is at c.in-Ok.ensures.line) (rw c.in-Last.is at c.in-Ok.ensures.within)
    (AreTurns-next g.T.LineAnswerer.turns g.met.T.LineAnswerer.by_kept _ _ _ _ _ _ l.number c.next_line.new.line _ _ l.refused _
    (rw c.as_slice-bytes.ensures.bytes at c.in-Ok-answer_line.ensures.line))

pub returns-in-Last-clause-limit : goal.returns-in-Last-clause-limit
returns-in-Last-clause-limit g c = KeepsLimit-all _ _ _ _ _ (returns-in-Last-clause-ok g c)

pub loop-number-preserved : goal.loop-number-preserved
loop-number-preserved g c =
    let l = c.loop-number in
    let front = c.next_line.ensures.front in
    record {
      so_far = IsSoFar-next _ _ _ _ l.input.taken l.number _ _ c.in-Ok.found c.next_line.new.line front.front
          c.next_line.new.self.taken l.invariant.so_far c.in-Ok.ensures.line front.consumed front.counted
          c.in_default.not-End c.in_default-found.not-Last
          (AreTurns-next g.T.LineAnswerer.turns g.met.T.LineAnswerer.by_kept _ _ _ _ _ _ l.number c.next_line.new.line _ _
          l.refused _ (rw c.as_slice-bytes.ensures.bytes at c.in-Ok-answer_line.ensures.line));
      reads = search rules;
      writes = search rules;
    }

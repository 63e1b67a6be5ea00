use Rattle.std.proofs.Common.{◌≡◌}
use Rattle.text_lines.specs.Ahead.{unread}
use Rattle.text_lines.specs.Progress.{AreTurns}
use Rattle.text_lines.proofs.SoFar.{IsSoFar}
use Rattle.text_lines.proofs.answering.answer_lines.Given as goal

abbrev pub invariant-loop-number : goal.invariant-loop-number
invariant-loop-number g l = record {
  so_far : IsSoFar l.fn.input.taken (unread l.fn.input (g.R.ByteIn.left l.fn.reader)) (unread l.input (g.R.ByteIn.left l.reader))
      l.input.taken l.number
      (AreTurns g.T.LineAnswerer.turns (g.T.LineAnswerer.Stands l.fn.answerer) (g.T.LineAnswerer.Stands l.answerer) l.refused
      (g.W.ByteOut.taken l.fn.writer) (g.W.ByteOut.taken l.writer) l.output);
  reads : g.R.ByteIn.failed_calls l.reader ≡ g.R.ByteIn.failed_calls l.fn.reader;
  writes : g.W.ByteOut.failed_calls l.writer ≡ g.W.ByteOut.failed_calls l.fn.writer;
}

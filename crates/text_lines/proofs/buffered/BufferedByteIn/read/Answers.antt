use Rattle.std.proofs.Common.{◌∙◌}
use Rattle.text_lines.proofs.RestLemmas.{IsRest-read}
use Rattle.text_lines.proofs.buffered.BufferedByteIn.read.Goals as goal

pub invariant_of-self : goal.invariant_of-self
invariant_of-self g c =
    record {
      same = c.give.ensures.place ∙ c.args.self.now.same;
      rest = λ bytes known. IsRest-read bytes _ _ _ _ _ c.give.result (c.args.self.now.rest bytes known) c.give.ensures.bound
          c.give.ensures.bytes c.give.ensures.counted c.give.ensures.none;
    }

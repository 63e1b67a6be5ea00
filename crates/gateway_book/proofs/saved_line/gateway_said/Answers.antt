use Rattle.std.proofs.Common.{ap, ◌∙◌}
use Rattle.gateway_book.specs.Loading.{gateway_in, words_between}
use Rattle.gateway_book.proofs.SavedWords.{gateway_in-take}
use Rattle.gateway_book.proofs.saved_line.gateway_said.Goals as goal

pub returns : goal.returns
returns c =
    c.gateway_in.ensures ∙ ap (gateway_in c.args.version) (c.as_slice.ensures ∙ c.of.ensures)
    ∙ gateway_in-take c.args.version (words_between c.args.line.now)

use Rattle.std.proofs.Common.{ap, ◌∙◌}
use Rattle.gateway_book.specs.Loading.{version_in, words_between}
use Rattle.gateway_book.proofs.SavedWords.{version_in-take}
use Rattle.gateway_book.proofs.saved_line.version_said.Goals as goal

pub returns : goal.returns
returns c =
    c.version_in.ensures ∙ ap (version_in) (c.as_slice.ensures ∙ c.of.ensures) ∙ version_in-take (words_between c.args.line.now)

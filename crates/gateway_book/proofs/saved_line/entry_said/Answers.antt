use Rattle.std.proofs.Common.{ap, ◌∙◌}
use Rattle.gateway_book.specs.Loading.{entry_in, words_between}
use Rattle.gateway_book.proofs.SavedWords.{entry_in-take}
use Rattle.gateway_book.proofs.saved_line.entry_said.Goals as goal

pub returns : goal.returns
returns c =
    c.entry_in.ensures ∙ ap (entry_in) (c.as_slice.ensures ∙ c.of.ensures) ∙ entry_in-take (words_between c.args.line.now)

use Rattle.std.proofs.Common.{ap, ◌∙◌}
use Rattle.gateway_book.specs.Loading.{words_between}
use Rattle.serve_journal.specs.EntryWords.{entry_in}
use Rattle.serve_journal.proofs.Shapes.{entry_in-take}
use Rattle.serve_journal.proofs.entry_words.read_entry.Goals as goal

pub returns : goal.returns
returns c =
    c.entry_in.ensures ∙ ap entry_in (c.as_slice.ensures ∙ c.of.ensures) ∙ entry_in-take (words_between c.args.line.now)

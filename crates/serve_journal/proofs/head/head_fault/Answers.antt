use Rattle.std.proofs.Common.{ap, ◌∙◌}
use Rattle.gateway_book.specs.Loading.{words_between}
use Rattle.serve_journal.specs.Reading.{version_in, version_fault}
use Rattle.serve_journal.proofs.HeadShapes.{version_in-take}
use Rattle.serve_journal.proofs.head.head_fault.Goals as goal

pub returns : goal.returns
returns c =
    c.version_fault.ensures
    ∙ ap version_fault
    (c.version_in.ensures ∙ ap version_in (c.as_slice.ensures ∙ c.of.ensures) ∙ version_in-take (words_between c.args.line.now))

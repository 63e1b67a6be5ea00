use Rattle.std.proofs.Common.{sym, ap, ◌∙◌}
use Rattle.gateway_book.specs.Loading.{entry_in, words_between}
use Rattle.gateway_book.proofs.SavedSteps.{entry_leads, entry_fault}
use Rattle.gateway_book.proofs.saved_steps.read_entry.Goals as goal

pub returns-in-None-clause-fault : goal.returns-in-None-clause-fault
returns-in-None-clause-fault g c = λ s.
    entry_fault _ (g.I.ByteIn.left c.next_line.new.reader) c.next_line.new.line c.in-Ok.ensures.line c.args.number s
    (ap (λ l. entry_in (words_between l)) (sym c.as_slice.ensures.bytes) ∙ sym c.entry_said.ensures ∙ c.in-None.is)

pub returns-in-Some-clause-says : goal.returns-in-Some-clause-says
returns-in-Some-clause-says g c = λ s.
    entry_leads _ (g.I.ByteIn.left c.next_line.new.reader) c.next_line.new.line c.in-Ok.ensures.line c.args.number s
    c.in-Some.entry
    (ap (λ l. entry_in (words_between l)) (sym c.as_slice.ensures.bytes) ∙ sym c.entry_said.ensures ∙ c.in-Some.is)

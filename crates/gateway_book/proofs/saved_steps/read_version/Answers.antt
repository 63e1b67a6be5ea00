use Rattle.std.proofs.Common.{◌≡◌, eqb, ◌||◌, false, cond, refl, Some, None, Err, sym, ap, ◌∙◌}
use Rattle.gateway_book.specs.declared.loading.LoadFault.TheVariants.{Syntax, Version}
use Rattle.gateway_book.specs.Loading.{version_in, words_between, gateway_lines}
use Rattle.gateway_book.proofs.SavedSteps.{version_leads, version_fault}
use Rattle.gateway_book.proofs.saved_steps.read_version.Goals as goal

pub returns-in-None-clause-fault : goal.returns-in-None-clause-fault
returns-in-None-clause-fault g c =
    version_fault _ (g.I.ByteIn.left c.next_line.new.reader) c.next_line.new.line c.in-Ok.ensures.line None (Syntax 1)
    (ap (λ l. version_in (words_between l)) (sym c.as_slice.ensures.bytes) ∙ sym c.version_said.ensures ∙ c.in-None.is)
    (λ more. refl)

pub returns-in-Some-clause-says : goal.returns-in-Some-clause-says
returns-in-Some-clause-says g c =
    version_leads _ (g.I.ByteIn.left c.next_line.new.reader) c.next_line.new.line c.in-Ok.ensures.line c.in-Some.version
    (ap (λ l. version_in (words_between l)) (sym c.as_slice.ensures.bytes) ∙ sym c.version_said.ensures ∙ c.in-Some.is)
    (sym c.is_known.ensures ∙ c.if-is_known.true)

pub returns-in-Some-2-clause-fault : goal.returns-in-Some-2-clause-fault
returns-in-Some-2-clause-fault g c =
    let version = c.in-Some.version in
    let unknown : (eqb version 1 || eqb version 2) ≡ false = sym c.is_known.ensures ∙ c.if-is_known.false in
    version_fault _ (g.I.ByteIn.left c.next_line.new.reader) c.next_line.new.line c.in-Ok.ensures.line (Some version) Version
    (ap (λ l. version_in (words_between l)) (sym c.as_slice.ensures.bytes) ∙ sym c.version_said.ensures ∙ c.in-Some.is)
    (λ more. ap (λ t. cond t (gateway_lines version more) (Err Version)) unknown)

use Rattle.std.proofs.Common.{cond, refl, Option, Some, None, Err, sym, ap, ◌∙◌}
use Rattle.std.specs.Prelude.{is_some}
use Rattle.gateway_book.specs.declared.loading.LoadFault.TheVariants.{Syntax, Unlawful}
use Rattle.gateway_book.specs.declared.opening.OpenFault.{OpenFault}
use Rattle.gateway_book.specs.Loading.{gateway_in, words_between, members_in, saved_empty}
use Rattle.gateway_book.proofs.SavedSteps.{gateway_opens, gateway_fault}
use Rattle.gateway_book.proofs.saved_steps.read_gateway.Goals as goal

pub returns-in_default-clause-fault : goal.returns-in_default-clause-fault
returns-in_default-clause-fault g c =
    gateway_fault _ (g.I.ByteIn.left c.next_line.new.reader) c.next_line.new.line c.in-Ok.ensures.line c.args.version None
    (Syntax 2)
    (ap (λ l. gateway_in c.args.version (words_between l)) (sym c.as_slice.ensures.bytes) ∙ sym c.gateway_said.ensures
    ∙ c.in_default.is) (λ more. refl)

pub returns-in-Some-open_fault-clause-fault : goal.returns-in-Some-open_fault-clause-fault
returns-in-Some-open_fault-clause-fault g c =
    let gateway = c.in-Some.gateway in
    gateway_fault _ (g.I.ByteIn.left c.next_line.new.reader) c.next_line.new.line c.in-Ok.ensures.line c.args.version
    (Some gateway) (Unlawful 2)
    (ap (λ l. gateway_in c.args.version (words_between l)) (sym c.as_slice.ensures.bytes) ∙ sym c.gateway_said.ensures
    ∙ c.in-Some.is)
    (λ more. ap (λ (o : Option OpenFault). cond (is_some o) (Err (Unlawful 2)) (members_in 3 (saved_empty gateway) more))
    (sym c.open_fault.ensures ∙ c.in-Some-open_fault.is))

pub returns-in-None-clause-says : goal.returns-in-None-clause-says
returns-in-None-clause-says g c =
    gateway_opens _ (g.I.ByteIn.left c.next_line.new.reader) c.next_line.new.line c.in-Ok.ensures.line c.args.version
    c.in-Some.gateway
    (ap (λ l. gateway_in c.args.version (words_between l)) (sym c.as_slice.ensures.bytes) ∙ sym c.gateway_said.ensures
    ∙ c.in-Some.is) (sym c.open_fault.ensures ∙ c.in-None.is)

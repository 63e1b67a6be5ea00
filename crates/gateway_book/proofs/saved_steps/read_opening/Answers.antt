use Rattle.std.proofs.Common.{ℕ, sym, subst}
use Rattle.gateway_book.specs.Loading.{loaded, saved_empty}
use Rattle.gateway_book.specs.SavedLines.{Leads, gateway_from, members_from}
use Rattle.gateway_book.proofs.SavedSteps.{Leads-trans}
use Rattle.gateway_book.proofs.saved_steps.read_opening.Goals as goal

pub returns-clause-says : goal.returns-clause-says
returns-clause-says g c =
    let before = g.I.ByteIn.left c.args.reader.now in
    let mid = g.I.ByteIn.left c.read_version.new.reader in
    let after = g.I.ByteIn.left c.read_gateway.new.reader in
    let version = c.in_ok-version.version in
    let empty = saved_empty c.in_ok-gateway.gateway in
    let P : ℕ → Type 0 = λ n. Leads before mid n loaded (gateway_from version) in
    let Q : ℕ → Type 0 = λ n. Leads mid after n (gateway_from version) (members_from 3 empty) in
    Leads-trans before mid after c.bytes_of-first.result c.bytes_of.result loaded (gateway_from version) (members_from 3 empty)
    (subst P (sym c.bytes_of-first.ensures) c.in_ok-version.ensures.says)
    (subst Q (sym c.bytes_of.ensures) c.in_ok-gateway.ensures.says)

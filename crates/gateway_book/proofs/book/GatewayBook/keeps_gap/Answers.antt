use Rattle.std.proofs.Common.{◌↔◌, IsTrue, subst}
use Rattle.resv_list.specs.Reservations.{IsByStart, start_of}
use Rattle.gateway_book.specs.Book.{Book}
use Rattle.gateway_book.specs.Disjoint.{rested_from}
use Rattle.gateway_book.specs.Spaced.{SpacedFrom}
use Rattle.gateway_book.proofs.OverlapLaws.{spaced_is_apart}
use Rattle.gateway_book.proofs.book.GatewayBook.keeps_gap.Goals as goal

-- src/rules.rt:36:5
pub returns-else-gap-self : goal.returns-else-gap-self
returns-else-gap-self g c =
    let now = c.args.self.now in
    let P : Book → Type 0 = λ b. IsByStart b.list in
    let Q : Book → Type 0 = λ b. IsTrue c.are_spaced.result ↔ SpacedFrom start_of (rested_from c.args.gap) 0 b.list in
    let rising : IsByStart now.list = subst P c.self.view_is (g.met.R.Roster.by_start c.self.inside.roster) in
    let law = spaced_is_apart c.args.gap now.list rising in
    let told = subst Q c.self.view_is c.are_spaced.ensures in
    (λ t. law.0 (told.0 t), λ a. told.1 (law.1 a))

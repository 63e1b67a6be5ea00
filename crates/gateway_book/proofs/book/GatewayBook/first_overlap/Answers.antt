use Rattle.std.proofs.Common.{◌≡◌, nat_lt, Some, None, sym, ap, ◌∙◌, subst, ◌+◌}
use Rattle.std.specs.Option.{option_map}
use Rattle.resv_list.specs.Reservations.{end_of, start_of, member_before, member_from}
use Rattle.gateway_book.specs.Spaced.{keep_if}
use Rattle.gateway_book.proofs.OverlapLaws.{or_else}
use Rattle.gateway_book.specs.Answer.{overlap}
use Rattle.gateway_book.specs.Book.{Book}
use Rattle.gateway_book.proofs.OverlapLaws.{overlap-neighbours}
use Rattle.gateway_book.proofs.ApartLaws.{ends_later}
use Rattle.gateway_book.proofs.book.GatewayBook.first_overlap.Goals as goal
use Rattle.gateway_book.specs.Disjoint.{rested_from}

pub returns-in-Some : goal.returns-in-Some
returns-in-Some g c =
    let r = c.args.reservation.now in
    let gap = c.self.inside.gap in
    let l = g.R.Roster.list c.self.inside.roster in
    let found : keep_if (λ b. nat_lt r.start (rested_from gap b)) (member_before r.start l) ≡ Some c.in-Some.before =
    ap (keep_if (λ b. nat_lt r.start (rested_from gap b))) (sym c.before-2.ensures) ∙ sym c.resting_after.ensures
    ∙ c.in-Some.is in
    let e = overlap-neighbours gap l r.start (end_of r)
    (g.met.R.Roster.by_start c.self.inside.roster) c.self.invariant.lawful.apart
    (ends_later r) in
    let P : Book → Type 0 = λ b. Some c.in-Some.before.start ≡ overlap b.rules.gap b.list r.start (end_of r) in
    subst P c.self.view_is (sym (e ∙ ap (λ o. option_map start_of
    (or_else o (keep_if (λ n. nat_lt n.start (end_of r + gap)) (member_from r.start l)))) found))

pub returns-in-None : goal.returns-in-None
returns-in-None g c =
    let r = c.args.reservation.now in
    let gap = c.self.inside.gap in
    let l = g.R.Roster.list c.self.inside.roster in
    let found : keep_if (λ b. nat_lt r.start (rested_from gap b)) (member_before r.start l) ≡ None =
    ap (keep_if (λ b. nat_lt r.start (rested_from gap b))) (sym c.before-2.ensures) ∙ sym c.resting_after.ensures
    ∙ c.in-None.is in
    let e = overlap-neighbours gap l r.start (end_of r)
    (g.met.R.Roster.by_start c.self.inside.roster) c.self.invariant.lawful.apart
    (ends_later r) in
    let P : Book → Type 0 = λ b. c.starting_before.result ≡ overlap b.rules.gap b.list r.start (end_of r) in
    let later : option_map start_of (keep_if (λ n. nat_lt n.start (end_of r + gap)) (member_from r.start l))
    ≡ c.starting_before.result =
    sym (rw (c.first_from.ensures, c.rested_from.ensures) at c.starting_before.ensures) in
    subst P c.self.view_is (sym (e ∙ ap (λ o. option_map start_of
    (or_else o (keep_if (λ n. nat_lt n.start (end_of r + gap)) (member_from r.start l)))) found ∙ later))

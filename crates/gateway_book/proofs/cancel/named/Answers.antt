use Rattle.std.proofs.Common.{◌≡◌, sym, ◌∙◌, subst, Option, rules}
use Rattle.std.specs.Prelude.{OnSome}
use Rattle.resv_list.specs.declared.reservation.Reservation.{Reservation}
use Rattle.resv_list.specs.Reservations.{without}
use Rattle.gateway_book.specs.Spaced.{keep_if}
use Rattle.gateway_book.specs.Step.{is_named, without_named}
use Rattle.gateway_book.proofs.CancelLaws.{named_kept}
use Rattle.gateway_book.proofs.cancel.named.Goals as goal

pub returns-clause-member : goal.returns-clause-member
returns-clause-member g c =
    let l = g.R.Roster.list c.args.roster.now in
    let kept : c.filter.result ≡ keep_if (is_named c.args.number c.args.start) c.first_from.result = search rules in
    kept ∙ (named_kept c.args.number c.args.start l c.first_from.result (g.met.R.Roster.by_start c.args.roster.now)
    (sym c.first_from.ensures)).0

pub returns-clause-alone : goal.returns-clause-alone
returns-clause-alone g c =
    let l = g.R.Roster.list c.args.roster.now in
    let kept : c.filter.result ≡ keep_if (is_named c.args.number c.args.start) c.first_from.result = search rules in
    let P : Option Reservation → Type 0 = λ o. OnSome o (without c.args.start l ≡ without_named l c.args.number c.args.start) in
    subst P (sym kept) (named_kept c.args.number c.args.start l c.first_from.result (g.met.R.Roster.by_start c.args.roster.now)
    (sym c.first_from.ensures)).1

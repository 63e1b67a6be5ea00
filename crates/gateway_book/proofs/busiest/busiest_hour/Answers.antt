use Rattle.std.proofs.Common.{ℕ, ◌-◌, Some, None, sym, ap, ◌∙◌, arith}
use Rattle.resv_list.specs.Fit.{last_end}
use Rattle.resv_list.specs.Hours.{first_over}
use Rattle.gateway_book.proofs.OwnHours.{busiest_of-none, busiest_of-asked}
use Rattle.gateway_book.proofs.busiest.busiest_hour.Goals as goal

pub returns-then-most-eq0 : goal.returns-then-most-eq0
returns-then-most-eq0 g c =
    busiest_of-none (g.R.Roster.list c.args.roster.now) c.args.band (g.met.R.Roster.by_start c.args.roster.now)
    (sym c.most-most.ensures ∙ c.if-most-eq0.true)

pub returns-in_err-member : goal.returns-in_err-member
returns-in_err-member g c =
    let l = g.R.Roster.list c.args.roster.now in
    c.from_residual.ensures
    ∙ busiest_of-asked l c.args.band None (g.met.R.Roster.by_start c.args.roster.now)
    (omega (arith, c.most-most.ensures, c.if-most-eq0.false))
    (sym c.in_err-member.was ∙ c.first_over.ensures
    ∙ ap (λ (n : ℕ). first_over c.args.band 0 last_end (n - 1) l) c.most-most.ensures)

pub returns : goal.returns
returns g c =
    let l = g.R.Roster.list c.args.roster.now in
    ap (λ (n : ℕ). Some (c.in_ok-member.member.start, n)) c.most-most.ensures
    ∙ busiest_of-asked l c.args.band (Some c.in_ok-member.member) (g.met.R.Roster.by_start c.args.roster.now)
    (omega (arith, c.most-most.ensures, c.if-most-eq0.false))
    (sym c.in_ok-member.was ∙ c.first_over.ensures
    ∙ ap (λ (n : ℕ). first_over c.args.band 0 last_end (n - 1) l) c.most-most.ensures)

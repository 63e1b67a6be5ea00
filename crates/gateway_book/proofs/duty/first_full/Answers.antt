use Rattle.std.proofs.Common.{Some, sym, ap, ◌∙◌}
use Rattle.std.specs.Option.{option_map}
use Rattle.gateway_book.specs.Duty.{hour_from}
use Rattle.gateway_book.proofs.OwnHours.{full_hour-asked}
use Rattle.gateway_book.proofs.duty.first_full.Goals as goal

pub returns-in_err-member : goal.returns-in_err-member
returns-in_err-member g c =
    let l = g.R.Roster.list c.args.roster.now in
    let asked = full_hour-asked l c.args.band c.args.start c.args.airtime c.reach-first.result c.limit_us.result
    c.saturating_sub-room.result c.first_over.result c.reach-first.ensures c.limit_us.ensures
    c.saturating_sub-room.ensures c.first_over.ensures in
    c.from_residual.ensures ∙ ap (option_map (λ r. hour_from l c.args.band r.start)) (sym c.in_err-member.was ∙ asked)

pub returns : goal.returns
returns g c =
    let l = g.R.Roster.list c.args.roster.now in
    let asked = full_hour-asked l c.args.band c.args.start c.args.airtime c.reach-first.result c.limit_us.result
    c.saturating_sub-room.result c.first_over.result c.reach-first.ensures c.limit_us.ensures
    c.saturating_sub-room.ensures c.first_over.ensures in
    ap Some c.hour_from.ensures ∙ ap (option_map (λ r. hour_from l c.args.band r.start)) (sym c.in_ok-member.was ∙ asked)

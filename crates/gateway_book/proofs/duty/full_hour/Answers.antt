use Rattle.std.proofs.Common.{sym, ap, refl, arith, ◌∙◌}
use Rattle.std.proofs.lemmas.Bool.{leb-true}
use Rattle.std.specs.Option.{option_map}
use Rattle.gateway_book.specs.Duty.{hour_from}
use Rattle.gateway_book.proofs.DutySearch.{full_hour-spare, full_hour-mapped}
use Rattle.gateway_book.proofs.duty.full_hour.Goals as goal

pub returns-then-is_within : goal.returns-then-is_within
returns-then-is_within g c =
    let l = g.R.Roster.list c.args.roster.now in
    let within = leb-true _ _ (sym c.is_within.ensures ∙ c.if-is_within.true) in
    sym (ap (option_map (hour_from l c.args.band)) (full_hour-spare l c.args.band c.args.start c.args.airtime
    (rw (← c.reach-first.ensures) (omega (arith, within, c.if-airtime-limit.true, c.limit_us-limit.ensures)))))

pub returns-in-Some : goal.returns-in-Some
returns-in-Some g c =
    let l = g.R.Roster.list c.args.roster.now in
    rw (
      full_hour-mapped (hour_from l c.args.band) l c.args.band c.args.start c.args.airtime
          (g.met.R.Roster.by_start c.args.roster.now),
      ← c.first_full.ensures,
      c.in-Some.is,
    ) refl

pub returns-in-None : goal.returns-in-None
returns-in-None g c =
    let l = g.R.Roster.list c.args.roster.now in
    rw (
      full_hour-mapped (hour_from l c.args.band) l c.args.band c.args.start c.args.airtime
          (g.met.R.Roster.by_start c.args.roster.now),
      ← c.first_full.ensures,
      c.in-None.is,
    ) c.overfull.ensures

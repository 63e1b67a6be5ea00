use Rattle.std.proofs.Common.{◌≡◌, ◌+◌, ap, arith}
use Rattle.radio_bands.specs.Band.{hour}
use Rattle.resv_list.specs.Reservations.{spent}
use Rattle.gateway_book.specs.declared.duty.FullHour.{FullHour}
use Rattle.gateway_book.proofs.DutyRow.{begun_net}
use Rattle.gateway_book.proofs.duty.overfull.Goals as goal

pub overflow_add-hour : goal.overflow_add-hour
overflow_add-hour g c =
    let l = g.R.Roster.list c.args.roster.now in
    let sum : c.hour_from-hour.result.spent ≡ spent l c.args.band c.args.from =
    ap (λ (h : FullHour). h.spent) c.hour_from-hour.ensures in
    omega (
      arith,
      sum,
      begun_net c.args.band c.args.from (c.args.from + hour) l,
      c.requires.bounded,
      c.requires.short,
    )

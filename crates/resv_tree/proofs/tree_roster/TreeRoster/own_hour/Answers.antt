use Rattle.std.proofs.Common.{◌+◌, arith}
use Rattle.resv_list.specs.Reservations.{place}
use Rattle.resv_tree.specs.Shape.{shape_of, members_of}
use Rattle.resv_tree.proofs.OwnHourLemmas.{begun_short, own_placed}
use Rattle.resv_tree.proofs.QuarterLemmas.{own_hour_whole}
use Rattle.resv_tree.proofs.tree_roster.TreeRoster.own_hour.Goals as goal

pub overflow_add-own : goal.overflow_add-own
overflow_add-own g c =
    omega (
      arith,
      c.airtime.ensures.short,
      c.spent.ensures,
      begun_short (shape_of c.args.self.now.root) c.band-band.result c.args.member.now.start
          (c.args.member.now.start + 3600000000) c.args.self.now.whole,
      c.args.self.now.bounded,
    )

pub overflow_cast-result : goal.overflow_cast-result
overflow_cast-result g c =
    omega (
      arith,
      c.airtime.ensures.short,
      c.spent.ensures,
      begun_short (shape_of c.args.self.now.root) c.band-band.result c.args.member.now.start
          (c.args.member.now.start + 3600000000) c.args.self.now.whole,
      c.args.self.now.bounded,
    )

pub returns : goal.returns
returns g c =
    let l = members_of (shape_of c.args.self.now.root) in
    let r = c.args.member.now in
    let own = own_placed l r c.band-band.result c.airtime.result c.band-band.ensures c.airtime.ensures.value in
    omega (arith, c.spent.ensures, own, own_hour_whole (place r l) r)

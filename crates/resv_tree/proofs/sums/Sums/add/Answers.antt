use Rattle.std.proofs.Common.{arith, ◌+◌, ◌/◌}
use Rattle.resv_tree.proofs.QuarterLemmas.{airtime_of-below}
use Rattle.resv_tree.proofs.StillLemmas.{airtime_put}
use Rattle.resv_tree.proofs.SumLemmas.{airtime_in-short}
use Rattle.resv_tree.proofs.sums.Sums.add.Goals as goal

pub overflow_add-quarters : goal.overflow_add-quarters
overflow_add-quarters c =
    let r = c.args.member.now in
    omega (
      arith,
      c.quarters.ensures,
      c.requires.fits c.band-band.result,
      c.airtime.ensures.value,
      airtime_of-below r.rate r.len r.fit.sized,
    )

pub returns-clause-value : goal.returns-clause-value
returns-clause-value c =
    let r = c.args.member.now in
    airtime_put c.args.self.now c.put.new.self r c.band-band.result _ c.band-band.ensures
    (λ i. c.quarters.ensures i + c.airtime.ensures.value i / 128) c.put.ensures

pub returns-clause-short : goal.returns-clause-short
returns-clause-short c = λ band. airtime_in-short band c.args.member.now

use Rattle.std.specs.Prelude.{cond}
use Rattle.std.proofs.Common.{sym, ◌∙◌}
use Rattle.resv_tree.proofs.QuarterLemmas.{no_quarters}
use Rattle.resv_tree.proofs.StillLemmas.{in_own_alone}
use Rattle.resv_tree.proofs.sums.Sums.own.Goals as goal

pub returns : goal.returns
returns c = λ other.
    let e = c.args.entry.now in
    let same = in_own_alone e.reservation c.band.result other c.band.ensures in
    c.put.ensures other ∙ (λ i. cond (sym same i) e.own (no_quarters other i))

use Rattle.std.proofs.Common.{arith, ◌∙◌}
use Rattle.resv_tree.specs.Sums.{quarters_in}
use Rattle.resv_tree.specs.Shape.{shape_of, entries}
use Rattle.resv_tree.proofs.HourLemmas.{raised_by}
use Rattle.resv_tree.proofs.QuarterLemmas.{no_quarters}
use Rattle.resv_tree.proofs.StillLemmas.{none_beside}
use Rattle.resv_tree.proofs.SumLemmas.{airtime_in-short}
use Rattle.resv_tree.proofs.tree_roster.raise.Goals as goal

pub shift-requires-clause-fits : goal.shift-requires-clause-fits
shift-requires-clause-fits g c = λ band.
    omega (arith, c.requires.fits band, c.requires.more band, airtime_in-short band c.args.member.now)

pub returns-clause-entries : goal.returns-clause-entries
returns-clause-entries g c =
    c.shift.ensures.entries
    ∙ raised_by c.args.member.now c.reach-from.result (quarters_in c.args.more.now) _
    (entries (shape_of c.args.root.now)) c.reach-from.ensures (λ band. omega (arith, c.requires.more band)) no_quarters

pub shift-requires-clause-only : goal.shift-requires-clause-only
shift-requires-clause-only g c = λ other f. omega (
  arith,
  c.requires.more other,
  none_beside c.args.member.now _ other c.band.ensures f,
  no_quarters other,
)

use Rattle.std.proofs.Common.{arith, ◌∙◌}
use Rattle.resv_tree.specs.Sums.{quarters_in}
use Rattle.resv_tree.specs.Shape.{shape_of, entries}
use Rattle.resv_tree.proofs.HourLemmas.{lowered_by, lower_covered}
use Rattle.resv_tree.proofs.QuarterLemmas.{no_quarters}
use Rattle.resv_tree.proofs.StillLemmas.{none_beside}
use Rattle.resv_tree.proofs.tree_roster.lower.Goals as goal

pub shift-requires-clause-covered : goal.shift-requires-clause-covered
shift-requires-clause-covered g c =
    lower_covered c.args.member.now c.reach-from.result _ (quarters_in c.around-less.result)
    (entries (shape_of c.args.root.now)) c.reach-from.ensures no_quarters
    (λ band. omega (arith, c.around-less.ensures.value band, no_quarters band)) c.requires.counted

pub returns-clause-entries : goal.returns-clause-entries
returns-clause-entries g c =
    c.shift.ensures.entries
    ∙ lowered_by c.args.member.now c.reach-from.result _ (quarters_in c.around-less.result)
    (entries (shape_of c.args.root.now)) c.reach-from.ensures no_quarters
    (λ band. omega (arith, c.around-less.ensures.value band, no_quarters band))

pub shift-requires-clause-only : goal.shift-requires-clause-only
shift-requires-clause-only g c = λ other f. omega (
  arith,
  c.around-less.ensures.value other,
  none_beside c.args.member.now _ other c.band.ensures f,
  no_quarters other,
)

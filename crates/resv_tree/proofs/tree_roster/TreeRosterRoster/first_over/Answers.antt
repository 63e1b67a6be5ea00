use Rattle.std.proofs.Common.{arith, ◌∙◌, subst, sym}
use Rattle.resv_list.specs.Reservations.{IsByStart}
use Rattle.resv_tree.specs.Shape.{shape_of, entries}
use Rattle.resv_tree.proofs.EntryLemmas.{rises_entries}
use Rattle.resv_tree.proofs.OwedLemmas.{entries-members}
use Rattle.resv_tree.proofs.HourLemmas.{first_reaching-over, none_over, greatest_is_spent}
use Rattle.resv_tree.proofs.tree_roster.TreeRosterRoster.first_over.Goals as goal

pub first_over-requires-clause-by_key : goal.first_over-requires-clause-by_key
first_over-requires-clause-by_key g c =
    let self = c.args.self.now in
    rises_entries 0 (entries (shape_of self.root)) (subst IsByStart (sym (entries-members (shape_of self.root))) self.by_start)

pub returns-then-greatest_in-whole : goal.returns-then-greatest_in-whole
returns-then-greatest_in-whole g c =
    let self = c.args.self.now in
    none_over (shape_of self.root) c.args.band c.args.from c.args.to c.args.most self.whole self.hours
    (omega (
      arith,
      c.if-greatest_in-whole.true,
      c.greatest_in.ensures,
      greatest_is_spent
          (shape_of self.root) c.args.band self.whole self.hours,
    ))

pub returns : goal.returns
returns g c =
    let self = c.args.self.now in
    c.first_over.ensures ∙ first_reaching-over (shape_of self.root) c.args.band c.args.from c.args.to c.args.most self.hours

use Rattle.std.proofs.Common.{◌≡◌, Some, None, ap, sym, ◌∙◌, arith}
use Rattle.resv_tree.specs.Shape.{shape_of, entries, count_of}
use Rattle.resv_tree.specs.Entries.{entry_at, entries_without}
use Rattle.resv_tree.proofs.OwnHourLemmas.{root_by_key, left_members, left_by_start, left_fits, missing_hours, no_member}
use Rattle.resv_tree.proofs.OwnHourLemmas.{the_member, left_counted, lowered_members, lowered_hours}
use Rattle.resv_tree.proofs.TreeLemmas.{without_by_start}
use Rattle.resv_tree.proofs.tree_roster.TreeRosterRoster.remove.Goals as goal

pub remove-root-requires-clause-by_key : goal.remove-root-requires-clause-by_key
remove-root-requires-clause-by_key g c =
    rw c.take.ensures.value (root_by_key (shape_of c.args.self.now.root) c.args.self.now.by_start)

pub invariant_of-self : goal.invariant_of-self
invariant_of-self g c =
    let s = shape_of c.args.self.now.root in
    let t = shape_of c.remove-root.result.0 in
    let left : entries t ≡ entries_without c.args.start (entries s) =
    rw (sym c.take.ensures.value) c.remove-root.ensures.left in
    let none : entry_at c.args.start (entries s) ≡ None =
    rw (sym c.take.ensures.value) (sym c.remove-root.ensures.removed ∙ c.in_default.is) in
    let as_many = ap (λ l. count_of (shape_of l)) c.take.ensures.value in
    record {
      by_start = left_by_start s t c.args.start c.args.self.now.by_start left;
      whole = c.remove-root.ensures.whole;
      hours = missing_hours s t c.args.start c.args.self.now.by_start left none c.args.self.now.hours;
      bounded = omega (arith, c.remove-root.ensures.count, c.args.self.now.bounded, as_many);
    }

pub returns-in_default-clause-removed : goal.returns-in_default-clause-removed
returns-in_default-clause-removed g c =
    let s = shape_of c.args.self.now.root in
    let left : entries (shape_of c.remove-root.result.0) ≡ entries_without c.args.start (entries s) =
    rw (sym c.take.ensures.value) c.remove-root.ensures.left in
    let none : entry_at c.args.start (entries s) ≡ None =
    rw (sym c.take.ensures.value) (sym c.remove-root.ensures.removed ∙ c.in_default.is) in
    no_member s (shape_of c.remove-root.result.0) c.args.start c.args.self.now.by_start left none

pub returns-in_default-clause-left : goal.returns-in_default-clause-left
returns-in_default-clause-left g c =
    left_members (shape_of c.args.self.now.root) (shape_of c.remove-root.result.0) c.args.start c.args.self.now.by_start
    (rw (sym c.take.ensures.value) c.remove-root.ensures.left)

pub lower-requires-clause-by_key : goal.lower-requires-clause-by_key
lower-requires-clause-by_key g c =
    root_by_key (shape_of c.remove-root.result.0)
    (left_by_start (shape_of c.args.self.now.root) (shape_of c.remove-root.result.0) c.args.start c.args.self.now.by_start
    (rw (sym c.take.ensures.value) c.remove-root.ensures.left))

pub lower-requires-clause-fits : goal.lower-requires-clause-fits
lower-requires-clause-fits g c =
    left_fits (shape_of c.args.self.now.root) (shape_of c.remove-root.result.0) c.args.start c.args.self.now.by_start
    (rw (sym c.take.ensures.value) c.remove-root.ensures.left) c.args.self.now.whole c.args.self.now.hours
    c.args.self.now.bounded c.remove-root.ensures.whole

pub lower-requires-clause-counted : goal.lower-requires-clause-counted
lower-requires-clause-counted g c =
    let s = shape_of c.args.self.now.root in
    let left : entries (shape_of c.remove-root.result.0) ≡ entries_without c.args.start (entries s) =
    rw (sym c.take.ensures.value) c.remove-root.ensures.left in
    let found : entry_at c.args.start (entries s) ≡ Some c.in-Some.entry =
    rw (sym c.take.ensures.value) (sym c.remove-root.ensures.removed ∙ c.in-Some.is) in
    left_counted s (shape_of c.remove-root.result.0) c.args.start c.args.self.now.by_start left c.in-Some.entry found
    c.args.self.now.hours

pub invariant_of-self-2 : goal.invariant_of-self-2
invariant_of-self-2 g c =
    let s = shape_of c.args.self.now.root in
    let t = shape_of c.remove-root.result.0 in
    let u = shape_of c.lower.new.root in
    let b = c.args.self.now.by_start in
    let left : entries t ≡ entries_without c.args.start (entries s) =
    rw (sym c.take.ensures.value) c.remove-root.ensures.left in
    let found : entry_at c.args.start (entries s) ≡ Some c.in-Some.entry =
    rw (sym c.take.ensures.value) (sym c.remove-root.ensures.removed ∙ c.in-Some.is) in
    let as_many = ap (λ l. count_of (shape_of l)) c.take.ensures.value in
    record {
      by_start =
          without_by_start c.args.start _ _ (lowered_members s t c.args.start b left c.in-Some.entry found u
          c.lower.ensures.entries) b;
      whole = c.lower.ensures.whole;
      hours =
          lowered_hours s t c.args.start b left c.in-Some.entry found u c.lower.ensures.entries c.args.self.now.hours;
      bounded = omega (arith, c.lower.ensures.count, c.remove-root.ensures.count, c.args.self.now.bounded, as_many);
    }

pub returns-clause-removed : goal.returns-clause-removed
returns-clause-removed g c =
    let s = shape_of c.args.self.now.root in
    let left : entries (shape_of c.remove-root.result.0) ≡ entries_without c.args.start (entries s) =
    rw (sym c.take.ensures.value) c.remove-root.ensures.left in
    let found : entry_at c.args.start (entries s) ≡ Some c.in-Some.entry =
    rw (sym c.take.ensures.value) (sym c.remove-root.ensures.removed ∙ c.in-Some.is) in
    the_member s (shape_of c.remove-root.result.0) c.args.start c.args.self.now.by_start left c.in-Some.entry found

pub returns-clause-left : goal.returns-clause-left
returns-clause-left g c =
    let s = shape_of c.args.self.now.root in
    let left : entries (shape_of c.remove-root.result.0) ≡ entries_without c.args.start (entries s) =
    rw (sym c.take.ensures.value) c.remove-root.ensures.left in
    let found : entry_at c.args.start (entries s) ≡ Some c.in-Some.entry =
    rw (sym c.take.ensures.value) (sym c.remove-root.ensures.removed ∙ c.in-Some.is) in
    lowered_members s (shape_of c.remove-root.result.0) c.args.start c.args.self.now.by_start left c.in-Some.entry found
    (shape_of c.lower.new.root) c.lower.ensures.entries

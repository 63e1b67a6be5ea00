use Rattle.std.proofs.Common.{◌≡◌, ap, sym, arith}
use Rattle.resv_list.specs.Sorted.{rest_from}
use Rattle.resv_tree.specs.Shape.{shape_of, entries, count_of, members_of}
use Rattle.resv_tree.specs.Entries.{key_of}
use Rattle.resv_tree.proofs.HeightLemmas.{count_of-length}
use Rattle.resv_tree.proofs.OwnHourLemmas.{root_by_key, dropped_members, dropped_hours}
use Rattle.resv_tree.proofs.TreeLemmas.{rest_by_start, rest_lighter, dropped_count, dropped_airtime}
use Rattle.resv_tree.proofs.tree_roster.TreeRosterRoster.drop_before.Goals as goal

pub drop_before-requires-clause-by_key : goal.drop_before-requires-clause-by_key
drop_before-requires-clause-by_key g c =
    rw c.take.ensures.value (root_by_key (shape_of c.args.self.now.root) c.args.self.now.by_start)

pub invariant_of-self : goal.invariant_of-self
invariant_of-self g c =
    let s = shape_of c.args.self.now.root in
    let t = shape_of c.drop_before.result in
    let drop : entries t ≡ rest_from key_of c.args.start (entries s) =
    rw (sym c.take.ensures.value) c.drop_before.ensures.entries in
    let as_many = ap (λ l. count_of (shape_of l)) c.take.ensures.value in
    record {
      by_start = rest_by_start c.args.start _ _ (dropped_members s t c.args.start drop) c.args.self.now.by_start;
      whole = c.drop_before.ensures.whole;
      hours = dropped_hours s t c.args.start drop c.args.self.now.hours;
      bounded = omega (arith, c.drop_before.ensures.count, c.args.self.now.bounded, as_many);
    }

pub returns-clause-left : goal.returns-clause-left
returns-clause-left g c =
    dropped_members (shape_of c.args.self.now.root) (shape_of c.drop_before.result) c.args.start
    (rw (sym c.take.ensures.value) c.drop_before.ensures.entries)

pub overflow_sub-result-2 : goal.overflow_sub-result-2
overflow_sub-result-2 g c =
    let lighter = rest_lighter c.args.start (members_of (shape_of c.args.self.now.root))
    (members_of (shape_of c.drop_before.result))
    (dropped_members (shape_of c.args.self.now.root) (shape_of c.drop_before.result) c.args.start
    (rw (sym c.take.ensures.value) c.drop_before.ensures.entries)) in
    omega (arith, c.airtime.ensures, c.airtime-airtime.ensures, lighter)

pub returns-clause-airtime : goal.returns-clause-airtime
returns-clause-airtime g c =
    let lighter = dropped_airtime c.args.start (members_of (shape_of c.args.self.now.root))
    (members_of (shape_of c.drop_before.result))
    (dropped_members (shape_of c.args.self.now.root) (shape_of c.drop_before.result) c.args.start
    (rw (sym c.take.ensures.value) c.drop_before.ensures.entries)) in
    omega (arith, c.airtime.ensures, c.airtime-airtime.ensures, lighter)

pub returns-clause-count : goal.returns-clause-count
returns-clause-count g c =
    let fewer = dropped_count c.args.start (members_of (shape_of c.args.self.now.root))
    (members_of (shape_of c.drop_before.result))
    (dropped_members (shape_of c.args.self.now.root) (shape_of c.drop_before.result) c.args.start
    (rw (sym c.take.ensures.value) c.drop_before.ensures.entries)) in
    omega (
      arith,
      c.count.ensures,
      c.count-members.ensures,
      fewer,
      count_of-length (shape_of c.args.self.now.root) c.args.self.now.whole,
      count_of-length (shape_of c.drop_before.result) c.drop_before.ensures.whole,
    )

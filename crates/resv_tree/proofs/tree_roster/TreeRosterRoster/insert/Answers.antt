use Rattle.std.proofs.Common.{◌≡◌, map, arith, ap, sym, ◌∙◌}
use Rattle.std.proofs.lemmas.Bool.{leb-false}
use Rattle.resv_tree.specs.Shape.{shape, shape_of, entries, entry_of, count_of}
use Rattle.resv_tree.specs.OwnHours.{raised}
use Rattle.resv_tree.proofs.HeightLemmas.{count_of-length}
use Rattle.resv_tree.proofs.OwnHourLemmas.{inserted_members, inserted_hours}
use Rattle.resv_tree.proofs.OwnHourLemmas.{root_by_key, root_fits, raised_by_key}
use Rattle.resv_tree.proofs.TreeLemmas.{placed_by_start}
use Rattle.resv_tree.proofs.tree_roster.TreeRosterRoster.insert.Goals as goal

pub raise-requires-clause-by_key : goal.raise-requires-clause-by_key
raise-requires-clause-by_key g c =
    rw c.take-root.ensures.value (root_by_key (shape_of c.args.self.now.root) c.args.self.now.by_start)

pub raise-requires-clause-fits : goal.raise-requires-clause-fits
raise-requires-clause-fits g c =
    rw c.take-root.ensures.value (root_fits (shape_of c.args.self.now.root) c.args.self.now.whole c.args.self.now.hours
    c.args.self.now.bounded)

pub insert-requires-clause-by_key : goal.insert-requires-clause-by_key
insert-requires-clause-by_key g c =
    raised_by_key (shape_of c.take-root.result) (shape_of c.raise.new.root) c.args.reservation
    (rw c.take-root.ensures.value c.args.self.now.by_start) c.raise.ensures.entries

pub insert-requires-clause-room : goal.insert-requires-clause-room
insert-requires-clause-room g c =
    omega (
      arith,
      c.raise.ensures.count,
      ap (λ l. count_of (shape_of l)) c.take-root.ensures.value,
      count_of-length (shape_of c.args.self.now.root) c.args.self.now.whole,
      leb-false _ _ (sym c.is_full.ensures ∙ c.if-is_full.false),
    )

pub invariant_of-self : goal.invariant_of-self
invariant_of-self g c =
    let r = c.args.reservation in
    let root = shape_of c.args.self.now.root in
    let made = ap entry_of c.in-Ok-new.ensures.ok ∙ c.apart.ensures in
    let up : entries (shape_of c.raise.new.root) ≡ map (raised r) (entries root) =
    rw (sym c.take-root.ensures.value) c.raise.ensures.entries in
    let as_many = ap (λ l. count_of (shape_of l)) c.take-root.ensures.value in
    record {
      by_start =
          placed_by_start r _ _ (inserted_members root (shape_of c.raise.new.root) (shape c.insert.result.value) r _ _ made up
          c.insert.ensures.entries) c.requires c.args.self.now.by_start;
      whole = c.insert.ensures.whole;
      hours =
          inserted_hours root (shape_of c.raise.new.root) (shape c.insert.result.value) r _ _ made up
          c.insert.ensures.entries c.requires c.own_hour-own.ensures c.args.self.now.hours;
      bounded = omega (
        arith,
        c.insert.ensures.count,
        c.raise.ensures.count,
        leb-false _ _ (sym c.is_full.ensures ∙ c.if-is_full.false),
        count_of-length root c.args.self.now.whole,
        as_many,
      );
    }

pub returns-clause-placed : goal.returns-clause-placed
returns-clause-placed g c =
    let made = ap entry_of c.in-Ok-new.ensures.ok ∙ c.apart.ensures in
    inserted_members (shape_of c.args.self.now.root) (shape_of c.raise.new.root) (shape c.insert.result.value)
    c.args.reservation _ _ made (rw (sym c.take-root.ensures.value) c.raise.ensures.entries) c.insert.ensures.entries

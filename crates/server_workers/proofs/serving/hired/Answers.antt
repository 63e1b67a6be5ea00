use Rattle.std.proofs.Common.{refl, ap, arith, subst, sym, ◌∙◌}
use Rattle.std.proofs.lemmas.List.Elements.{All-head, All-tail}
use Rattle.std.specs.Vec.Iter.{into_iter_items}
use Rattle.server_workers.specs.Filing.{filing, IsWithin, AreEmptyFor}
use Rattle.server_workers.proofs.FilingLemmas.{empty, within}
use Rattle.server_workers.proofs.serving.hired.Goals as goal

pub loop-own-init : goal.loop-own-init
loop-own-init g c =
    let given = c.into_iter-own-iterator.ensures.into_iter_gives in
    record {
      amount = refl;
      parts = omega (arith, given.1);
      some = c.requires.parts;
      count = omega (arith, given.1, c.requires.nobody);
      places = c.requires.places;
      empty = rw given.0 c.requires.empty;
    }

pub idle-requires-clause-outcomes : goal.idle-requires-clause-outcomes
idle-requires-clause-outcomes g c =
    let own = All-head (λ own. AreEmptyFor g.K.Room.room own) c.in-Some.own (into_iter_items c.next.new.self)
    (rw c.in-Some.ensures.steps.0 at c.loop-own.invariant.empty) in
    own.outcomes.none

pub new-requires-clause-within : goal.new-requires-clause-within
new-requires-clause-within g c =
    let own = All-head (λ own. AreEmptyFor g.K.Room.room own) c.in-Some.own (into_iter_items c.next.new.self)
    (rw c.in-Some.ensures.steps.0 at c.loop-own.invariant.empty) in
    subst (IsWithin g.K.Room.room) (sym c.idle.ensures.lists) (within g.K.Room.room c.in-Some.own own)

pub new-requires-clause-none : goal.new-requires-clause-none
new-requires-clause-none g c =
    let own = All-head (λ own. AreEmptyFor g.K.Room.room own) c.in-Some.own (into_iter_items c.next.new.self)
    (rw c.in-Some.ensures.steps.0 at c.loop-own.invariant.empty) in
    let made = c.idle.ensures in
    record { filed = ap filing made.lists ∙ empty g.K.Room.room c.in-Some.own own; overrun = made.overrun }

pub loop-own-preserved : goal.loop-own-preserved
loop-own-preserved g c =
    let before = c.loop-own.invariant in
    let left = ap (λ t. t.parts) c.split.ensures.left in
    record {
      amount = ap (λ t. t.amount) c.split.ensures.left ∙ before.amount;
      parts = omega (arith, left, before.parts, before.some, c.in-Some.ensures.steps.1);
      some = before.some;
      count = omega (arith, before.count, c.in-Some.ensures.steps.1, c.push_reserved.ensures.len);
      places = omega (arith, before.places, c.push_reserved.ensures.capacity);
      empty = All-tail (λ own. AreEmptyFor g.K.Room.room own) c.in-Some.own (into_iter_items c.next.new.self)
          (rw c.in-Some.ensures.steps.0 at before.empty);
    }

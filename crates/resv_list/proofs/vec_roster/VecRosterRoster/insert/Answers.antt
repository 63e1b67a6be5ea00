use Rattle.std.proofs.Common.{◌≡◌, Bool, true, false, List, refl, subst, sym, ◌∙◌, if◌then◌else◌, arith, insert, is_ok}
use Rattle.resv_list.specs.declared.reservation.Reservation.{Reservation}
use Rattle.resv_list.proofs.SortedLaws.{RisesFrom-place_by}
use Rattle.resv_list.specs.Reservations.{start_of, place, IsByStart}
use Rattle.resv_list.proofs.vec_roster.VecRosterRoster.insert.Goals as goal

-- the members stay by start, whether one was put in its place or not
by_start_kept : (t : Bool) (old new placed : List Reservation) → new ≡ (if t then placed else old) → IsByStart placed
    → IsByStart old → IsByStart new
by_start_kept true old new placed e p o = let P : List Reservation → Type 0 = λ l. IsByStart l in subst P (sym e) p
by_start_kept false old new placed e p o = let P : List Reservation → Type 0 = λ l. IsByStart l in subst P (sym e) o

pub insert-requires : goal.insert-requires
insert-requires g c = omega (arith, c.place_of-place.ensures.bound, c.deref.ensures.len)

pub invariant_of-self-clause-by_start : goal.invariant_of-self-clause-by_start
invariant_of-self-clause-by_start g c =
    let old = c.args.self.now.items.items in
    let placed : place c.args.reservation old ≡ insert old c.place_of-place.result c.args.reservation =
    rw c.deref.ensures.value at (c.place_of-place.ensures.placed c.args.reservation refl) in
    let P : List Reservation → Type 0 = λ l. IsByStart l in
    by_start_kept
    (is_ok c.insert.result)
    old
    c.insert.new.self.items
    (insert old c.place_of-place.result c.args.reservation)
    c.insert.ensures.items
    (subst P placed (RisesFrom-place_by start_of 0 c.args.reservation old (omega arith) c.requires c.args.self.now.by_start))
    c.args.self.now.by_start

pub returns-in-Ok-clause-placed : goal.returns-in-Ok-clause-placed
returns-in-Ok-clause-placed g c =
    let placed : place c.args.reservation c.args.self.now.items.items
    ≡ insert c.args.self.now.items.items c.place_of-place.result c.args.reservation =
    rw c.deref.ensures.value at (c.place_of-place.ensures.placed c.args.reservation refl) in
    c.in-Ok.ensures.items ∙ sym placed

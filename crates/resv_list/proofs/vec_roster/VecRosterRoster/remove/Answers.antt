use Rattle.std.proofs.Common.{◌≡◌, ◌<◌, List, slice_get, length, remove, sym, ◌∙◌, subst}
use Rattle.resv_list.specs.declared.reservation.Reservation.{Reservation}
use Rattle.resv_list.specs.Reservations.{start_of, IsByStart, member_at, without}
use Rattle.resv_list.proofs.SortedLaws.{RisesFrom-filter}
use Rattle.resv_list.proofs.CutLemmas.{slice_get-read}
use Rattle.resv_list.proofs.vec_roster.VecRosterRoster.remove.Goals as goal

pub invariant_of-self-clause-by_start : goal.invariant_of-self-clause-by_start
invariant_of-self-clause-by_start g c =
    let old = c.args.self.now.items.items in
    let left : without c.args.start old ≡ remove old c.in_ok-place.place =
    rw c.deref.ensures.value at c.in_ok-place.ensures.left in
    let P : List Reservation → Type 0 = λ l. IsByStart l in
    subst P (left ∙ sym c.remove.ensures.items) (RisesFrom-filter start_of _ 0 old c.args.self.now.by_start)

pub returns-clause-removed : goal.returns-clause-removed
returns-clause-removed g c =
    let old = c.args.self.now.items.items in
    let place = c.in_ok-place.place in
    let found : member_at c.args.start old ≡ slice_get old place = rw c.deref.ensures.value at c.in_ok-place.ensures.found in
    let inside : place < length old = rw c.deref.ensures.value at c.in_ok-place.ensures.within in
    sym (found ∙ slice_get-read old place c.remove.result inside c.remove.ensures.value)

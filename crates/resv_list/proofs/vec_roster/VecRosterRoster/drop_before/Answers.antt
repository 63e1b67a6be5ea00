use Rattle.std.proofs.Common.{rules, ◌≡◌, nat_lt, length, sym, ap, subst, ◌∙◌, List, take}
use Rattle.std.proofs.lemmas.Fn.{filter_same}
use Rattle.std.proofs.lemmas.List.{length-take-le}
use Rattle.resv_list.specs.declared.reservation.Reservation.{Reservation}
use Rattle.resv_list.specs.Reservations.{start_of, IsByStart, members_from, net}
use Rattle.resv_list.proofs.CutLemmas.{filter-cut}
use Rattle.resv_list.proofs.SortedLaws.{RisesFrom-filter}
use Rattle.resv_list.proofs.vec_roster.VecRosterRoster.drop_before.Goals as goal

pub invariant_of-self-clause-by_start : goal.invariant_of-self-clause-by_start
invariant_of-self-clause-by_start g c =
    let old = c.args.self.now.items.items in
    let left : c.retain.new.self.items ≡ members_from c.args.start old =
    filter_same _ _ _ (λ x b f' k. search rules) _ _ c.retain.ensures.filtered in
    let P : List Reservation → Type 0 = λ l. IsByStart l in
    subst P (sym left) (RisesFrom-filter start_of _ 0 old c.args.self.now.by_start)

pub returns-clause-left : goal.returns-clause-left
returns-clause-left g c = filter_same _ _ _ (λ x b f' k. search rules) _ _ c.retain.ensures.filtered

pub returns-clause-count : goal.returns-clause-count
returns-clause-count g c =
    let l = c.args.self.now.items.items in
    let count = c.place_of-count in
    let e = filter-cut (λ r. nat_lt (start_of r) c.args.start) l count.result (rw c.deref.ensures.value at count.ensures.cut) in
    sym (ap length e ∙ length-take-le count.result l (rw c.deref.ensures.value at count.ensures.bound))

pub returns-clause-airtime : goal.returns-clause-airtime
returns-clause-airtime g c =
    let l = c.args.self.now.items.items in
    let count = c.place_of-count in
    let e = filter-cut (λ r. nat_lt (start_of r) c.args.start) l count.result (rw c.deref.ensures.value at count.ensures.cut) in
    let a : c.airtime_of-airtime.result ≡ net (take count.result l) =
    rw c.deref-2.ensures.value at c.airtime_of-airtime.ensures in
    a ∙ sym (ap net e)

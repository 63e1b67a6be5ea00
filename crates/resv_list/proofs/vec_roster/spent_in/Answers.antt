use Rattle.std.proofs.Common.{List, sym, ap, ◌∙◌, subst}
use Rattle.std.proofs.lemmas.List.{take_rest}
use Rattle.resv_list.specs.declared.reservation.Reservation.{Reservation}
use Rattle.resv_list.specs.Sorted.{RisesFrom}
use Rattle.resv_list.specs.Reservations.{start_of, begun}
use Rattle.resv_list.proofs.CutLemmas.{RisesFrom-cut}
use Rattle.resv_list.proofs.BegunLemmas.{begun-cut}
use Rattle.resv_list.proofs.vec_roster.spent_in.Goals as goal

pub begun_before-requires-clause-rising : goal.begun_before-requires-clause-rising
begun_before-requires-clause-rising c =
    let l = c.args.members.now in
    let P : List Reservation → Type 0 = λ m. RisesFrom start_of c.args.from m in
    subst P (sym (take_rest l c.place_of.result)) (RisesFrom-cut start_of 0 c.args.from l c.place_of.result c.place_of.ensures.cut
    c.requires.by_start)

pub returns : goal.returns
returns c =
    let l = c.args.members.now in
    c.begun_before.ensures
    ∙ ap (begun c.args.band c.args.from c.args.to) (take_rest l c.place_of.result)
    ∙ sym (begun-cut c.args.band c.args.from c.args.to l c.place_of.result c.place_of.ensures.cut)

use Rattle.std.proofs.Common.{List, slice_get, nat_lt, nat_le, sym, ◌∙◌, ap, arith}
use Rattle.std.proofs.lemmas.Bool.Decides.{nat_tests}
use Rattle.std.proofs.lemmas.List.{take_rest}
use Rattle.resv_list.specs.declared.reservation.Reservation.{Reservation}
use Rattle.resv_list.proofs.CutLemmas.{find-cut, first-drop}
use Rattle.resv_list.specs.Reservations.{start_of}
use Rattle.resv_list.proofs.vec_roster.first_from_in.Goals as goal

pub returns : goal.returns
returns c =
    let l = c.args.members.now in
    let p = c.place_of.result in
    c.copied.ensures ∙ c.first.ensures.value ∙ ap (λ (m : List Reservation). slice_get m 0) (take_rest l p) ∙ first-drop l p
    ∙ sym (find-cut (λ r. nat_lt (start_of r) c.args.start) (λ r. nat_le c.args.start (start_of r))
    (λ r. grind (arith, nat_tests)) l p c.place_of.ensures.cut)

use Rattle.std.proofs.Common.{nat_lt, sym, ◌∙◌, ap, take}
use Rattle.resv_list.specs.Sorted.{last}
use Rattle.resv_list.proofs.CutLemmas.{filter-cut, last-read}
use Rattle.resv_list.specs.Reservations.{start_of}
use Rattle.resv_list.proofs.vec_roster.before_in.Goals as goal

pub returns : goal.returns
returns c =
    let l = c.args.members.now in
    let e = filter-cut (λ r. nat_lt (start_of r) c.args.start) l c.place_of.result c.place_of.ensures.cut in
    c.copied.ensures ∙ c.last.ensures.value ∙ last-read (take c.place_of.result l) ∙ sym (ap last e)

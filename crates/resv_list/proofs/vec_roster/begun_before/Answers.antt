use Rattle.std.proofs.Common.{◌≡◌, ◌≤◌, ◌+◌, ◌∷◌, drop, arith, sym, ◌∙◌, ap}
use Rattle.std.proofs.lemmas.List.{at_drop_more, at_drop_all}
use Rattle.resv_list.specs.Reservations.{start_of, begun}
use Rattle.resv_list.proofs.CutLemmas.{RisesFrom-get}
use Rattle.resv_list.specs.Begun.{begun-cons, begun-nil}
use Rattle.resv_list.proofs.BegunLemmas.{share_within, begun_behind}
use Rattle.resv_list.proofs.vec_roster.begun_before.Goals as goal

pub returns-then-member-to : goal.returns-then-member-to
returns-then-member-to c =
    let none = begun_behind c.args.band c.args.from c.args.to c.args.from c.args.members.now c.loop-member.member-index
    c.member-item.result c.requires.rising c.loop-member-test.true c.member-item.is c.if-member-to.true in
    omega (arith, none, c.loop-member.invariant.0)

pub loop-member-preserved : goal.loop-member-preserved
loop-member-preserved c =
    let m = c.member-item.result in
    let l = c.args.members.now in
    let i = c.loop-member.member-index in
    let begins : c.args.from ≤ m.start = rw (ap start_of c.member-item.is)
    (RisesFrom-get start_of c.args.from l i m c.requires.rising c.loop-member-test.true) in
    let more : begun c.args.band c.args.from c.args.to (drop i l) ≡ begun c.args.band c.args.from c.args.to (m ∷ drop (i + 1) l) =
    at_drop_more (begun c.args.band c.args.from c.args.to) l i m c.loop-member-test.true
    ∙ ap (λ x. begun c.args.band c.args.from c.args.to (x ∷ drop (i + 1) l)) (sym c.member-item.is) in
    let split = begun-cons c.args.band c.args.from c.args.to m (drop (i + 1) l) in
    let whole = share_within c.args.band c.args.from c.args.to m begins c.if-member-to.false in (
      omega (arith, more, split, whole, c.airtime_in-sum.ensures.value, c.loop-member.invariant.0),
      omega (arith, c.airtime_in-sum.ensures.short, c.loop-member.invariant.1),
    )

pub returns : goal.returns
returns c =
    let rest = at_drop_all (begun c.args.band c.args.from c.args.to) c.args.members.now c.loop-member.member-index
    c.loop-member-test.false in
    omega (arith, rest, begun-nil c.args.band c.args.from c.args.to, c.loop-member.invariant.0)

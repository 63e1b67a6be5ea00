use Rattle.std.proofs.Common.{◌≡◌, ◌+◌, ◌∷◌, drop, arith, sym, ◌∙◌, ap}
use Rattle.std.proofs.lemmas.List.{at_drop_more, at_drop_all}
use Rattle.resv_list.specs.Reservations.{begun}
use Rattle.resv_list.specs.Begun.{begun-cons, begun-nil}
use Rattle.resv_list.proofs.BegunLemmas.{share_within, begun_behind}
use Rattle.resv_tree.proofs.QuarterLemmas.{no_quarters}
use Rattle.resv_tree.proofs.hours.taken_in.Goals as goal

pub returns-then-member-to-clause-all : goal.returns-then-member-to-clause-all
returns-then-member-to-clause-all c band =
    ap (λ k. begun band 0 c.args.to (drop k c.args.members.now)) c.loop-member.invariant.0
    ∙ begun_behind band 0 c.args.to 0 c.args.members.now c.loop-member.member-index c.member-item.result c.requires.by_start
    c.loop-member-test.true c.member-item.is c.if-member-to.true

pub loop-member-preserved : goal.loop-member-preserved
loop-member-preserved c =
    let m = c.member-item.result in
    let l = c.args.members.now in
    let i = c.loop-member.member-index in
    let around = c.around-taken.ensures in (
      omega (arith, c.loop-member.invariant.0),
      λ band. omega (arith, around.value band, around.short band, no_quarters band, c.loop-member.invariant.1 band),
      λ band end h.
          let more : begun band 0 end (drop i l) ≡ begun band 0 end (m ∷ drop (i + 1) l) =
          at_drop_more (begun band 0 end) l i m c.loop-member-test.true
          ∙ ap (λ x. begun band 0 end (x ∷ drop (i + 1) l)) (sym c.member-item.is) in
          let whole = share_within band 0 end m (omega arith) (omega (arith, h, c.if-member-to.false)) in
          omega (
            arith,
            more,
            whole,
            begun-cons band 0 end m (drop (i + 1) l),
            around.value band,
            no_quarters band,
            c.loop-member.invariant.2 band end h,
          ),
    )

pub returns-clause-all : goal.returns-clause-all
returns-clause-all c band =
    ap (λ k. begun band 0 c.args.to (drop k c.args.members.now)) c.loop-member.invariant.0
    ∙ at_drop_all (begun band 0 c.args.to) c.args.members.now c.loop-member.member-index c.loop-member-test.false
    ∙ begun-nil band 0 c.args.to

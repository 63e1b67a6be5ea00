use Rattle.std.proofs.Common.{◌≡◌, ◌<◌, ◌++◌, length, map, take, sym, subst, arith}
use Rattle.std.proofs.lemmas.List.{append-nil, take_all}
use Rattle.resv_list.specs.declared.reservation.Reservation.{Reservation}
use Rattle.book_audit.specs.Held.{Kept}
use Rattle.book_audit.specs.Marks.{AreMarked}
use Rattle.book_audit.proofs.MarkLemmas.{next_marked}
use Rattle.book_audit.proofs.marks.mark_all.Goals as goal

pub loop-member-init : goal.loop-member-init
loop-member-init g c = (
  c.requires.each,
  λ held marked. subst (λ l. AreMarked c.args.receipts.now l c.args.marks.now) (sym (append-nil held)) marked,
)

pub loop-member-preserved : goal.loop-member-preserved
loop-member-preserved g c =
    let i = c.loop-member.member-index in
    let members = c.args.members.now in
    let within : i < length members = omega arith in (
      c.mark.ensures.each,
      λ held marked.
          next_marked c.args.receipts.now held c.args.gateway members i c.member-item.result c.mark.new.marks within
          c.member-item.is (c.mark.ensures.marked c.if-not-mark.false _ (c.loop-member.invariant.1 held marked)),
    )

pub returns-clause-marked : goal.returns-clause-marked
returns-clause-marked g c _ held marked =
    let own : Reservation → Kept = λ r. (c.args.gateway, r) in
    let all : take c.loop-member.member-index c.args.members.now ≡ c.args.members.now =
    take_all c.loop-member.member-index c.args.members.now (omega arith) in
    subst (λ l. AreMarked c.args.receipts.now (held ++ map own l) c.loop-member.marks) all (c.loop-member.invariant.1 held marked)

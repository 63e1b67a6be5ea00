use Rattle.std.proofs.Common.{◌≡◌, ◌+◌, ◌<◌, ◌++◌, false, refl, length, map, take, drop, sym, ap, subst, ◌∙◌, arith, rules}
use Rattle.std.proofs.Math.Seq.{take-append_seam}
use Rattle.book_audit.specs.Audit.{held_by}
use Rattle.book_audit.specs.Marks.{AreMarked}
use Rattle.book_audit.proofs.HeldLemmas.{held_more}
use Rattle.book_audit.proofs.MarkLemmas.{none_held}
use Rattle.book_audit.proofs.marks.marks_of.Goals as goal

pub loop-gateway-init : goal.loop-gateway-init
loop-gateway-init g c = none_held c.args.receipts.now _ (search rules)
    (λ k l. c.in_ok-resize.ensures.by_index.1 k false refl (omega (arith, c.new-marks.ensures.len)) l)

pub loop-gateway-preserved : goal.loop-gateway-preserved
loop-gateway-preserved g c =
    let receipts = c.args.receipts.now in
    let i = c.loop-gateway.gateway-index in
    let shelved = c.loop-gateway-item.result in
    let within : i < length c.args.shelf.now = omega arith in
    let listed = c.deref.ensures.value ∙ c.in_ok-members.ensures.members in
    let more = ap (λ l. held_by (take i c.args.shelf.now) ++ map (λ r. (shelved.0, r)) l) listed
    ∙ sym (held_more c.args.shelf.now i shelved within c.loop-gateway-item.is) in
    let marks = c.mark_all.new.marks in
    let before = subst (AreMarked receipts (held_by (take i c.args.shelf.now))) (sym c.deref_mut.ensures.value)
    c.loop-gateway.invariant in
    let after = c.mark_all.ensures.marked c.if-not-mark_all.false (held_by (take i c.args.shelf.now)) before in
    let written : take c.loop-gateway.marks.len (marks ++ drop (length marks) c.loop-gateway.marks.items) ≡ marks =
    ap (λ n. take n (marks ++ drop (length marks) c.loop-gateway.marks.items)) sized ∙ take-append_seam marks _ in
    subst (AreMarked receipts (held_by (take (i + 1) c.args.shelf.now))) (sym written)
    (subst (λ l. AreMarked receipts l marks) more after) where
      sized : c.loop-gateway.marks.len ≡ length c.mark_all.new.marks
      sized =
          let before = c.loop-gateway.invariant.each in
          let after = c.mark_all.ensures.each in
          let same = c.deref_mut.ensures.len in
          omega (arith, before, after, same, ap length c.deref_mut.ensures.value)

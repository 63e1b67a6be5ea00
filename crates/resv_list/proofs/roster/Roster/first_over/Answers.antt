use Rattle.std.proofs.Common.{◌≡◌, ◌≤◌, ◌∷◌, ◌+◌, cond, length, find, sym, ap, ◌∙◌, arith}
use Rattle.resv_list.specs.Sorted.{rest_from}
use Rattle.resv_list.specs.Reservations.{start_of, is_in, spent}
use Rattle.resv_list.specs.Hours.{is_over}
use Rattle.resv_list.proofs.Walk.{rest_from-None, find_rest, is_next}
use Rattle.resv_list.proofs.HourLemmas.{is_over-before, over_none, over_here, over_later, low_hour, other_hour}
use Rattle.resv_list.proofs.roster.Roster.first_over.Goals.{else-is_in-via-then-is_in+else-spent-most, else-is_in-via-else-is_in}
use Rattle.resv_list.proofs.roster.Roster.first_over.Goals as goal

pub loop-member-init : goal.loop-member-init
loop-member-init g c =
    let l = g.Self.Roster.list c.args.self.now in (
      find_rest start_of (is_over l c.args.band c.args.from c.args.to c.args.most) c.args.from l
          (λ r h. is_over-before l c.args.band c.args.from c.args.to c.args.most r h),
      omega arith,
    )

pub returns-then-member-to : goal.returns-then-member-to
returns-then-member-to g c =
    let l = g.Self.Roster.list c.args.self.now in
    let m = c.in-Some.member in
    let next = is_next start_of l c.loop-member.at m (g.met.Self.Roster.by_start c.args.self.now)
    (sym c.first_from.ensures ∙ c.in-Some.is) in
    sym (over_none l c.args.band c.args.from c.args.to c.args.most c.loop-member.at m next c.if-member-to.true)
    ∙ c.loop-member.invariant.0

pub returns-then-spent-most : goal.returns-then-spent-most
returns-then-spent-most g c =
    let l = g.Self.Roster.list c.args.self.now in
    let m = c.in-Some.member in
    let next = is_next start_of l c.loop-member.at m (g.met.Self.Roster.by_start c.args.self.now)
    (sym c.first_from.ensures ∙ c.in-Some.is) in
    sym (over_here l c.args.band c.args.from c.args.to c.args.most c.loop-member.at m next c.loop-member.invariant.1
    (omega (arith, c.if-member-to.false)) (sym c.is_in.ensures ∙ c.if-is_in.true)
    (omega (arith, c.spent.ensures, c.if-spent-most.true)))
    ∙ c.loop-member.invariant.0

pub loop-member-smaller : goal.loop-member-smaller
loop-member-smaller g c =
    let l = g.Self.Roster.list c.args.self.now in
    let m = c.in-Some.member in
    let next = is_next start_of l c.loop-member.at m (g.met.Self.Roster.by_start c.args.self.now)
    (sym c.first_from.ensures ∙ c.in-Some.is) in
    let shorter : length (rest_from start_of c.loop-member.at l) ≡ length (m ∷ rest_from start_of (m.start + 1) l) =
    ap length next.rest in
    omega (arith, shorter)

pub loop-member-preserved : goal.loop-member-preserved
loop-member-preserved g c =
    let l = g.Self.Roster.list c.args.self.now in
    let m = c.in-Some.member in
    let next = is_next start_of l c.loop-member.at m (g.met.Self.Roster.by_start c.args.self.now)
    (sym c.first_from.ensures ∙ c.in-Some.is) in
    let low : cond (is_in c.args.band m) (spent l c.args.band m.start) 0 ≤ c.args.most =
    elim c.else-is_in.branch [
      | else-is_in-via-then-is_in+else-spent-most w ↦
          low_hour (is_in c.args.band m) (spent l c.args.band m.start) c.args.most
          (omega (arith, w.spent.ensures, w.if-spent-most.false))
      | else-is_in-via-else-is_in w ↦
          other_hour (is_in c.args.band m) (spent l c.args.band m.start) c.args.most
          (sym c.is_in.ensures ∙ w.if-is_in.false)
    ] in (
      sym (over_later l c.args.band c.args.from c.args.to c.args.most c.loop-member.at m next c.loop-member.invariant.1
          (omega (arith, c.if-member-to.false)) low) ∙ c.loop-member.invariant.0,
      omega (arith, c.loop-member.invariant.1, next.later),
    )

pub returns : goal.returns
returns g c =
    let l = g.Self.Roster.list c.args.self.now in
    let none = rest_from-None start_of c.loop-member.at l (sym c.first_from.ensures ∙ c.in_default.is) in
    sym (ap (find (is_over l c.args.band c.args.from c.args.to c.args.most)) none) ∙ c.loop-member.invariant.0

use Rattle.std.proofs.Common.{◌≡◌, ◌∷◌, ◌+◌, true, false, List, length, map, max, sym, ap, ◌∙◌, arith}
use Rattle.resv_list.specs.declared.reservation.Reservation.{Reservation}
use Rattle.resv_list.specs.Sorted.{rest_from}
use Rattle.resv_list.specs.Reservations.{start_of, spent}
use Rattle.resv_list.specs.Hours.{starts_in, greatest, most_spent}
use Rattle.resv_list.proofs.Walk.{rest_from-rises, rest_from-None, is_next}
use Rattle.resv_list.proofs.HourLemmas.{most_with}
use Rattle.resv_list.proofs.roster.Roster.most.Goals.{then-is_in, else-is_in}
use Rattle.resv_list.proofs.roster.Roster.most.Goals as goal

pub loop-member-init : goal.loop-member-init
loop-member-init g c =
    let l = g.Self.Roster.list c.args.self.now in
    let all : greatest (map (spent l c.args.band) (starts_in (rest_from start_of 0 l) c.args.band)) ≡ most_spent l c.args.band =
    ap (λ (ms : List Reservation). greatest (map (spent l c.args.band) (starts_in ms c.args.band)))
    (rest_from-rises start_of 0 0 l (omega arith) (g.met.Self.Roster.by_start c.args.self.now)) in
    omega (arith, all)

pub loop-member-smaller : goal.loop-member-smaller
loop-member-smaller g c =
    let l = g.Self.Roster.list c.args.self.now in
    let m = c.in-Some.member in
    let next = is_next start_of l c.loop-member.at m (g.met.Self.Roster.by_start c.args.self.now)
    (sym c.first_from.ensures ∙ c.in-Some.is) in
    let shorter : length (rest_from start_of c.loop-member.at l) ≡ length (m ∷ rest_from start_of (m.start + 1) l) =
    ap length next.rest in
    omega (arith, shorter)

pub loop-member-preserved : goal.loop-member-preserved
loop-member-preserved g c =
    let l = g.Self.Roster.list c.args.self.now in
    let band = c.args.band in
    let m = c.in-Some.member in
    let next = is_next start_of l c.loop-member.at m (g.met.Self.Roster.by_start c.args.self.now)
    (sym c.first_from.ensures ∙ c.in-Some.is) in
    elim c.if-is_in.branch [
      | then-is_in w ↦
          most_with (spent l band) band l c.loop-member.most c.loop-member.at c.if-is_in.most m true next
          (sym c.is_in.ensures ∙ w.if-is_in.true)
          (w.most-is ∙ w.max-most.ensures ∙ ap (max c.loop-member.most) w.spent.ensures)
          ∙ c.loop-member.invariant
      | else-is_in w ↦
          most_with (spent l band) band l c.loop-member.most c.loop-member.at c.if-is_in.most m false next
          (sym c.is_in.ensures ∙ w.if-is_in.false) (omega (arith, w.most-is))
          ∙ c.loop-member.invariant
    ]

pub returns : goal.returns
returns g c =
    let l = g.Self.Roster.list c.args.self.now in
    let none : greatest (map (spent l c.args.band) (starts_in (rest_from start_of c.loop-member.at l) c.args.band)) ≡ 0 =
    ap (λ (ms : List Reservation). greatest (map (spent l c.args.band) (starts_in ms c.args.band)))
    (rest_from-None start_of c.loop-member.at l (sym c.first_from.ensures ∙ c.in_default.is)) in
    omega (arith, none, c.loop-member.invariant)

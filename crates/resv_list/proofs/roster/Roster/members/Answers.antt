use Rattle.std.proofs.Common.{◌≡◌, ◌+◌, ◌∷◌, length, sym, ap, ◌∙◌, arith, append-nil, append_assoc}
use Rattle.resv_list.proofs.Walk.{rest_from-rises, rest_from-None, rest_from-Some}
use Rattle.resv_list.specs.Sorted.{rest_from}
use Rattle.resv_list.specs.Reservations.{start_of}
use Rattle.resv_list.proofs.roster.Roster.members.Goals as goal

pub loop-member-init : goal.loop-member-init
loop-member-init g c =
    let l = g.Self.Roster.list c.args.self.now in
    rw c.in_ok-members.ensures.items (rest_from-rises start_of 0 0 l (omega arith) (g.met.Self.Roster.by_start c.args.self.now))

pub loop-member-smaller : goal.loop-member-smaller
loop-member-smaller g c =
    let l = g.Self.Roster.list c.args.self.now in
    let next = rest_from-Some start_of 0 c.loop-member.at c.in-Some.member l (g.met.Self.Roster.by_start c.args.self.now)
    (sym c.first_from.ensures ∙ c.in-Some.is) in
    let shorter : length (rest_from start_of c.loop-member.at l)
    ≡ length (c.in-Some.member ∷ rest_from start_of (c.in-Some.member.start + 1) l) = ap length next.0 in
    omega (arith, shorter)

pub loop-member-preserved : goal.loop-member-preserved
loop-member-preserved g c =
    let l = g.Self.Roster.list c.args.self.now in
    let next = rest_from-Some start_of 0 c.loop-member.at c.in-Some.member l (g.met.Self.Roster.by_start c.args.self.now)
    (sym c.first_from.ensures ∙ c.in-Some.is) in
    rw (c.in_ok-push.ensures.items, append_assoc) (rw next.0 at c.loop-member.invariant)

pub returns : goal.returns
returns g c =
    let l = g.Self.Roster.list c.args.self.now in
    let none = rest_from-None start_of c.loop-member.at l (sym c.first_from.ensures ∙ c.in_default.is) in
    sym (append-nil c.loop-member.members.items) ∙ rw none at c.loop-member.invariant

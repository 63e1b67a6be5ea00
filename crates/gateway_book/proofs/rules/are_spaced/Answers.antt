use Rattle.std.proofs.Common.{◌≡◌, ◌+◌, ◌∷◌, length, sym, ap, ◌∙◌, arith, refl}
use Rattle.resv_list.proofs.Walk.{rest_from-rises, rest_from-None, rest_from-Some}
use Rattle.resv_list.specs.Sorted.{rest_from}
use Rattle.resv_list.specs.Reservations.{start_of}
use Rattle.gateway_book.specs.Disjoint.{rested_from}
use Rattle.gateway_book.specs.Spaced.{SpacedFrom}
use Rattle.gateway_book.proofs.RulesLaws.{owes_behind, owes_early, owes_none}
use Rattle.gateway_book.proofs.rules.are_spaced.Goals as goal

pub loop-member-init : goal.loop-member-init
loop-member-init g c =
    let l = g.R.Roster.list c.args.roster.now in
    rw (rest_from-rises start_of 0 0 l (omega arith) (g.met.R.Roster.by_start c.args.roster.now)) (λ s. s, λ s. s)

pub returns-then-member-rested : goal.returns-then-member-rested
returns-then-member-rested g c =
    let l = g.R.Roster.list c.args.roster.now in
    let next = rest_from-Some start_of 0 c.loop-member.from c.in-Some.member l (g.met.R.Roster.by_start c.args.roster.now)
    (sym c.first_from.ensures ∙ c.in-Some.is) in
    let early = owes_early start_of (rested_from c.args.gap) (SpacedFrom start_of (rested_from c.args.gap) 0 l) c.loop-member.rested
    c.in-Some.member _ _ next.0 c.loop-member.invariant c.if-member-rested.true in
    (λ t. absurd (cc), λ s. absurd (omega (arith, early s)))

pub loop-member-smaller : goal.loop-member-smaller
loop-member-smaller g c =
    let l = g.R.Roster.list c.args.roster.now in
    let next = rest_from-Some start_of 0 c.loop-member.from c.in-Some.member l (g.met.R.Roster.by_start c.args.roster.now)
    (sym c.first_from.ensures ∙ c.in-Some.is) in
    let shorter : length (rest_from start_of c.loop-member.from l)
    ≡ length (c.in-Some.member ∷ rest_from start_of (c.in-Some.member.start + 1) l) = ap length next.0 in
    omega (arith, shorter)

pub loop-member-preserved : goal.loop-member-preserved
loop-member-preserved g c =
    let l = g.R.Roster.list c.args.roster.now in
    let next = rest_from-Some start_of 0 c.loop-member.from c.in-Some.member l (g.met.R.Roster.by_start c.args.roster.now)
    (sym c.first_from.ensures ∙ c.in-Some.is) in
    let behind = owes_behind start_of (rested_from c.args.gap) (SpacedFrom start_of (rested_from c.args.gap) 0 l) c.loop-member.rested
    c.in-Some.member _ _ next.0 c.loop-member.invariant c.if-member-rested.false in
    rw c.rested_from-rested.ensures behind

pub returns : goal.returns
returns g c =
    let l = g.R.Roster.list c.args.roster.now in
    let none = rest_from-None start_of c.loop-member.from l (sym c.first_from.ensures ∙ c.in_default.is) in
    let all = owes_none start_of (rested_from c.args.gap) (SpacedFrom start_of (rested_from c.args.gap) 0 l) c.loop-member.rested _
    none c.loop-member.invariant in
    (λ t. all, λ s. refl)

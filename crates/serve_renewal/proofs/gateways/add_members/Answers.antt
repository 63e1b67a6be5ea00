use Rattle.std.proofs.Common.{◌≡◌, ◌+◌, ◌∷◌, ◌++◌, length, map, sym, ap, ◌∙◌, arith, refl, append-nil}
use Rattle.resv_list.proofs.Walk.{rest_from-rises, rest_from-None, rest_from-Some}
use Rattle.resv_list.specs.Sorted.{rest_from}
use Rattle.resv_list.specs.Reservations.{start_of}
use Rattle.serve_journal.specs.Renewal.{sent_entry}
use Rattle.serve_downlinks.specs.Batch.{entries_text}
use Rattle.serve_renewal.proofs.Parts.{member_added}
use Rattle.serve_renewal.proofs.gateways.add_members.Goals as goal

pub loop-member-init : goal.loop-member-init
loop-member-init g c =
    let l = g.R.Roster.list c.args.roster.now in
    ap (λ rest. c.args.text.now.items ++ entries_text (map (sent_entry c.args.gateway) rest))
    (rest_from-rises start_of 0 0 l (omega arith) (g.met.R.Roster.by_start c.args.roster.now))

pub loop-member-smaller : goal.loop-member-smaller
loop-member-smaller g c =
    let l = g.R.Roster.list c.args.roster.now in
    let next = rest_from-Some start_of 0 c.loop-member.from c.in-Some.member l (g.met.R.Roster.by_start c.args.roster.now)
    (sym c.first_from.ensures ∙ c.in-Some.is) in
    let shorter : length (rest_from start_of c.loop-member.from l)
    ≡ length (c.in-Some.member ∷ rest_from start_of (c.in-Some.member.start + 1) l) = ap length next.0 in
    omega (arith, shorter)

pub loop-member-preserved : goal.loop-member-preserved
loop-member-preserved g c =
    let l = g.R.Roster.list c.args.roster.now in
    let next = rest_from-Some start_of 0 c.loop-member.from c.in-Some.member l (g.met.R.Roster.by_start c.args.roster.now)
    (sym c.first_from.ensures ∙ c.in-Some.is) in
    member_added c.args.gateway c.loop-member.text.items c.add_entry.new.batch.items _ c.in-Some.member _ _ _
    c.sent.result next.0 c.sent.ensures c.in_ok-add_entry.ensures c.loop-member.invariant

pub returns : goal.returns
returns g c =
    let l = g.R.Roster.list c.args.roster.now in
    let none = rest_from-None start_of c.loop-member.from l (sym c.first_from.ensures ∙ c.in_default.is) in
    rw (none, append-nil) at c.loop-member.invariant

use Rattle.std.proofs.Common.{◌≡◌, ◌∙◌, true, false, sym, ap, arith, refl, get_or}
use Rattle.forwarder_packets.specs.Entries.{outdoes}
use Rattle.forwarder_packets.specs.Seen.{received, shown}
use Rattle.forwarder_packets.proofs.Outdone.{outdone_next, outdone_here, outdone_no_more}
use Rattle.forwarder_packets.proofs.entries.is_outdone.Goals as goal

pub loop-place-init : goal.loop-place-init
loop-place-init g c = refl

pub returns-then-outdoes : goal.returns-then-outdoes
returns-then-outdoes g c =
    let entries = c.args.entries.now in
    let place = c.loop-place.place in
    let d = c.index-entries-place.result in
    let does : outdoes place (received (get_or entries place d)) c.args.at (shown c.args.packet.now) ≡ true =
    ap (λ e. outdoes place (received e) c.args.at (shown c.args.packet.now)) (sym c.index-entries-place.is)
    ∙ sym c.outdoes.ensures ∙ c.if-outdoes.true in
    sym (c.loop-place.invariant ∙ outdone_here received entries place d c.args.at (shown c.args.packet.now) c.loop-place-test.true does)

pub loop-place-preserved : goal.loop-place-preserved
loop-place-preserved g c =
    let entries = c.args.entries.now in
    let place = c.loop-place.place in
    let d = c.index-entries-place.result in
    let passed : outdoes place (received (get_or entries place d)) c.args.at (shown c.args.packet.now) ≡ false =
    ap (λ e. outdoes place (received e) c.args.at (shown c.args.packet.now)) (sym c.index-entries-place.is)
    ∙ sym c.outdoes.ensures ∙ c.if-outdoes.false in
    c.loop-place.invariant ∙ outdone_next received entries place d c.args.at (shown c.args.packet.now) c.loop-place-test.true passed

pub returns : goal.returns
returns g c =
    sym (c.loop-place.invariant
    ∙ outdone_no_more received c.args.entries.now c.loop-place.place c.args.at (shown c.args.packet.now)
    (omega (arith, c.loop-place-test.false, c.loop-place.auto.place-end)))

use Rattle.serve_downlinks.proofs.Texts.{texts_next}
use Rattle.serve_renewal.specs.State.{gateway_entries}
use Rattle.serve_renewal.proofs.gateways.add_gateways.Goals as goal

pub loop-session-preserved : goal.loop-session-preserved
loop-session-preserved g c =
    texts_next (gateway_entries c.args.books.now) c.args.text.now.items c.loop-session.text.items c.add_gateway.new.text.items
    c.args.sessions.now c.loop-session.session-index c.session-item.result c.loop-session-test.true c.session-item.is
    c.loop-session.invariant c.in_ok-add_gateway.ensures

use Rattle.std.proofs.Common.{◌∙◌, refl, slice_get, subst, sym}
use Rattle.forwarder_packets.specs.Seen.{shown}
use Rattle.serve_turns.specs.Life.{Makes, after_copy}
use Rattle.serve_turns.proofs.Oks.{if_ok, if_some}
use Rattle.serve_turns.proofs.Packets.{packet_made}
use Rattle.serve_turns.proofs.answerer.Answerer.take_packet.Goals as goal

pub returns : goal.returns
returns g c =
    let p = shown c.args.packet in
    let f = c.in-Some.forwarder in
    let placed = c.hear-placed.result in
    if_ok c.copy.result _ _
    (λ copied. packet_made c.args.now c.args.place p f placed.at placed.is_new c.args.self.now _ c.tell_session.new.self c.copy.new.self
    (sym c.in-Some.is ∙ c.forwarder_at.ensures.found) c.hear-placed.ensures.at c.hear-placed.ensures.session
    (if_some (slice_get c.args.self.now.forwarders.sessions.items c.args.place) _ _
    (λ k known. record { known = known; server = refl; set = refl; counts = refl; kept = refl; drops = refl; told_at = refl; text = refl })
    c.hear-placed.ensures.known)
    c.in_ok-tell_session.ensures.makes
    (subst (λ e. Makes (after_copy f.eui c.args.place e) c.tell_session.new.self c.copy.new.self) c.hear_event-event.ensures copied))
    c.copy.ensures

use Rattle.std.proofs.Common.{◌∙◌, ◌<◌, ap, length, slice_get, subst, sym}
use Rattle.resv_list.proofs.CutLemmas.{slice_get-read}
use Rattle.serve_turns.proofs.Oks.{some_in}
use Rattle.serve_turns.proofs.Passes.{tick_made}
use Rattle.serve_turns.proofs.answerer.Answerer.tick.Goals as goal

pub returns-in_ok-event-in-Some-clause-makes : goal.returns-in_ok-event-in-Some-clause-makes
returns-in_ok-event-in-Some-clause-makes g c =
    let k = c.index-sessions-place.result in
    some_in (slice_get c.args.self.now.forwarders.sessions.items c.args.place) k _
    (ap (λ l. slice_get l c.args.place) (sym c.sessions.ensures)
    ∙ slice_get-read c.sessions.result.now c.args.place k
    (subst (λ l. c.args.place < length l) (sym c.sessions.ensures) c.requires.place) c.index-sessions-place.is)
    (tick_made c.args.now c.forwarder-gateway.result.gateway c.in-Some.at k c.args.self.now _ (sym c.tick.ensures ∙ c.in-Some.is)
    (ap (λ f. f.gateway) (sym c.forwarder-gateway.ensures)) c.in_ok-event-in-Some.ensures.makes)

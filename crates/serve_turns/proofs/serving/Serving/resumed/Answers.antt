use Rattle.std.proofs.Common.{◌≡◌, ◌∙◌, [], Some, ap, map, subst, sym}
use Rattle.forwarder_sessions.specs.Sessions.{resumed_session}
use Rattle.server_core.specs.Opened.{resuming}
use Rattle.server_core.specs.Server.{seen, IsAt, IsBetweenCalls}
use Rattle.serve_turns.specs.NewDesk.{serve_limits}
use Rattle.serve_turns.specs.Opening.{resumed_life}
use Rattle.serve_turns.proofs.Entries.{queues_untold}
use Rattle.serve_turns.proofs.NewDesks.{set_opened}
use Rattle.serve_turns.proofs.serving.Serving.resumed.Goals as goal

pub queue_all-requires : goal.queue_all-requires
queue_all-requires g c =
    let opens = c.in_ok-server.ensures.opens in
    let made = c.of-serving.ensures in
    record {
      between = subst (λ s. IsBetweenCalls (seen s)) (sym made.server) opens.ready;
      taken = subst (λ s. (seen s).outcomes ≡ []) (sym made.server) opens.outcomes;
    }

pub returns-clause-resumed : goal.returns-clause-resumed
returns-clause-resumed g c =
    let opens = c.in_ok-server.ensures.opens in
    let made = c.of-serving.ensures in
    let r = c.args.resumed in
    let settings = c.args.settings.now in
    record {
      alive =
          c.in_ok-queue_all.ensures.goes (resumed_life settings r.books.items r.forwarders.items r.sessions.items)
          (record {
            at = subst (λ s. IsAt (resuming settings serve_limits r.books.items) (seen s)) (sym made.server) opens.at;
            set = set_opened settings _ (made.settings ∙ c.in_ok-set.ensures);
            known = ap (λ f. f.sessions.items) made.forwarders ∙ c.in_ok-forwarders.ensures
                ∙ ap (map resumed_session) c.deref.ensures.value;
            kept = made.keeping ∙ ap Some c.new.ensures;
            drops = made.drops;
            told_at = made.told_at;
            counts = made.counts;
            text = made.text;
          });
      ready = c.in_ok-queue_all.ensures.ready;
    }

pub returns-clause-between : goal.returns-clause-between
returns-clause-between g c =
    let opens = c.in_ok-server.ensures.opens in
    let made = c.of-serving.ensures in
    let r = c.args.resumed in
    let life = resumed_life c.args.settings.now r.books.items r.forwarders.items r.sessions.items in
    let alive = c.in_ok-queue_all.ensures.goes life
    (record {
      at = subst (λ s. IsAt (resuming c.args.settings.now serve_limits r.books.items) (seen s)) (sym made.server) opens.at;
      set = set_opened c.args.settings.now _ (made.settings ∙ c.in_ok-set.ensures);
      known = ap (λ f. f.sessions.items) made.forwarders ∙ c.in_ok-forwarders.ensures ∙ ap (map resumed_session) c.deref.ensures.value;
      kept = made.keeping ∙ ap Some c.new.ensures;
      drops = made.drops;
      told_at = made.told_at;
      counts = made.counts;
      text = made.text;
    }) in
    record { ready = c.in_ok-queue_all.ensures.ready; told = alive.text ∙ queues_untold g.row.A.Denot r.waiting.items life }

use Rattle.std.proofs.Common.{◌≡◌, ◌∙◌, [], ap, subst, sym}
use Rattle.server_core.specs.Server.{seen, IsAt, IsBetweenCalls}
use Rattle.server_desk.specs.World.{opening}
use Rattle.serve_turns.specs.NewDesk.{serve_limits}
use Rattle.serve_turns.proofs.NewDesks.{set_opened}
use Rattle.serve_turns.proofs.serving.Serving.new.Goals as goal

pub returns : goal.returns
returns g c =
    let opens = c.in_ok-server.ensures.opens in
    let settings = c.args.settings.now in
    let made = c.of.ensures in
    record {
      alive = record {
        at = subst (λ s. IsAt (opening settings serve_limits) (seen s)) (sym made.server)
            (subst (λ gs. IsAt (record (opening settings serve_limits) { gateways = gs }) (seen c.in_ok-server.server))
            c.in_ok-books.ensures.empty opens.at);
        set = set_opened settings _ (made.settings ∙ c.in_ok-set.ensures);
        known = ap (λ f. f.sessions.items) made.forwarders ∙ c.in_ok-forwarders.ensures;
        kept = made.keeping;
        drops = made.drops;
        told_at = made.told_at;
        counts = made.counts;
        text = made.text;
      };
      ready = record {
        between = subst (λ s. IsBetweenCalls (seen s)) (sym made.server) opens.ready;
        taken = subst (λ s. (seen s).outcomes ≡ []) (sym made.server) opens.outcomes;
      };
      steps = ap (λ s. (seen s).steps) made.server ∙ opens.steps;
    }

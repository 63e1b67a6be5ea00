use Rattle.std.proofs.Common.{◌∙◌, Some, ap, refl}
use Rattle.server_core.specs.Server.{seen}
use Rattle.serve_journal.specs.Renewal.{renewal_text}
use Rattle.serve_downlinks.specs.Batch.{knows}
use Rattle.serve_renewal.specs.State.{state_of}
use Rattle.serve_turns.specs.Kept.{kept_after}
use Rattle.serve_turns.specs.Effects.{Adds, Replaces}
use Rattle.std.proofs.Common.{subst, [], ◌∷◌, length}
use Rattle.serve_turns.proofs.Renewals.{renewed}
use Rattle.serve_turns.proofs.answerer.Answerer.renew.Goals as goal

pub returns-clause-done : goal.returns-clause-done
returns-clause-done g c =
    let bytes = c.in_ok-journal.journal.items in
    let now = c.args.now in
    renewed _ _ now c.args.self.now _ c.in-Some.keeping bytes c.replace-is_done.result c.requires.ready c.in-Some.is
    (c.in_ok-journal.ensures
    ∙ ap (λ fs. renewal_text (state_of (knows (seen c.args.self.now.server) fs c.sessions.result.now now))) c.sessions-sessions.ensures
    ∙ ap (λ ds. renewal_text (state_of (knows (seen c.args.self.now.server) c.args.self.now.forwarders.sessions.items ds now)))
    c.sessions.ensures)
    (subst (λ b. Adds (g.H.Host.effects c.args.host.now) (g.H.Host.effects c.replace-is_done.new.self)
    (Replaces b c.replace-is_done.result ∷ [])) c.deref.ensures.value c.replace-is_done.ensures)
    (ap Some (c.renew.ensures ∙ ap (λ j. kept_after now c.replace-is_done.result (length j) c.in-Some.keeping) c.deref-2.ensures.value))
    (record { server = refl; set = refl; counts = refl; known = refl; drops = refl; told_at = refl; text = refl })

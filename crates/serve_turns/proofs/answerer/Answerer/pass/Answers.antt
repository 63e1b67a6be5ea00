use Rattle.std.proofs.Common.{◌∙◌, map, subst, sym}
use Rattle.serve_turns.specs.Turn.{Did, Broke}
use Rattle.serve_turns.specs.Sending.{sending, sending_effects}
use Rattle.serve_turns.proofs.Oks.{if_err, if_ok, on_err}
use Rattle.serve_turns.proofs.Passes.{pass_broke, pass_cut, pass_done, pass_none}
use Rattle.serve_turns.proofs.answerer.Answerer.pass.Goals as goal

pub returns-then-not-is_due-clause-done : goal.returns-then-not-is_due-clause-done
returns-then-not-is_due-clause-done g c =
    pass_none c.args.now c.args.self.now _ c.requires.ready (sym c.is_due.ensures ∙ c.if-not-is_due.true)

pub returns-in_err-tick_all-clause-broken : goal.returns-in_err-tick_all-clause-broken
returns-in_err-tick_all-clause-broken g c = on_err c.from_residual.result _ (pass_broke c.args.now c.args.self.now _)

pub returns-in_err-entries-clause-broken : goal.returns-in_err-entries-clause-broken
returns-in_err-entries-clause-broken g c =
    on_err c.from_residual-in_err-entries.result _ (pass_broke c.args.now c.args.self.now _)

pub returns-clause-done : goal.returns-clause-done
returns-clause-done g c =
    if_ok c.send_downlinks.result _ _
    (λ did. pass_done c.args.now c.args.self.now c.tick_all.new.self c.event.new.self c.in_ok-entries.entries.items
    (sym c.is_due.ensures ∙ c.if-not-is_due.false) c.in_ok-tick_all.ensures c.in_ok-entries.ensures.makes
    c.in_ok-entries.ensures.answers _ _ c.send_downlinks.new.self
    (subst (λ es. Did (g.H.Host.effects c.args.host.now) (g.H.Host.effects c.send_downlinks.new.host)
    (sending c.args.now (map (λ e. e.line) es)) (sending_effects c.args.now (map (λ e. e.line) es)) c.event.new.self
    c.send_downlinks.new.self) c.deref.ensures.value did))
    c.send_downlinks.ensures.done

pub returns-clause-broken : goal.returns-clause-broken
returns-clause-broken g c =
    if_err c.send_downlinks.result _ _
    (λ broke. pass_cut c.args.now c.args.self.now c.tick_all.new.self c.event.new.self c.in_ok-entries.entries.items
    (sym c.is_due.ensures ∙ c.if-not-is_due.false) c.in_ok-tick_all.ensures c.in_ok-entries.ensures.makes
    c.in_ok-entries.ensures.answers _ _
    (subst (λ es. Broke (g.H.Host.effects c.args.host.now) (g.H.Host.effects c.send_downlinks.new.host)
    (sending_effects c.args.now (map (λ e. e.line) es)) c.event.new.self) c.deref.ensures.value broke))
    c.send_downlinks.ensures.broken

use Rattle.std.proofs.Common.{◌∙◌, ◌∷◌, [], false, true, ap, subst}
use Rattle.text_lines.specs.Line.{text_of}
use Rattle.run_lines.specs.ReplayText.{entry_lines}
use Rattle.serve_turns.specs.Effects.{Acknowledges, Adds}
use Rattle.serve_turns.specs.Life.{AreAnswers, Makes, after_event}
use Rattle.serve_turns.proofs.Controls.{broke_met, met_as, not_queued, queued}
use Rattle.serve_turns.proofs.Oks.{on_err}
use Rattle.serve_turns.proofs.answerer.Answerer.answer_queue.Goals as goal

pub returns-then-not-branch-clause-done : goal.returns-then-not-branch-clause-done
returns-then-not-branch-clause-done g c =
    not_queued c.args.now c.args.queued c.args.self.now c.args.source _ _ _ c.note_waiting.new.self
    (met_as c.args.now c.args.queued c.args.self.now _ false _ _ c.note_waiting.new.self c.if-not-branch.true
    c.in_ok-note_waiting.ensures.done)
    c.acknowledge.ensures

pub returns-in_err-entries-clause-broken : goal.returns-in_err-entries-clause-broken
returns-in_err-entries-clause-broken g c =
    on_err c.from_residual-in_err-entries.result _
    (broke_met c.args.now c.args.queued c.args.self.now c.args.source _ _ (g.H.Host.effects c.note_waiting.new.host) c.note_waiting.new.self _
    c.in_ok-note_waiting.ensures.done)

pub returns-in_err-answer-clause-broken : goal.returns-in_err-answer-clause-broken
returns-in_err-answer-clause-broken g c =
    on_err c.from_residual-in_err-answer.result _
    (broke_met c.args.now c.args.queued c.args.self.now c.args.source _ _ (g.H.Host.effects c.note_waiting.new.host) c.note_waiting.new.self _
    c.in_ok-note_waiting.ensures.done)

pub returns-clause-done : goal.returns-clause-done
returns-clause-done g c =
    let b = c.note_waiting.new.self in
    let told = c.in_ok-entries.entries.items in
    queued c.args.now c.args.queued c.args.self.now c.args.source _ _ _ b c.event.new.self told
    (met_as c.args.now c.args.queued c.args.self.now _ true _ _ b c.if-not-branch.false c.in_ok-note_waiting.ensures.done)
    (subst (λ e. Makes (after_event e) b c.event.new.self) c.into_event.ensures c.in_ok-entries.ensures.makes)
    (subst (λ e. AreAnswers e told b) c.into_event.ensures c.in_ok-entries.ensures.answers)
    (subst (λ t. Adds (g.H.Host.effects c.note_waiting.new.host) (g.H.Host.effects c.acknowledge-2.new.self)
    (Acknowledges c.args.source t ∷ []))
    (c.deref-2.ensures.value ∙ c.in_ok-answer.ensures ∙ ap (λ es. text_of (entry_lines es)) c.deref.ensures.value)
    c.acknowledge-2.ensures)

use Rattle.std.proofs.Common.{◌∷◌, ◌∙◌, [], ap, map, subst}
use Rattle.text_lines.specs.Line.{text_of}
use Rattle.run_lines.specs.ReplayText.{report_of}
use Rattle.server_core.specs.Entries.{gateway_of}
use Rattle.serve_turns.specs.Effects.{Acknowledges, Adds}
use Rattle.serve_turns.proofs.Controls.{reported}
use Rattle.serve_turns.proofs.answerer.Answerer.answer_report.Goals as goal

pub returns-clause-done : goal.returns-clause-done
returns-clause-done g c =
    reported c.args.source c.args.self.now _ _ c.requires
    (subst (λ t. Adds (g.H.Host.effects c.args.host.now) (g.H.Host.effects c.acknowledge.new.self) (Acknowledges c.args.source t ∷ []))
    (c.deref.ensures.value ∙ c.in_ok-report.ensures
    ∙ ap (λ bs. text_of (report_of c.args.self.now.counts (map gateway_of bs))) c.books.ensures)
    c.acknowledge.ensures)

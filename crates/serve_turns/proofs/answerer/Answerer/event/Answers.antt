use Rattle.std.proofs.Common.{◌∙◌, ◌++◌, ◌∷◌, ap, refl}
use Rattle.text_lines.specs.Line.{text_of}
use Rattle.run_lines.specs.ReplayText.{entry_lines}
use Rattle.run_lines.specs.UplinkCounts.{counts_of}
use Rattle.server_core.specs.Server.{seen}
use Rattle.serve_turns.specs.Life.{counts_with}
use Rattle.serve_turns.specs.Lines.{asked_line}
use Rattle.serve_turns.proofs.Lives.{are_answers, event_told}
use Rattle.serve_turns.proofs.answerer.Answerer.event.Goals as goal

pub returns-clause-makes : goal.returns-clause-makes
returns-clause-makes g c =
    let before = c.args.self.now.text.writer.items in
    let e = c.args.event.now in
    event_told e c.take_lines-entries.result.items (seen c.event.new.self) c.args.self.now
    (record {
      ready = c.requires;
      between = c.in_ok-event.ensures.ready;
      does = c.in_ok-event.ensures.done;
      taken = c.take_lines-entries.ensures.taken;
    })
    _ c.take_lines-entries.ensures.rest
    (record {
      set = refl;
      known = refl;
      kept = refl;
      drops = refl;
      told_at = refl;
      counts = c.count_more.ensures ∙ ap (counts_with c.args.self.now.counts) (c.of.ensures.counts ∙ ap counts_of c.deref-2.ensures.value);
    })
    (c.in_ok-put_event.ensures ∙ ap (λ t. before ++ text_of (asked_line e ∷ entry_lines t)) c.deref.ensures.value)

pub returns-clause-answers : goal.returns-clause-answers
returns-clause-answers g c =
    are_answers c.args.event.now c.take_lines-entries.result.items (seen c.event.new.self) c.args.self.now
    (record {
      ready = c.requires;
      between = c.in_ok-event.ensures.ready;
      does = c.in_ok-event.ensures.done;
      taken = c.take_lines-entries.ensures.taken;
    })

use Rattle.std.proofs.Common.{sym, ◌∙◌}
use Rattle.std.proofs.lemmas.List.{take_rest}
use Rattle.run_lines.proofs.InputLemmas.{settings-on, events-on, within-line, settings-rule, events-at_rule, settings-end}
use Rattle.run_lines.proofs.InputLemmas.{events-end}
use Rattle.run_lines.proofs.run_input.parts_of.Goals as goal

pub returns-then-is_rule-clause-settings : goal.returns-then-is_rule-clause-settings
returns-then-is_rule-clause-settings c =
    settings-rule _ _ c.in-Some.rest.now _ (rw take_rest at c.in-Some.ensures.line)
    (sym c.if-is_rule.ensures) c.loop-line.invariant.settings

pub returns-then-is_rule-clause-events : goal.returns-then-is_rule-clause-events
returns-then-is_rule-clause-events c =
    sym (c.loop-line.invariant.events ∙ events-at_rule _ _ _ (rw take_rest at c.in-Some.ensures.line) (sym c.if-is_rule.ensures))

pub loop-line-preserved : goal.loop-line-preserved
loop-line-preserved c =
    let old = c.loop-line.invariant in
    let first = rw take_rest at c.in-Some.ensures.line in
    let whole = rw take_rest at c.in-Some.ensures.whole in
    record {
      within = within-line _ _ _ _ old.within whole;
      settings = settings-on _ _ _ _ old.within whole first (sym c.if-is_rule.ensures) old.settings;
      events = events-on _ _ _ _ whole first (sym c.if-is_rule.ensures) old.events;
    }

pub returns-clause-settings : goal.returns-clause-settings
returns-clause-settings c = settings-end _ _ c.loop-line.invariant.within
    (rw take_rest at c.in_default.ensures.line) c.loop-line.invariant.settings

pub returns-clause-events : goal.returns-clause-events
returns-clause-events c = events-end _ _ (rw take_rest at c.in_default.ensures.line) c.loop-line.invariant.events

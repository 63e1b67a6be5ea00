use Rattle.std.proofs.Common.{◌∙◌, ◌++◌, ◌∷◌, Some, ap, map, refl, sym}
use Rattle.text_lines.specs.Line.{text_of}
use Rattle.run_lines.specs.ReplayText.{entry_lines}
use Rattle.run_lines.specs.UplinkCounts.{counts_of}
use Rattle.server_core.specs.Server.{seen}
use Rattle.serve_turns.specs.Life.{counts_with, number_in, refusal_of}
use Rattle.serve_turns.specs.Lines.{asked_line}
use Rattle.serve_turns.specs.Tallies.{dropped_by}
use Rattle.serve_turns.proofs.Oks.{if_ok}
use Rattle.serve_turns.proofs.Lives.{IsDone, are_answers, copy_dropped, copy_joined, event_done, event_told}
use Rattle.serve_turns.proofs.answerer.Answerer.copy.Goals as goal

pub returns : goal.returns
returns g c =
    let before = c.args.self.now.text.writer.items in
    let e = c.args.event.now in
    let told = c.take_lines-entries.result.items in
    let done : IsDone e told (seen c.event.new.self) c.args.self.now = record {
      ready = c.requires.ready;
      between = c.in_ok-event.ensures.ready;
      does = c.in_ok-event.ensures.done;
      taken = c.take_lines-entries.ensures.taken;
    } in
    copy_joined e told c.args.eui c.args.place c.number_in.result c.args.self.now _ _
    (are_answers e told (seen c.event.new.self) c.args.self.now done)
    (ap (λ t. refusal_of (map (λ x. x.line) t)) (sym c.deref.ensures.value) ∙ sym c.refusal_of.ensures ∙ c.in-None.is)
    (c.number_in.ensures ∙ ap (λ t. number_in (map (λ x. x.line) t)) c.deref-in-None-3.ensures.value)
    (event_told e told (seen c.event.new.self) c.args.self.now done _ c.take_lines-entries.ensures.rest
    (record {
      set = refl;
      known = refl;
      kept = refl;
      drops = refl;
      told_at = refl;
      counts = c.count_more.ensures
          ∙ ap (counts_with c.args.self.now.counts) (c.of.ensures.counts ∙ ap counts_of c.deref-in-None-2.ensures.value);
    })
    (c.in_ok-put_event-in-None.ensures ∙ ap (λ t. before ++ text_of (asked_line e ∷ entry_lines t)) c.deref-in-None.ensures.value))
    c.join.ensures

pub returns-in-Some : goal.returns-in-Some
returns-in-Some g c =
    let e = c.args.event.now in
    let old = c.args.self.now in
    let told = c.take_lines-entries.result.items in
    let middle = record old { server = c.take_lines-entries.new.self } in
    let done : IsDone e told (seen c.event.new.self) old = record {
      ready = c.requires.ready;
      between = c.in_ok-event.ensures.ready;
      does = c.in_ok-event.ensures.done;
      taken = c.take_lines-entries.ensures.taken;
    } in
    if_ok c.count_drop.result _ _
    (λ counted. copy_dropped e told c.args.eui c.args.place c.in-Some.fault old middle _
    (are_answers e told (seen c.event.new.self) old done)
    (ap (λ t. refusal_of (map (λ x. x.line) t)) (sym c.deref.ensures.value) ∙ sym c.refusal_of.ensures ∙ c.in-Some.is)
    (event_done e told (seen c.event.new.self) old done middle c.take_lines-entries.ensures.rest
    (record { set = refl; known = refl; kept = refl; drops = refl; told_at = refl; counts = refl }) refl)
    (record { server = refl; set = refl; known = refl; kept = refl; drops = counted ∙ ap (λ n. dropped_by n (Some c.args.eui) old.drops.items) c.hear_name.ensures.name; told_at = refl; counts = refl; text = refl }))
    c.count_drop.ensures

use Rattle.std.proofs.Common.{◌++◌, sym, ap, ◌∙◌, append-nil, arith}
use Rattle.std.specs.Str.Lines.{lines}
use Rattle.run_lines.specs.RunEvents.{events_from}
use Rattle.run_lines.proofs.PartLemmas.{events_more}
use Rattle.run_lines.proofs.all_events.events_with.Goals as goal

pub loop-line-preserved : goal.loop-line-preserved
loop-line-preserved c =
    let l = c.loop-line in
    let devices = c.args.ring.now.devices.now in
    record {
      few = omega (arith, l.invariant.few, c.in-Some.ensures.shorter);
      so_far = events_more devices l.at c.in-Some.line.now (lines c.in-Some.rest.now) _ l.events.items
          c.append_event.new.events.items
          (l.invariant.so_far ∙ ap (λ left. l.events.items ++ events_from devices l.at left) c.in-Some.ensures.line)
          c.in_ok-append_event.ensures;
    }

pub returns : goal.returns
unfolding events_from
returns c =
    let l = c.loop-line in
    let devices = c.args.ring.now.devices.now in
    sym (l.invariant.so_far ∙ ap (λ left. l.events.items ++ events_from devices l.at left) c.in_default.ensures.line
    ∙ append-nil l.events.items)

use Rattle.std.proofs.Common.{◌∙◌, map, ap, arith}
use Rattle.text_lines.specs.Calls.{next_count}
use Rattle.serve_journal.specs.declared.entry.Entry.TheVariants.{Queue}
use Rattle.serve_journal.specs.Renewal.{entries_text}
use Rattle.serve_journal.proofs.PuttingLemmas.{line_text, each_line, one_put, front_put}
use Rattle.serve_journal.proofs.renewal.put_queue.Goals as goal

pub loop-payload-preserved : goal.loop-payload-preserved
loop-payload-preserved g c =
    let put = c.in-Ok.ensures in
    record {
      written =
          one_put (λ xs. entries_text (map (Queue c.args.addr) xs)) (λ x. line_text (Queue c.args.addr x)) (each_line (Queue c.args.addr)) _ _ _ _ c.loop-payload.output c.put_queued.new.output
          c.args.queue.now c.loop-payload.payload-index c.payload-item.result (omega arith) c.payload-item.is c.loop-payload.invariant.written put.0;
      quiet = put.1 ∙ c.loop-payload.invariant.quiet;
    }

pub returns-in-Err : goal.returns-in-Err
returns-in-Err g c =
    let put = c.in-Err.ensures in (
      front_put (λ xs. entries_text (map (Queue c.args.addr) xs)) (λ x. line_text (Queue c.args.addr x)) (each_line (Queue c.args.addr)) _ _ _ _ c.loop-payload.output c.args.queue.now c.loop-payload.payload-index c.payload-item.result
          (omega arith) c.payload-item.is c.loop-payload.invariant.written put.0,
      put.1 ∙ ap next_count c.loop-payload.invariant.quiet,
    )

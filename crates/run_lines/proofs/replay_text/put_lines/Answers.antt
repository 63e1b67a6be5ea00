use Rattle.std.proofs.Common.{map}
use Rattle.text_lines.specs.Line.{text_of}
use Rattle.server_core.specs.Entries.{gateway_of}
use Rattle.run_lines.specs.UplinkCounts.{counts_of}
use Rattle.run_lines.specs.ReplayText.{report_of}
use Rattle.run_lines.proofs.PutLemmas.{puts-then, puts-stopped}
use Rattle.run_lines.proofs.ReplayLemmas.{entries_text, replay-parts}
use Rattle.run_lines.proofs.replay_text.put_lines.Goals as goal

pub returns-in_err-put_entries : goal.returns-in_err-put_entries
returns-in_err-put_entries g c =
    let gateways = map gateway_of c.args.books.now in
    rw (replay-parts c.args.entries.now gateways)
    (puts-stopped _ _ _ _ _ c.args.output.now (entries_text c.args.entries.now) _
    (text_of (report_of (counts_of c.args.entries.now) gateways)) _ c.in_err-put_entries.ensures c.from_residual.ensures.0)

pub returns : goal.returns
returns g c =
    let gateways = map gateway_of c.args.books.now in
    rw (replay-parts c.args.entries.now gateways)
    (puts-then _ _ _ _ _ _ _ c.args.output.now (entries_text c.args.entries.now) _
    (text_of (report_of (counts_of c.args.entries.now) gateways)) _ c.in_ok-put_entries.ensures
    (rw c.of.ensures.counts at c.put_report.ensures))

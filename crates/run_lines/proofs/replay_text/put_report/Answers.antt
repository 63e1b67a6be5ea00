use Rattle.std.proofs.Common.{[], ◌∷◌, map}
use Rattle.text_lines.specs.Line.{text_of}
use Rattle.server_core.specs.Entries.{gateway_of}
use Rattle.run_lines.specs.ReplayText.{by_id}
use Rattle.run_lines.specs.UplinkCounts.{counts_text}
use Rattle.run_lines.proofs.PutLemmas.{puts-then, puts-stopped}
use Rattle.run_lines.proofs.GatewayLemmas.{gateways_text}
use Rattle.run_lines.proofs.ReplayLemmas.{report-parts}
use Rattle.run_lines.proofs.replay_text.put_report.Goals as goal

pub returns-in_err-put_gateways : goal.returns-in_err-put_gateways
returns-in_err-put_gateways g c =
    let gateways = map gateway_of c.args.books.now in
    rw (report-parts c.args.counts.now gateways)
    (puts-stopped _ _ _ _ _ c.args.output.now (gateways_text (by_id gateways)) _ (text_of (counts_text c.args.counts.now ∷ [])) _
    c.in_err-put_gateways.ensures c.from_residual.ensures.0)

pub returns : goal.returns
returns g c =
    let gateways = map gateway_of c.args.books.now in
    rw (report-parts c.args.counts.now gateways)
    (puts-then _ _ _ _ _ _ _ c.args.output.now (gateways_text (by_id gateways)) _ (text_of (counts_text c.args.counts.now ∷ [])) _
    c.in_ok-put_gateways.ensures c.put_uplink_counts.ensures)

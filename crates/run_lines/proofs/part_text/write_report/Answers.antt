use Rattle.std.proofs.Common.{map}
use Rattle.server_core.specs.Entries.{gateway_of}
use Rattle.run_lines.proofs.PutLemmas.{on_err_anyway}
use Rattle.run_lines.proofs.ReplayLemmas.{plain_report}
use Rattle.run_lines.proofs.part_text.write_report.Goals as goal

pub returns-in_err-put_report-clause-err : goal.returns-in_err-put_report-clause-err
returns-in_err-put_report-clause-err g c =
    on_err_anyway _ (rw (c.new-output.ensures) at c.in_err-put_report.ensures.err)

pub returns-in_err-put_report-clause-plain : goal.returns-in_err-put_report-clause-plain
returns-in_err-put_report-clause-plain g c = plain_report c.args.counts.now (map gateway_of c.args.books.now)

pub returns-clause-plain : goal.returns-clause-plain
returns-clause-plain g c = plain_report c.args.counts.now (map gateway_of c.args.books.now)

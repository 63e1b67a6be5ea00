use Rattle.std.proofs.Common.{ℕ, List, [], ◌++◌, map, ◌∙◌}
use Rattle.text_lines.specs.Line.{text_of}
use Rattle.text_lines.specs.Writing.{WritesFront-more, WritesFront-after, Appends-after, WritesAllBut-from_all, WritesAllBut-more}
use Rattle.server_core.specs.Entries.{gateway_of}
use Rattle.run_lines.specs.UplinkCounts.{counts_of}
use Rattle.run_lines.specs.ReplayText.{report_of}
use Rattle.run_lines.proofs.PutLemmas.{on_err_anyway}
use Rattle.run_lines.proofs.ReplayLemmas.{entries_text, replay-parts, refuses-entries}
use Rattle.run_lines.proofs.all_lines.write_made.Goals as goal

pub returns-in_err-write_texts-clause-err : goal.returns-in_err-write_texts-clause-err
returns-in_err-write_texts-clause-err g c =
    let gateways = map gateway_of c.args.books.now in
    let entries = c.args.entries.now in
    rw (replay-parts entries gateways)
    (on_err_anyway _ (WritesFront-more (g.W.ByteOut.taken c.args.writer.now) (g.W.ByteOut.taken c.write_texts.new.writer)
    (entries_text entries) (text_of (report_of (counts_of entries) gateways))
    (rw c.requires at c.in_err-write_texts.ensures.err)))

pub returns-in_err-write_report-clause-err : goal.returns-in_err-write_report-clause-err
returns-in_err-write_report-clause-err g c =
    let gateways = map gateway_of c.args.books.now in
    let entries = c.args.entries.now in
    let before = g.W.ByteOut.taken c.args.writer.now in
    let mid = g.W.ByteOut.taken c.write_texts.new.writer in
    let report : List ℕ = text_of (report_of (counts_of entries) gateways) in
    rw (replay-parts entries gateways)
    (on_err_anyway _ (WritesFront-after before mid (g.W.ByteOut.taken c.write_report.new.writer) (entries_text entries ++ report)
    report
    (WritesAllBut-more before mid (entries_text entries) [] report
    (WritesAllBut-from_all before mid (entries_text entries) (rw c.requires at c.in_ok-write_texts.ensures.ok)))
    (rw c.of.ensures.counts at c.in_err-write_report.ensures.err)))

pub returns-clause-ok : goal.returns-clause-ok
returns-clause-ok g c =
    let gateways = map gateway_of c.args.books.now in
    let entries = c.args.entries.now in
    let before = g.W.ByteOut.taken c.args.writer.now in
    let mid = g.W.ByteOut.taken c.write_texts.new.writer in
    let report : List ℕ = text_of (report_of (counts_of entries) gateways) in
    rw (replay-parts entries gateways)
    (Appends-after before mid (g.W.ByteOut.taken c.write_report.new.writer) (entries_text entries ++ report) report
    (WritesAllBut-more before mid (entries_text entries) [] report
    (WritesAllBut-from_all before mid (entries_text entries) (rw c.requires at c.in_ok-write_texts.ensures.ok)))
    (rw c.of.ensures.counts at c.in_ok-write_report.ensures.ok))

pub returns-clause-told : goal.returns-clause-told
returns-clause-told g c =
    c.has_refused.ensures ∙ refuses-entries c.args.entries.now (map gateway_of c.args.books.now)

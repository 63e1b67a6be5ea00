use Rattle.std.proofs.Common.{List, ℕ, [], ◌∷◌, ◌++◌, map}
use Rattle.std.specs.Prelude.{Ok, Err}
use Rattle.text_lines.specs.Line.{text_of}
use Rattle.journal_sql.specs.Rows.{gateway_row, device_row}
use Rattle.journal_sql.specs.Sql.{table_lines, end_line, queued_rows, sent_rows}
use Rattle.serve_journal.proofs.PuttingLemmas.{puts_then, puts_no_more}
use Rattle.journal_sql.proofs.writing.put_state.Goals as goal

pub returns-in-Err : goal.returns-in-Err
returns-in-Err g c =
    let whole0 : List ℕ = c.args.output.now in
    let part1 : List ℕ = text_of table_lines in
    let whole1 : List ℕ = whole0 ++ part1 in
    let part2 : List ℕ = text_of (map gateway_row c.args.gateways.now) in
    let whole2 : List ℕ = whole1 ++ part2 in
    let part3 : List ℕ = text_of (map device_row c.args.devices.now) in
    let whole3 : List ℕ = whole2 ++ part3 in
    let part4 : List ℕ = text_of (queued_rows 1 c.args.devices.now) in
    let whole4 : List ℕ = whole3 ++ part4 in
    let part5 : List ℕ = text_of (sent_rows 1 c.args.gateways.now) in
    let whole5 : List ℕ = whole4 ++ part5 in
    let part6 : List ℕ = end_line ++ 10 ∷ [] in
    let whole6 : List ℕ = whole5 ++ part6 in
    (puts_no_more (g.W.ByteOut.taken c.args.writer.now) (g.W.ByteOut.taken c.put_tables.new.writer) (g.W.ByteOut.failed_calls c.args.writer.now) (g.W.ByteOut.failed_calls c.put_tables.new.writer) whole5 part6 (puts_no_more (g.W.ByteOut.taken c.args.writer.now) (g.W.ByteOut.taken c.put_tables.new.writer) (g.W.ByteOut.failed_calls c.args.writer.now) (g.W.ByteOut.failed_calls c.put_tables.new.writer) whole4 part5 (puts_no_more (g.W.ByteOut.taken c.args.writer.now) (g.W.ByteOut.taken c.put_tables.new.writer) (g.W.ByteOut.failed_calls c.args.writer.now) (g.W.ByteOut.failed_calls c.put_tables.new.writer) whole3 part4 (puts_no_more (g.W.ByteOut.taken c.args.writer.now) (g.W.ByteOut.taken c.put_tables.new.writer) (g.W.ByteOut.failed_calls c.args.writer.now) (g.W.ByteOut.failed_calls c.put_tables.new.writer) whole2 part3 (puts_no_more (g.W.ByteOut.taken c.args.writer.now) (g.W.ByteOut.taken c.put_tables.new.writer) (g.W.ByteOut.failed_calls c.args.writer.now) (g.W.ByteOut.failed_calls c.put_tables.new.writer) whole1 part2 c.in-Err.ensures)))))

pub returns-in-Err-put_gateways : goal.returns-in-Err-put_gateways
returns-in-Err-put_gateways g c =
    let whole0 : List ℕ = c.args.output.now in
    let part1 : List ℕ = text_of table_lines in
    let whole1 : List ℕ = whole0 ++ part1 in
    let part2 : List ℕ = text_of (map gateway_row c.args.gateways.now) in
    let whole2 : List ℕ = whole1 ++ part2 in
    let part3 : List ℕ = text_of (map device_row c.args.devices.now) in
    let whole3 : List ℕ = whole2 ++ part3 in
    let part4 : List ℕ = text_of (queued_rows 1 c.args.devices.now) in
    let whole4 : List ℕ = whole3 ++ part4 in
    let part5 : List ℕ = text_of (sent_rows 1 c.args.gateways.now) in
    let whole5 : List ℕ = whole4 ++ part5 in
    let part6 : List ℕ = end_line ++ 10 ∷ [] in
    let whole6 : List ℕ = whole5 ++ part6 in
    (puts_no_more (g.W.ByteOut.taken c.args.writer.now) (g.W.ByteOut.taken c.put_gateways.new.writer) (g.W.ByteOut.failed_calls c.args.writer.now) (g.W.ByteOut.failed_calls c.put_gateways.new.writer) whole5 part6 (puts_no_more (g.W.ByteOut.taken c.args.writer.now) (g.W.ByteOut.taken c.put_gateways.new.writer) (g.W.ByteOut.failed_calls c.args.writer.now) (g.W.ByteOut.failed_calls c.put_gateways.new.writer) whole4 part5 (puts_no_more (g.W.ByteOut.taken c.args.writer.now) (g.W.ByteOut.taken c.put_gateways.new.writer) (g.W.ByteOut.failed_calls c.args.writer.now) (g.W.ByteOut.failed_calls c.put_gateways.new.writer) whole3 part4 (puts_no_more (g.W.ByteOut.taken c.args.writer.now) (g.W.ByteOut.taken c.put_gateways.new.writer) (g.W.ByteOut.failed_calls c.args.writer.now) (g.W.ByteOut.failed_calls c.put_gateways.new.writer) whole2 part3 (puts_then (g.W.ByteOut.taken c.args.writer.now) (g.W.ByteOut.taken c.put_tables.new.writer) (g.W.ByteOut.taken c.put_gateways.new.writer) (g.W.ByteOut.failed_calls c.args.writer.now) (g.W.ByteOut.failed_calls c.put_tables.new.writer) (g.W.ByteOut.failed_calls c.put_gateways.new.writer) whole1 c.put_tables.new.output part2 c.put_gateways.new.output (Err c.in-Err-put_gateways.fault) c.in-Ok.ensures c.in-Err-put_gateways.ensures)))))

pub returns-in-Err-put_devices : goal.returns-in-Err-put_devices
returns-in-Err-put_devices g c =
    let whole0 : List ℕ = c.args.output.now in
    let part1 : List ℕ = text_of table_lines in
    let whole1 : List ℕ = whole0 ++ part1 in
    let part2 : List ℕ = text_of (map gateway_row c.args.gateways.now) in
    let whole2 : List ℕ = whole1 ++ part2 in
    let part3 : List ℕ = text_of (map device_row c.args.devices.now) in
    let whole3 : List ℕ = whole2 ++ part3 in
    let part4 : List ℕ = text_of (queued_rows 1 c.args.devices.now) in
    let whole4 : List ℕ = whole3 ++ part4 in
    let part5 : List ℕ = text_of (sent_rows 1 c.args.gateways.now) in
    let whole5 : List ℕ = whole4 ++ part5 in
    let part6 : List ℕ = end_line ++ 10 ∷ [] in
    let whole6 : List ℕ = whole5 ++ part6 in
    (puts_no_more (g.W.ByteOut.taken c.args.writer.now) (g.W.ByteOut.taken c.put_devices.new.writer) (g.W.ByteOut.failed_calls c.args.writer.now) (g.W.ByteOut.failed_calls c.put_devices.new.writer) whole5 part6 (puts_no_more (g.W.ByteOut.taken c.args.writer.now) (g.W.ByteOut.taken c.put_devices.new.writer) (g.W.ByteOut.failed_calls c.args.writer.now) (g.W.ByteOut.failed_calls c.put_devices.new.writer) whole4 part5 (puts_no_more (g.W.ByteOut.taken c.args.writer.now) (g.W.ByteOut.taken c.put_devices.new.writer) (g.W.ByteOut.failed_calls c.args.writer.now) (g.W.ByteOut.failed_calls c.put_devices.new.writer) whole3 part4 (puts_then (g.W.ByteOut.taken c.args.writer.now) (g.W.ByteOut.taken c.put_gateways.new.writer) (g.W.ByteOut.taken c.put_devices.new.writer) (g.W.ByteOut.failed_calls c.args.writer.now) (g.W.ByteOut.failed_calls c.put_gateways.new.writer) (g.W.ByteOut.failed_calls c.put_devices.new.writer) whole2 c.put_gateways.new.output part3 c.put_devices.new.output (Err c.in-Err-put_devices.fault) (puts_then (g.W.ByteOut.taken c.args.writer.now) (g.W.ByteOut.taken c.put_tables.new.writer) (g.W.ByteOut.taken c.put_gateways.new.writer) (g.W.ByteOut.failed_calls c.args.writer.now) (g.W.ByteOut.failed_calls c.put_tables.new.writer) (g.W.ByteOut.failed_calls c.put_gateways.new.writer) whole1 c.put_tables.new.output part2 c.put_gateways.new.output (Ok tt) c.in-Ok.ensures c.in-Ok-put_gateways.ensures) c.in-Err-put_devices.ensures))))

pub returns-in-Err-put_queues : goal.returns-in-Err-put_queues
returns-in-Err-put_queues g c =
    let whole0 : List ℕ = c.args.output.now in
    let part1 : List ℕ = text_of table_lines in
    let whole1 : List ℕ = whole0 ++ part1 in
    let part2 : List ℕ = text_of (map gateway_row c.args.gateways.now) in
    let whole2 : List ℕ = whole1 ++ part2 in
    let part3 : List ℕ = text_of (map device_row c.args.devices.now) in
    let whole3 : List ℕ = whole2 ++ part3 in
    let part4 : List ℕ = text_of (queued_rows 1 c.args.devices.now) in
    let whole4 : List ℕ = whole3 ++ part4 in
    let part5 : List ℕ = text_of (sent_rows 1 c.args.gateways.now) in
    let whole5 : List ℕ = whole4 ++ part5 in
    let part6 : List ℕ = end_line ++ 10 ∷ [] in
    let whole6 : List ℕ = whole5 ++ part6 in
    (puts_no_more (g.W.ByteOut.taken c.args.writer.now) (g.W.ByteOut.taken c.put_queues.new.writer) (g.W.ByteOut.failed_calls c.args.writer.now) (g.W.ByteOut.failed_calls c.put_queues.new.writer) whole5 part6 (puts_no_more (g.W.ByteOut.taken c.args.writer.now) (g.W.ByteOut.taken c.put_queues.new.writer) (g.W.ByteOut.failed_calls c.args.writer.now) (g.W.ByteOut.failed_calls c.put_queues.new.writer) whole4 part5 (puts_then (g.W.ByteOut.taken c.args.writer.now) (g.W.ByteOut.taken c.put_devices.new.writer) (g.W.ByteOut.taken c.put_queues.new.writer) (g.W.ByteOut.failed_calls c.args.writer.now) (g.W.ByteOut.failed_calls c.put_devices.new.writer) (g.W.ByteOut.failed_calls c.put_queues.new.writer) whole3 c.put_devices.new.output part4 c.put_queues.new.output (Err c.in-Err-put_queues.fault) (puts_then (g.W.ByteOut.taken c.args.writer.now) (g.W.ByteOut.taken c.put_gateways.new.writer) (g.W.ByteOut.taken c.put_devices.new.writer) (g.W.ByteOut.failed_calls c.args.writer.now) (g.W.ByteOut.failed_calls c.put_gateways.new.writer) (g.W.ByteOut.failed_calls c.put_devices.new.writer) whole2 c.put_gateways.new.output part3 c.put_devices.new.output (Ok tt) (puts_then (g.W.ByteOut.taken c.args.writer.now) (g.W.ByteOut.taken c.put_tables.new.writer) (g.W.ByteOut.taken c.put_gateways.new.writer) (g.W.ByteOut.failed_calls c.args.writer.now) (g.W.ByteOut.failed_calls c.put_tables.new.writer) (g.W.ByteOut.failed_calls c.put_gateways.new.writer) whole1 c.put_tables.new.output part2 c.put_gateways.new.output (Ok tt) c.in-Ok.ensures c.in-Ok-put_gateways.ensures) c.in-Ok-put_devices.ensures) c.in-Err-put_queues.ensures)))

pub returns-in-Err-put_books : goal.returns-in-Err-put_books
returns-in-Err-put_books g c =
    let whole0 : List ℕ = c.args.output.now in
    let part1 : List ℕ = text_of table_lines in
    let whole1 : List ℕ = whole0 ++ part1 in
    let part2 : List ℕ = text_of (map gateway_row c.args.gateways.now) in
    let whole2 : List ℕ = whole1 ++ part2 in
    let part3 : List ℕ = text_of (map device_row c.args.devices.now) in
    let whole3 : List ℕ = whole2 ++ part3 in
    let part4 : List ℕ = text_of (queued_rows 1 c.args.devices.now) in
    let whole4 : List ℕ = whole3 ++ part4 in
    let part5 : List ℕ = text_of (sent_rows 1 c.args.gateways.now) in
    let whole5 : List ℕ = whole4 ++ part5 in
    let part6 : List ℕ = end_line ++ 10 ∷ [] in
    let whole6 : List ℕ = whole5 ++ part6 in
    (puts_no_more (g.W.ByteOut.taken c.args.writer.now) (g.W.ByteOut.taken c.put_books.new.writer) (g.W.ByteOut.failed_calls c.args.writer.now) (g.W.ByteOut.failed_calls c.put_books.new.writer) whole5 part6 (puts_then (g.W.ByteOut.taken c.args.writer.now) (g.W.ByteOut.taken c.put_queues.new.writer) (g.W.ByteOut.taken c.put_books.new.writer) (g.W.ByteOut.failed_calls c.args.writer.now) (g.W.ByteOut.failed_calls c.put_queues.new.writer) (g.W.ByteOut.failed_calls c.put_books.new.writer) whole4 c.put_queues.new.output part5 c.put_books.new.output (Err c.in-Err-put_books.fault) (puts_then (g.W.ByteOut.taken c.args.writer.now) (g.W.ByteOut.taken c.put_devices.new.writer) (g.W.ByteOut.taken c.put_queues.new.writer) (g.W.ByteOut.failed_calls c.args.writer.now) (g.W.ByteOut.failed_calls c.put_devices.new.writer) (g.W.ByteOut.failed_calls c.put_queues.new.writer) whole3 c.put_devices.new.output part4 c.put_queues.new.output (Ok tt) (puts_then (g.W.ByteOut.taken c.args.writer.now) (g.W.ByteOut.taken c.put_gateways.new.writer) (g.W.ByteOut.taken c.put_devices.new.writer) (g.W.ByteOut.failed_calls c.args.writer.now) (g.W.ByteOut.failed_calls c.put_gateways.new.writer) (g.W.ByteOut.failed_calls c.put_devices.new.writer) whole2 c.put_gateways.new.output part3 c.put_devices.new.output (Ok tt) (puts_then (g.W.ByteOut.taken c.args.writer.now) (g.W.ByteOut.taken c.put_tables.new.writer) (g.W.ByteOut.taken c.put_gateways.new.writer) (g.W.ByteOut.failed_calls c.args.writer.now) (g.W.ByteOut.failed_calls c.put_tables.new.writer) (g.W.ByteOut.failed_calls c.put_gateways.new.writer) whole1 c.put_tables.new.output part2 c.put_gateways.new.output (Ok tt) c.in-Ok.ensures c.in-Ok-put_gateways.ensures) c.in-Ok-put_devices.ensures) c.in-Ok-put_queues.ensures) c.in-Err-put_books.ensures))

pub returns : goal.returns
returns g c =
    let whole0 : List ℕ = c.args.output.now in
    let part1 : List ℕ = text_of table_lines in
    let whole1 : List ℕ = whole0 ++ part1 in
    let part2 : List ℕ = text_of (map gateway_row c.args.gateways.now) in
    let whole2 : List ℕ = whole1 ++ part2 in
    let part3 : List ℕ = text_of (map device_row c.args.devices.now) in
    let whole3 : List ℕ = whole2 ++ part3 in
    let part4 : List ℕ = text_of (queued_rows 1 c.args.devices.now) in
    let whole4 : List ℕ = whole3 ++ part4 in
    let part5 : List ℕ = text_of (sent_rows 1 c.args.gateways.now) in
    let whole5 : List ℕ = whole4 ++ part5 in
    let part6 : List ℕ = end_line ++ 10 ∷ [] in
    let whole6 : List ℕ = whole5 ++ part6 in
    puts_then (g.W.ByteOut.taken c.args.writer.now) (g.W.ByteOut.taken c.put_books.new.writer) (g.W.ByteOut.taken c.put_end.new.writer) (g.W.ByteOut.failed_calls c.args.writer.now) (g.W.ByteOut.failed_calls c.put_books.new.writer) (g.W.ByteOut.failed_calls c.put_end.new.writer) whole5 c.put_books.new.output part6 c.put_end.new.output c.put_end.result (puts_then (g.W.ByteOut.taken c.args.writer.now) (g.W.ByteOut.taken c.put_queues.new.writer) (g.W.ByteOut.taken c.put_books.new.writer) (g.W.ByteOut.failed_calls c.args.writer.now) (g.W.ByteOut.failed_calls c.put_queues.new.writer) (g.W.ByteOut.failed_calls c.put_books.new.writer) whole4 c.put_queues.new.output part5 c.put_books.new.output (Ok tt) (puts_then (g.W.ByteOut.taken c.args.writer.now) (g.W.ByteOut.taken c.put_devices.new.writer) (g.W.ByteOut.taken c.put_queues.new.writer) (g.W.ByteOut.failed_calls c.args.writer.now) (g.W.ByteOut.failed_calls c.put_devices.new.writer) (g.W.ByteOut.failed_calls c.put_queues.new.writer) whole3 c.put_devices.new.output part4 c.put_queues.new.output (Ok tt) (puts_then (g.W.ByteOut.taken c.args.writer.now) (g.W.ByteOut.taken c.put_gateways.new.writer) (g.W.ByteOut.taken c.put_devices.new.writer) (g.W.ByteOut.failed_calls c.args.writer.now) (g.W.ByteOut.failed_calls c.put_gateways.new.writer) (g.W.ByteOut.failed_calls c.put_devices.new.writer) whole2 c.put_gateways.new.output part3 c.put_devices.new.output (Ok tt) (puts_then (g.W.ByteOut.taken c.args.writer.now) (g.W.ByteOut.taken c.put_tables.new.writer) (g.W.ByteOut.taken c.put_gateways.new.writer) (g.W.ByteOut.failed_calls c.args.writer.now) (g.W.ByteOut.failed_calls c.put_tables.new.writer) (g.W.ByteOut.failed_calls c.put_gateways.new.writer) whole1 c.put_tables.new.output part2 c.put_gateways.new.output (Ok tt) c.in-Ok.ensures c.in-Ok-put_gateways.ensures) c.in-Ok-put_devices.ensures) c.in-Ok-put_queues.ensures) c.in-Ok-put_books.ensures) c.put_end.ensures

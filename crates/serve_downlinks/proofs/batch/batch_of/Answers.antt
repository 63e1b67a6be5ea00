use Rattle.std.proofs.Common.{ap, ◌++◌, ◌∙◌, map, List}
use Rattle.std.specs.List.{flat_map}
use Rattle.gateway_book.specs.Book.{Book}
use Rattle.serve_journal.specs.declared.entry.Entry.{Entry}
use Rattle.server_core.specs.Server.{seen}
use Rattle.serve_downlinks.specs.Downlinks.{to_send}
use Rattle.serve_downlinks.specs.Batch.{clock_if_sends, send_entries, entries_text}
use Rattle.serve_downlinks.proofs.Texts.{batch_whole}
use Rattle.serve_downlinks.proofs.batch.batch_of.Goals as goal

pub returns : goal.returns
returns g c =
    let ds = map to_send c.args.downlinks.now in
    let clocks : List Book → List Entry = λ books. flat_map (clock_if_sends c.args.now books ds) c.args.sessions.now in
    batch_whole c.new-batch.result.items c.add_clocks.new.batch.items c.add_downlinks.new.batch.items
    c.extend_from_slice.new.self.items
    (clocks (seen c.args.server.now).books)
    (flat_map (send_entries (seen c.args.server.now).desk.reg.devices c.args.device_sessions.now) ds)
    c.new-batch.ensures.items
    (c.in_ok-add_clocks.ensures ∙ ap (λ books. c.new-batch.result.items ++ entries_text (clocks books)) c.books.ensures)
    c.in_ok-add_downlinks.ensures c.in_ok-extend_from_slice.ensures.items

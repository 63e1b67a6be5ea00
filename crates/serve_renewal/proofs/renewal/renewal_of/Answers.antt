use Rattle.std.proofs.Common.{ap, ◌++◌, ◌∙◌}
use Rattle.std.specs.List.{flat_map}
use Rattle.server_core.specs.Server.{seen}
use Rattle.serve_downlinks.specs.Batch.{entries_text, knows}
use Rattle.serve_renewal.specs.State.{gateway_entries, book_entries, clock_entries}
use Rattle.serve_renewal.proofs.Parts.{whole_text}
use Rattle.serve_renewal.proofs.renewal.renewal_of.Goals as goal

pub returns : goal.returns
returns g c =
    let s = seen c.args.server.now in
    let forwarders = c.args.sessions.now in
    whole_text (knows s forwarders c.args.device_sessions.now c.args.now) _ _ _ _ _ _ _ c.in_ok-text.ensures.items
    (c.in_ok-add_gateways.ensures
    ∙ ap (λ bs. c.in_ok-text.text.items ++ entries_text (flat_map (gateway_entries bs) forwarders)) c.books.ensures)
    c.in_ok-add_devices.ensures c.in_ok-add_queues.ensures
    (c.in_ok-add_books.ensures
    ∙ ap (λ bs. c.add_queues.new.text.items ++ entries_text (flat_map (book_entries bs) forwarders)) c.books-2.ensures)
    (c.in_ok-add_clocks.ensures
    ∙ ap (λ bs. c.add_books.new.text.items ++ entries_text (flat_map (clock_entries c.args.now bs) forwarders)) c.books-3.ensures)
    c.in_ok-extend_from_slice.ensures.items

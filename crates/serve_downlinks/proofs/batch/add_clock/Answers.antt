use Rattle.std.proofs.Common.{ap, sym, ◌∙◌, ◌==◌}
use Rattle.std.specs.List.{list_any}
use Rattle.serve_journal.specs.declared.entry.Entry.TheVariants.{Clock}
use Rattle.serve_downlinks.proofs.Texts.{no_clock, a_clock, clock_same}
use Rattle.serve_downlinks.proofs.batch.add_clock.Goals as goal

pub returns-then-sends : goal.returns-then-sends
returns-then-sends g c =
    a_clock c.add_entry.result c.args.batch.now.items c.add_entry.new.batch.items c.args.now c.args.books.now c.args.downlinks.now
    c.args.session.now
    (Clock c.forwarder-gateway.result.gateway c.line.result c.floor_of.result)
    (sym (ap (λ w. list_any (λ d. d.candidate.gateway == w.gateway) c.args.downlinks.now) c.forwarder-gateway.ensures)
    ∙ sym c.sends.ensures
    ∙ c.if-sends.true)
    (clock_same c.args.now c.args.books.now c.args.session.now c.forwarder-gateway.result c.line.result c.floor_of.result
    c.forwarder-gateway.ensures c.line.ensures c.floor_of.ensures)
    c.add_entry.ensures

pub returns : goal.returns
returns g c =
    no_clock c.args.batch.now.items c.args.now c.args.books.now c.args.downlinks.now c.args.session.now
    (sym (ap (λ w. list_any (λ d. d.candidate.gateway == w.gateway) c.args.downlinks.now) c.forwarder-gateway.ensures)
    ∙ sym c.sends.ensures
    ∙ c.if-sends.false)

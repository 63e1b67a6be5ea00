use Rattle.std.proofs.Common.{◌∙◌, ap, map, subst, sym, IfSome}
use Rattle.server_core.specs.Opened.{AreBooksFor}
use Rattle.server_core.specs.Server.{seen}
use Rattle.server_desk.specs.Settings.{SettingLists}
use Rattle.serve_turns.specs.NewDesk.{accepted, set_as_book}
use Rattle.serve_turns.proofs.NewDesks.{books_for, books_set, if_accepted, settings_accepted, settings_same}
use Rattle.serve_turns.proofs.answerer.Answerer.settings_now.Goals as goal

pub returns-clause-now : goal.returns-clause-now
returns-clause-now g c l alive =
    let gs = c.in_ok-gateways.gateways.items in
    let ds = c.in_ok-devices.devices.items in
    let s : SettingLists = record { gateways = gs; devices = ds } in
    c.ok.ensures.value ∙ settings_accepted s c.new.result c.new.ensures.fault
    ∙ ap accepted (settings_same gs ds l.world (c.in_ok-gateways.ensures ∙ ap (map set_as_book) c.books.ensures
    ∙ books_set (seen c.args.self.now.server).books l.world.gateways alive.at.books) (c.in_ok-devices.ensures l alive))

pub returns-clause-books : goal.returns-clause-books
returns-clause-books g c =
    let gs = c.in_ok-gateways.gateways.items in
    let bs = (seen c.args.self.now.server).books in
    let s : SettingLists = record { gateways = gs; devices = c.in_ok-devices.devices.items } in
    subst (λ o. IfSome o (λ (t : SettingLists). AreBooksFor t.gateways bs))
    (sym (c.ok.ensures.value ∙ settings_accepted s c.new.result c.new.ensures.fault))
    (if_accepted s (λ t. AreBooksFor t.gateways bs)
    (subst (λ l. AreBooksFor l bs) (sym (c.in_ok-gateways.ensures ∙ ap (map set_as_book) c.books.ensures)) (books_for bs)))

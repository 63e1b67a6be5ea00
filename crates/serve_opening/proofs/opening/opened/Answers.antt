use Rattle.std.proofs.Common.{◌≤◌, map, ap, subst, sym, ◌∙◌, All}
use Rattle.server_core.specs.Opened.{AreBooksFor, IsWhole}
use Rattle.server_desk.specs.Settings.{AreSettings, SettingLists}
use Rattle.serve_journal.specs.Journal.{Journal}
use Rattle.serve_opening.specs.Devices.{raised, session_at, all_waits}
use Rattle.serve_opening.specs.Faults.{most_high}
use Rattle.serve_opening.specs.Gateways.{AreOpened, highs, setting_of, unmatched}
use Rattle.serve_opening.proofs.Accepted.{accepted_again}
use Rattle.serve_opening.proofs.Faultless.{clocks_early, counters_low}
use Rattle.serve_opening.proofs.Matching.{all_bare, all_early, books_for, same_ids, same_notes}
use Rattle.serve_opening.proofs.opening.opened.Goals as goal

pub accepted-requires : goal.accepted-requires
accepted-requires g c =
    let s = c.args.settings.now in
    let bs = c.in_ok-gateways.gateways.books.items in
    let own = rw c.gateways.ensures.list at c.in_ok-gateways.ensures.books in
    let gateways = c.in_ok-set.ensures.settings ∙ ap (map setting_of) c.deref-2.ensures.value in
    let devices = c.in_ok-devices.ensures.settings
    ∙ ap (λ ns. map (raised ns) c.devices.result.now) (c.deref.ensures.value ∙ ap (λ (j : Journal). j.devices) c.state.view_is)
    ∙ ap (map (raised c.args.state.devices)) c.devices.ensures.list in
    let ids = same_ids s.gateways c.args.forwarders.now c.state.inside.gateways.items bs own in
    let whole = subst (All IsWhole) c.deref-2.ensures.value c.in_ok-set.ensures.whole in
    subst (λ l. AreSettings l c.in_ok-devices.devices.settings.items) (sym gateways)
    (subst (AreSettings (map setting_of bs)) (sym devices)
    (accepted_again s.gateways s.devices bs c.args.state.devices c.gateways.ensures.kept ids whole
    (counters_low c.args.state c.requires)))

pub returns-clause-opening : goal.returns-clause-opening
returns-clause-opening g c =
    let ms = c.state.inside.gateways.items in
    let ns = c.state.inside.devices.items in
    let fs = c.args.forwarders.now in
    let opened = ap (λ (s : SettingLists). s.gateways) c.accepted.ensures in
    rw (← c.state.view_is)
    (record {
      books = rw c.gateways.ensures.list at c.in_ok-gateways.ensures.books;
      gateways = opened ∙ c.in_ok-set.ensures.settings ∙ ap (map setting_of) c.deref-2.ensures.value;
      devices = ap (λ (s : SettingLists). s.devices) c.accepted.ensures
          ∙ c.in_ok-devices.ensures.settings
          ∙ ap (λ l. map (raised l) c.devices.result.now) c.deref.ensures.value
          ∙ ap (map (raised ns)) c.devices.ensures.list;
      clocks = c.in_ok-gateways.ensures.highs ∙ ap (λ gs. highs gs fs ms) c.gateways.ensures.list;
      sessions = c.in_ok-devices.ensures.sessions ∙ ap (map session_at) c.devices.ensures.list;
      waiting = c.in_ok-waiting.ensures ∙ ap (λ ss. all_waits ss ns) c.deref-7.ensures.value;
      notes = c.in_ok-notes.ensures
          ∙ same_notes _ _ _ _ _ _ _ _ _ _ c.gateways-2.ensures.list (c.deref-3.ensures.value ∙ sym opened)
          (c.deref-4.ensures.value ∙ c.in_ok-gateways.ensures.forgotten ∙ ap (λ gs. unmatched gs fs ms) c.gateways.ensures.list)
          c.deref-5.ensures.value c.deref-6.ensures.value;
    })

pub returns-clause-resumes : goal.returns-clause-resumes
returns-clause-resumes g c =
    let bs = c.in_ok-gateways.gateways.books.items in
    let gateways = ap (λ (s : SettingLists). s.gateways) c.accepted.ensures ∙ c.in_ok-set.ensures.settings
    ∙ ap (map setting_of) c.deref-2.ensures.value in
    subst (λ l. AreBooksFor l bs) (sym gateways) (books_for bs)

pub returns-clause-whole : goal.returns-clause-whole
returns-clause-whole g c = subst (All IsWhole) c.deref-2.ensures.value c.in_ok-set.ensures.whole

pub returns-clause-early : goal.returns-clause-early
returns-clause-early g c =
    let fs = c.args.forwarders.now in
    let gs = c.args.settings.now.gateways in
    let clocks = c.in_ok-gateways.ensures.highs ∙ ap (λ l. highs l fs c.state.inside.gateways.items) c.gateways.ensures.list
    ∙ ap (λ (j : Journal). highs gs fs j.gateways) c.state.view_is in
    subst (All (λ h. h ≤ most_high)) (sym clocks)
    (all_early gs fs c.args.state.gateways (clocks_early c.args.state c.requires))

pub returns-clause-numbers : goal.returns-clause-numbers
returns-clause-numbers g c =
    let fs = c.args.forwarders.now in
    let gs = c.args.settings.now.gateways in
    let bs = c.in_ok-gateways.gateways.books.items in
    let own = rw c.gateways.ensures.list at c.in_ok-gateways.ensures.books in
    λ h. all_bare gs fs c.args.state.gateways bs (subst (λ (j : Journal). AreOpened gs fs j.gateways bs) c.state.view_is own) h

use Rattle.std.proofs.Common.{◌==◌, ◌<◌, length, arith, rules, Bool, List, Option, sym, refl}
use Rattle.std.proofs.lemmas.Grind.{common_steps}
use Rattle.serve_journal.specs.Journal.{Journal, Mast, sent}
use Rattle.serve_journal.proofs.ChangedLemmas.{at_place, stepped, not_stepped}
use Rattle.serve_journal.proofs.state.JournalState.book.Goals as goal

pub index_mut-requires : goal.index_mut-requires
index_mut-requires g c =
    let test : Mast → Bool = λ m. m.id == c.args.id in
    let change : Mast → Option Mast = sent c.args.ask in
    let p = rw (← c.self.view_is) at c.in-Some.ensures in
    let within : c.in-Some.place < length c.self.inside.gateways.items =
    (at_place test change c.self.inside.gateways.items c.in-Some.place (sym p)).within in
    first_of (omega arith, search rules, grind (arith, common_steps, within))

pub returns-in-Some : goal.returns-in-Some
returns-in-Some g c =
    let test : Mast → Bool = λ m. m.id == c.args.id in
    let change : Mast → Option Mast = sent c.args.ask in
    let wrap : List Mast → Journal = λ l. record { gateways = l; devices = c.self.inside.devices.items } in
    let p = rw (← c.self.view_is) at c.in-Some.ensures in
    rw (← c.self.view_is)
    (stepped test wrap change c.self.inside.gateways.items c.in-Some.place c.index_mut.result.now c.book.new.self _ (sym p)
    c.index_mut.ensures.value c.book.ensures)

pub returns-in-None : goal.returns-in-None
returns-in-None g c =
    let test : Mast → Bool = λ m. m.id == c.args.id in
    let change : Mast → Option Mast = sent c.args.ask in
    let wrap : List Mast → Journal = λ l. record c.args.self.now { gateways = l } in
    not_stepped test wrap change c.args.self.now.gateways c.args.self.now _ (sym c.in-None.ensures) refl

use Rattle.std.proofs.Common.{◌==◌, ◌<◌, length, arith, rules, Bool, List, Option, sym, refl}
use Rattle.std.proofs.lemmas.Grind.{common_steps}
use Rattle.serve_journal.specs.Journal.{Journal, Node, queued}
use Rattle.serve_journal.proofs.ChangedLemmas.{at_place, stepped, not_stepped}
use Rattle.serve_journal.proofs.state.JournalState.push.Goals as goal

pub index_mut-requires : goal.index_mut-requires
index_mut-requires g c =
    let test : Node → Bool = λ n. n.addr == c.args.addr in
    let change : Node → Option Node = queued c.args.payload in
    let p = rw (← c.self.view_is) at c.in-Some.ensures in
    let within : c.in-Some.place < length c.self.inside.devices.items =
    (at_place test change c.self.inside.devices.items c.in-Some.place (sym p)).within in
    first_of (omega arith, search rules, grind (arith, common_steps, within))

pub returns-in-Some : goal.returns-in-Some
returns-in-Some g c =
    let test : Node → Bool = λ n. n.addr == c.args.addr in
    let change : Node → Option Node = queued c.args.payload in
    let wrap : List Node → Journal = λ l. record { devices = l; gateways = c.self.inside.gateways.items } in
    let p = rw (← c.self.view_is) at c.in-Some.ensures in
    rw (← c.self.view_is)
    (stepped test wrap change c.self.inside.devices.items c.in-Some.place c.index_mut.result.now c.push.new.self _ (sym p)
    c.index_mut.ensures.value c.push.ensures)

pub returns-in-None : goal.returns-in-None
returns-in-None g c =
    let test : Node → Bool = λ n. n.addr == c.args.addr in
    let change : Node → Option Node = queued c.args.payload in
    let wrap : List Node → Journal = λ l. record c.args.self.now { devices = l } in
    not_stepped test wrap change c.args.self.now.devices c.args.self.now _ (sym c.in-None.ensures) refl

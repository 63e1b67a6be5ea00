use Rattle.std.proofs.Common.{◌<◌, length, sym, ◌∙◌, arith}
use Rattle.serve_opening.specs.Gateways.{has_eui}
use Rattle.serve_opening.proofs.Firsts.{first_taken, none_taken}
use Rattle.serve_opening.proofs.gateway.take_named.Goals as goal

pub remove-requires : goal.remove-requires
remove-requires g c =
    let at = sym (rw c.deref.ensures.value at c.in-Some.ensures) in
    let within : c.in-Some.place < length c.args.known.now.items =
    (first_taken (has_eui c.args.eui.now) c.args.known.now.items c.in-Some.place at).within in
    omega arith

pub returns-in-Some : goal.returns-in-Some
returns-in-Some g c =
    let at = sym (rw c.deref.ensures.value at c.in-Some.ensures) in
    let taken = first_taken (has_eui c.args.eui.now) c.args.known.now.items c.in-Some.place at in
    record { taken = sym (taken.found _ c.remove.ensures.value); rest = c.remove.ensures.items ∙ taken.rest }

pub returns-in-None : goal.returns-in-None
returns-in-None g c =
    let at = sym (rw c.deref.ensures.value at c.in-None.ensures) in
    let none = none_taken (has_eui c.args.eui.now) 0 c.args.known.now.items at in
    record { taken = sym none.0; rest = sym none.1 }

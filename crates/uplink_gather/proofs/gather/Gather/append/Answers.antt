use Rattle.std.proofs.Common.{◌≡◌, ◌+◌, length, refl, arith}
use Rattle.uplink_gather.proofs.CallLemmas.{whole_append, append_looks}
use Rattle.uplink_gather.proofs.gather.Gather.append.Goals as goal

pub invariant_of-self-2 : goal.invariant_of-self-2
invariant_of-self-2 g c =
    let number : c.len.result + 1 ≡ length c.self.inside.stored.items + 1 =
    omega (arith, c.len.ensures, c.self.inside.stored.ok.0) in
    whole_append _ _ _ _ c.self.invariant _ c.self.view_is c.renew.new.self c.args.bytes.now
    (c.len.result + 1) _ c.in_ok-text.ensures.renewed c.push_reserved.new.self.items
    (rw c.reserve.ensures.items at c.push_reserved.ensures.items) c.push_reserved-2.new.self.items number c.requires refl
    (rw c.reserve-2.ensures.items at c.push_reserved-2.ensures.items)

pub returns-clause-opened : goal.returns-clause-opened
returns-clause-opened g c =
    append_looks _ _ _ _ c.self.invariant _ c.self.view_is c.renew.new.self c.args.bytes.now
    (c.len.result + 1) _ c.in_ok-text.ensures.renewed c.push_reserved.new.self.items
    (rw c.reserve.ensures.items at c.push_reserved.ensures.items) c.args.copy c.args.arrived refl refl
    c.in_ok-copies.ensures.items

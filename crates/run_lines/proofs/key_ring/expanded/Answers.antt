use Rattle.std.proofs.Common.{nat_eq, Some, get_or, take, ◌+◌, sym, subst}
use Rattle.indexmap.specs.IndexMap.{Updates}
use Rattle.run_lines.specs.KeyRing.{KeepsKeys}
use Rattle.run_lines.proofs.KeyLemmas.{keys_there, keys_more, none_found, some_found}
use Rattle.run_lines.proofs.key_ring.expanded.Goals as goal
use Rattle.run_lines.proofs.key_ring.expanded.Goals.{then-is_none+in_ok-insert, else-is_none}

pub loop-device-preserved : goal.loop-device-preserved
loop-device-preserved c =
    let at = c.loop-device.device-index in
    let devices = c.args.devices.now in
    let keys = c.loop-device.keys in
    elim c.if-is_none.branch [
      | then-is_none+in_ok-insert w ↦
          let none = none_found c.get.result _ c.is_none.result c.get.ensures.value c.is_none.ensures w.if-is_none.true in
          let updates = subst (λ k. Updates nat_eq keys w.insert.new.self (get_or devices at _).addr (Some k)) w.keys_of.ensures
          w.in_ok-insert.ensures.updates in
          subst (KeepsKeys (take (at + 1) devices)) (sym w.keys-is)
          (keys_more devices at _ c.loop-device-test.true keys c.loop-device.invariant w.insert.new.self none updates)
      | else-is_none w ↦
          let found = some_found c.get.result _ c.is_none.result c.get.ensures.value c.is_none.ensures w.if-is_none.false in
          subst (KeepsKeys (take (at + 1) devices)) (sym w.keys-is)
          (keys_there devices at _ c.loop-device-test.true keys c.loop-device.invariant found.0 found.1)
    ]

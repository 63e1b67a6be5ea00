use Rattle.server_desk.proofs.Words.{arith}
use Rattle.server_desk.proofs.OpeningLemmas.{opened_holds, opened_desk}
use Rattle.server_desk.proofs.AirtimeLemmas.{first_airtimes}
use Rattle.server_desk.proofs.desk.Desk.new.Goals as goal

pub invariant_of-result : goal.invariant_of-result
invariant_of-result g c =
    let shown = rw c.devices.ensures.list at c.in_ok-devices.ensures.shown in (
      rw (c.in_ok-addrs.ensures, c.devices-2.ensures.list, c.in_ok-gather.ensures, c.new-2.ensures.items, c.new-3.ensures.items)
          (opened_holds c.args.settings.now c.args.limits _ shown c.devices.ensures.kept c.in_ok-devices.ensures.none_out),
      rw (
        c.in_ok-gateways.ensures,
        c.in_ok-answered.ensures,
        c.gateways.ensures.list,
        c.gateways-2.ensures.list,
        c.in_ok-gather.ensures,
        c.new-3.ensures.items,
      ) (first_airtimes _ _ c.devices.ensures.kept.ids_differ (omega (arith, c.if-prove))),
    )

pub returns : goal.returns
returns g c =
    let shown = rw c.devices.ensures.list at c.in_ok-devices.ensures.shown in
    rw (c.in_ok-gateways.ensures, c.gateways.ensures.list, c.in_ok-gather.ensures, c.new-2.ensures.items, c.new-3.ensures.items)
    (opened_desk c.args.settings.now c.args.limits _ shown)

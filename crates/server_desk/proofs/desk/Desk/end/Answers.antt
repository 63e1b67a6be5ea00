use Rattle.server_desk.proofs.Words.{sym, arith, slice_get_within, Pending, Done, refl, sent_of}
use Rattle.server_desk.proofs.Numbers.{at_number}
use Rattle.server_desk.proofs.TakeLemmas.{at_here}
use Rattle.server_desk.proofs.AirtimeLemmas.{can_raise, short_ending, set_airtimes, booked_here}
use Rattle.server_desk.proofs.AirtimeSums.{sum_set, settled_sum, within_limit}
use Rattle.server_desk.proofs.SettleLemmas.{its_uplink, settled_holds, settled_here, is_out}
use Rattle.server_desk.proofs.desk.Desk.end.Goals as goal

pub invariant_of-self : goal.invariant_of-self
invariant_of-self g c =
    let out = is_out _ _ c.args.outcome.now.number c.args.outcome.now.result (rw (← c.self.view_is) at c.requires.out) in
    let uplink = its_uplink _ _ _ _ _ c.self.invariant.0 c.args.outcome.now.number out.0 _ c.index.ensures in
    let at = at_here _ _ _ _ _ c.self.invariant.0 c.args.outcome.now.number _ uplink _ c.index_mut.ensures.value in (
      settled_holds _ _ _ _ _ c.self.invariant.0 c.args.outcome.now.number out.0 _ uplink _ _ at c.has_carried.result
          c.settle.ensures.shown c.sent_of-sent.result c.settle.ensures.out c.settle.ensures.setting,
      rw (c.raise.ensures, c.deref.ensures.value, c.sent_of-sent.ensures)
          (set_airtimes _ _ _ _ c.self.invariant.1 c.args.outcome.now.number Pending (Done _) out.0 (λ id. refl)
          (booked_here _ c.args.outcome.now.result out.1) (short_ending c.args.outcome.now.result c.requires.short)),
    )

pub returns-clause-step : goal.returns-clause-step
returns-clause-step g c =
    let out = is_out _ _ c.args.outcome.now.number c.args.outcome.now.result (rw (← c.self.view_is) at c.requires.out) in
    let uplink = its_uplink _ _ _ _ _ c.self.invariant.0 c.args.outcome.now.number out.0 _ c.index.ensures in
    let at = at_here _ _ _ _ _ c.self.invariant.0 c.args.outcome.now.number _ uplink _ c.index_mut.ensures.value in
    rw (← c.self.view_is, c.sent_of-sent.ensures)
    (settled_here _ _ _ _ _ c.self.invariant.0 c.args.outcome.now.number out.0 _ uplink _ _ at c.has_carried.result
    c.settle.ensures.shown _ c.args.outcome.now.result (sym c.has_carried.ensures))

pub raise-requires : goal.raise-requires
raise-requires g c =
    rw (c.deref.ensures.value, c.sent_of-sent.ensures)
    (can_raise _ _ _ _ _ c.self.invariant.1 (short_ending c.args.outcome.now.result c.requires.short))

pub index_mut-requires-2 : goal.index_mut-requires-2
index_mut-requires-2 g c =
    let out = is_out _ _ c.args.outcome.now.number c.args.outcome.now.result (rw (← c.self.view_is) at c.requires.out) in
    let there = at_number c.args.outcome.now.number c.self.inside.known.items Pending out.0 in
    omega (arith, slice_get_within c.self.inside.known.items _ Pending there, c.self.inside.known.ok.0)

pub returns-clause-total : goal.returns-clause-total
returns-clause-total g c =
    let out = is_out _ _ c.args.outcome.now.number c.args.outcome.now.result (rw (← c.self.view_is) at c.requires.out) in
    let at = at_number c.args.outcome.now.number c.self.inside.known.items Pending out.0 in
    rw (← c.self.view_is, c.sent_of-sent.ensures)
    (omega (arith, sum_set settled_sum c.self.inside.known.items _ Pending (Done (sent_of c.args.outcome.now.result)) at))

pub returns-clause-limit : goal.returns-clause-limit
returns-clause-limit g c =
    let out = is_out _ _ c.args.outcome.now.number c.args.outcome.now.result (rw (← c.self.view_is) at c.requires.out) in
    rw c.sent_of-sent.ensures (within_limit _ _ _ _
    (set_airtimes _ _ _ _ c.self.invariant.1 c.args.outcome.now.number Pending (Done _) out.0 (λ id. refl)
    (booked_here _ c.args.outcome.now.result out.1) (short_ending c.args.outcome.now.result c.requires.short)))

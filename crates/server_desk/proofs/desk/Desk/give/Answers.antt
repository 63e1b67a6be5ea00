use Rattle.server_desk.proofs.Words.{NotGiven, Pending, arith, refl}
use Rattle.server_desk.proofs.TakeLemmas.{at_here, given_holds, given_here}
use Rattle.server_desk.proofs.AirtimeLemmas.{set_airtimes}
use Rattle.server_desk.proofs.desk.Desk.give.Goals as goal

pub invariant_of-self : goal.invariant_of-self
invariant_of-self g c =
    let ready = rw (← c.self.view_is) at c.requires in
    let at = at_here _ _ _ _ _ c.self.invariant.0 c.args.n _ ready.uplink _ c.index_mut.ensures.value in (
      given_holds _ _ _ _ _ c.self.invariant.0 c.args.n _ ready.uplink _ at ready _ c.give.ensures.shown c.give.ensures.out,
      set_airtimes _ _ _ _ c.self.invariant.1 c.args.n NotGiven Pending ready.waits (λ id. refl) refl (omega arith),
    )

pub returns : goal.returns
returns g c =
    let ready = rw (← c.self.view_is) at c.requires in
    let at = at_here _ _ _ _ _ c.self.invariant.0 c.args.n _ ready.uplink _ c.index_mut.ensures.value in
    rw (← c.self.view_is)
    (given_here _ _ _ _ _ c.self.invariant.0 c.args.n _ ready.uplink _ at ready _ c.give.ensures.shown
    c.self.inside.gateways.items)

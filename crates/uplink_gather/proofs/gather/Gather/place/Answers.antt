use Rattle.std.proofs.Common.{sym, ◌∙◌, arith}
use Rattle.uplink_gather.proofs.CallLemmas.{number_within, place_found}
use Rattle.uplink_gather.proofs.gather.Gather.place.Goals as goal

pub index_of-requires : goal.index_of-requires
index_of-requires g c =
    (number_within _ _ _ _ c.self.invariant c.args.self.now c.self.view_is c.args.bytes.now c.in-Some.n
    (sym c.number_of.ensures ∙ c.in-Some.is)).0

pub index-requires : goal.index-requires
index-requires g c =
    omega (
      arith,
      (number_within _ _ _ _ c.self.invariant c.args.self.now c.self.view_is c.args.bytes.now c.in-Some.n
          (sym c.number_of.ensures ∙ c.in-Some.is)).1,
      c.self.inside.stored.ok.0,
      c.index_of.ensures,
    )

pub returns-in-Some : goal.returns-in-Some
returns-in-Some g c =
    c.place_by.ensures
    ∙ place_found _ _ _ _ c.self.invariant c.args.self.now c.self.view_is c.args.bytes.now c.in-Some.n c.args.gateway
    c.args.arrived c.index.result.now (sym c.number_of.ensures ∙ c.in-Some.is)
    (rw c.index_of.ensures at c.index.ensures)

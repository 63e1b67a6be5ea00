use Rattle.air_ledger.proofs.TillLemmas.{within, gathered-last, gathered-on, fits-on}
use Rattle.air_ledger.proofs.till.Till.gather.Goals as goal

pub loop-till-init : goal.loop-till-init
loop-till-init g c = (
  gathered-last _ _ _ c.in-Some.ensures.items,
  within _ _ _ c.as_slice.ensures.value c.parts_together.ensures c.if-is_none.ensures,
)

pub join-requires : goal.join-requires
join-requires g c = fits-on _ _ _ _ _ c.loop-till.invariant.0 c.in-Some-pop.ensures.items c.loop-till.invariant.1

pub loop-till-preserved : goal.loop-till-preserved
loop-till-preserved g c = (
  gathered-on _ _ _ _ _ _ c.loop-till.invariant.0 c.in-Some-pop.ensures.items c.join.ensures,
  c.loop-till.invariant.1,
)

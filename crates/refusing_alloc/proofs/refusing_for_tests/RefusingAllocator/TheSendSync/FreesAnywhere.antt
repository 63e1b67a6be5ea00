-- A block may go back to the allocator from any thread, if it may to the inner one.
use mir.Syntax.{Ty, Dict}
use base.Shift.{Keyless}
use denote.RattleType.{RattleType}
use denote.RawPtr.{Ptr}
use denote.Param.Send.{Frees}
use Rattle.std.specs.declared.alloc.Allocator.{Ghosts}
use Rattle.refusing_alloc.specs.contracts.refusing_for_tests.Refusing as W
use Rattle.refusing_alloc.specs.contracts.refusing_for_tests.RefusingAllocator.TheImpl.{ghosts}

module _ (A : RattleType) (g : Ghosts A.Denot) where
  keyless : Frees g g.dealloc_token → (h : (W.the_row A).Denot) (τ : Ty) (p : Ptr) → Keyless (g.dealloc_token h.inner τ p)
  keyless f h τ p = f.frees h.inner τ p

  pub frees : (d e : Dict) → Frees g g.dealloc_token → Frees (ghosts A g d e) (ghosts A g d e).dealloc_token
  frees d e f = record { frees = keyless f }

-- A tree may be sent to another thread where its allocator may. A node reaches itself, so a search alone finds this of a tree
-- that stands by itself, but not of one in another struct's field.
use denote.RattleType.{RattleType}
use denote.Param.Send.{IsSend, Frees, sendable}
use denote.Param.SendFields.{as_row_send, declared_send}
use Rattle.std.proofs.Crossing.{crosses}
use Rattle.std.proofs.CrossingOver as over
use Rattle.std.specs.contracts.boxed.Box as Box
use Rattle.std.specs.contracts.option.Option as Option
use Rattle.std.specs.declared.alloc.Allocator as Allocator
use Rattle.std.specs.declared.clone.Clone as Clone
use Rattle.resv_tree.proofs.node.Node.TheLaws.TheKnot as knot
use Rattle.resv_tree.specs.contracts.kept.Kept as Kept
use Rattle.resv_tree.specs.contracts.node.Node as Node
use Rattle.resv_tree.specs.contracts.sums.Sums as Sums
use Rattle.resv_tree.specs.contracts.tree_roster.TreeRoster as TreeRoster

-- what a node keeps in numbers
sums : IsSend (Sums.the_field).row
sums = search sendable depth 20

kept : IsSend (Kept.the_field).row
kept = search (sendable, sums) depth 20

module _ (A : RattleType) (g : Allocator.Ghosts A.Denot) (sent : IsSend A) (frees : Frees g g.dealloc_token) where
  link : (T : RattleType) → IsSend T → IsSend (Option.the_row (Box.the_row T A g))
  link T s = search (sendable, crosses, over.crosses) depth 20

  node : IsSend (Node.the_row A g)
  node = as_row_send (Node.the_field A g)
      (knot.send-Node A g link (search sendable depth 20) kept)

  -- its root, and its allocator
  pub roster_send : (c : Clone.Ghosts A.Denot) → IsSend (TreeRoster.the_row A c g)
  roster_send c = declared_send (TreeRoster.the_type A c g) (link (Node.the_row A g) node, (search sendable depth 20, tt))

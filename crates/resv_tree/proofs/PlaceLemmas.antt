use Rattle.std.specs.Prelude.{◌≡◌, ◌+◌, ◌-◌, ◌<◌, ◌≤◌, max, ℕ, Option, Some, Box}
use Rattle.std.proofs.Common.{arith, ap, ◌∙◌, subst, sym}
use Rattle.radio_bands.specs.declared.band.Band.{Band}
use Rattle.resv_tree.specs.declared.node.Node.{Node, out-Node, roll-Node}
use Rattle.resv_tree.specs.declared.entry.Entry.{Entry}
use Rattle.resv_tree.specs.Entries.{amount}
use Rattle.resv_tree.specs.Shape.{Shape, shape, shape_of, entry_of, kept_of, left_of, right_of}
use Rattle.resv_tree.specs.Parts.{IsMadeOf}
use Rattle.resv_tree.proofs.ShapeLemmas.{left_of-roll, right_of-roll, entry_of-roll, kept_of-roll}

-- Nodes whose sides change in their place.

-- an entry's own hour has room for more
pub moves_fit : (more less : Band → ℕ) (e f : Entry) → f ≡ e → e.own + amount more e.reservation < 4294967296
    → f.own - amount less f.reservation + amount more f.reservation ≤ max (amount more f.reservation) 4294967295
moves_fit more less e f same h =
    subst (λ (x : Entry). x.own - amount less x.reservation + amount more x.reservation
    ≤ max (amount more x.reservation) 4294967295) (sym same) (omega (arith, h))

module _ {A : Type 0} where
  -- what a tree behind a link is made of is what its node is
  pub made-behind : (link : Option (Box (Node A) A)) (b : Box (Node A) A) (n : Node A) {l r : Shape} {e : Entry}
      → link ≡ Some b → n ≡ b.value → IsMadeOf (shape n) l e r → IsMadeOf (shape_of link) l e r
  made-behind link b n {l} {r} {e} is same made =
      subst (λ s. IsMadeOf s l e r) (ap shape same ∙ sym (ap shape_of is)) made

  -- the node with another side
  abbrev pub left_set : Node A → Option (Box (Node A) A) → Node A
  left_set n s =
      roll-Node A record {
        left = s;
        entry = (out-Node A n).entry;
        right = (out-Node A n).right;
        kept = (out-Node A n).kept;
      }

  abbrev pub right_set : Node A → Option (Box (Node A) A) → Node A
  right_set n s =
      roll-Node A record {
        left = (out-Node A n).left;
        entry = (out-Node A n).entry;
        right = s;
        kept = (out-Node A n).kept;
      }

  module _ (n : Node A) (s : Option (Box (Node A) A)) where
    pub left_set-left : left_of (left_set n s) ≡ shape_of s
    left_set-left = ap shape_of (left_of-roll s (out-Node A n).right (entry_of n) (kept_of n))

    pub left_set-right : right_of (left_set n s) ≡ right_of n
    left_set-right = ap shape_of (right_of-roll s (out-Node A n).right (entry_of n) (kept_of n))

    pub left_set-entry : entry_of (left_set n s) ≡ entry_of n
    left_set-entry = entry_of-roll s (out-Node A n).right (entry_of n) (kept_of n)

    pub left_set-kept : kept_of (left_set n s) ≡ kept_of n
    left_set-kept = kept_of-roll s (out-Node A n).right (entry_of n) (kept_of n)

    pub right_set-left : left_of (right_set n s) ≡ left_of n
    right_set-left = ap shape_of (left_of-roll (out-Node A n).left s (entry_of n) (kept_of n))

    pub right_set-right : right_of (right_set n s) ≡ shape_of s
    right_set-right = ap shape_of (right_of-roll (out-Node A n).left s (entry_of n) (kept_of n))

    pub right_set-entry : entry_of (right_set n s) ≡ entry_of n
    right_set-entry = entry_of-roll (out-Node A n).left s (entry_of n) (kept_of n)

    pub right_set-kept : kept_of (right_set n s) ≡ kept_of n
    right_set-kept = kept_of-roll (out-Node A n).left s (entry_of n) (kept_of n)

use Rattle.std.specs.Prelude.{◌≡◌, ◌*◌, ◌≤◌, Option, Some, None, Box}
use Rattle.std.proofs.Common.{refl, arith, ap, ◌∙◌, subst, sym}
use Rattle.radio_bands.specs.declared.band.Band.{Band}
use Rattle.resv_tree.specs.declared.node.Node.{Node, Node', None', Some', out-Node, roll-Node}
use Rattle.resv_tree.specs.declared.kept.Kept.{Kept}
use Rattle.resv_tree.specs.declared.entry.Entry.{Entry}
use Rattle.resv_tree.specs.Shape.{Shape, Leaf, Fork, shape, shape_of, entry_of, kept_of, height_of, count_of, kept_sum}
use Rattle.resv_tree.specs.Shape.{left_of, right_of, IsWhole, IsKept, TellsOf, IsBeside, HasSides}
use Rattle.resv_list.specs.Reservations.{airtime_in}
use Rattle.resv_tree.specs.Parts.{IsSeenAs, IsOwing}

-- Whole trees, and nodes as the program sees them.

-- a tree has at least as many entries as levels
pub count_bounds_height : (t : Shape) → IsWhole t → height_of t ≤ count_of t
count_bounds_height Leaf w = omega arith
count_bounds_height (Fork l e r k) w =
    omega (arith, count_bounds_height l w.0, count_bounds_height r w.1, w.2.height, w.2.count)

-- a sum is bounded by the count
pub count_bounds_sum : (t : Shape) (band : Band) → IsWhole t → kept_sum t band ≤ 4194304 * count_of t
count_bounds_sum Leaf band w = omega arith
count_bounds_sum (Fork l e r k) band w = w.2.short band

-- a whole tree is seen as its sides and its entry
seen_as-Fork : (t l r : Shape) (e : Entry) (k : Kept) → t ≡ Fork l e r k → IsWhole t → IsSeenAs t l e r
seen_as-Fork t l r e k is w =
    let f : IsWhole (Fork l e r k) = subst IsWhole is w in
    subst (λ s. IsSeenAs s l e r) (sym is) record {
      members = refl;
      count = f.2.count;
      height = f.2.height;
      left = f.0;
      right = f.1;
    }

-- and owes them what it keeps above theirs
owing-Fork : (t l r : Shape) (e : Entry) (k : Kept) → t ≡ Fork l e r k → IsWhole t → IsOwing t l e r
owing-Fork t l r e k is w =
    let f : IsWhole (Fork l e r k) = subst IsWhole is w in
    subst (λ s. IsOwing s l e r) (sym is) record {
      covered = f.2.covered;
      entries = refl;
      height = f.2.height;
      left = f.0;
      right = f.1;
    }

-- what is told of a side, beside the other one
pub beside_left : {l r : Shape} {e : Entry} {k other : Kept} → IsKept l e r k → TellsOf other l → IsBeside k r e other
beside_left kept tells = record {
  count = omega (arith, kept.count, tells.count);
  sums = λ band. omega (arith, kept.sums band, tells.sums band);
}

pub beside_right : {l r : Shape} {e : Entry} {k other : Kept} → IsKept l e r k → TellsOf other r → IsBeside k l e other
beside_right kept tells = record {
  count = omega (arith, kept.count, tells.count);
  sums = λ band. omega (arith, kept.sums band, tells.sums band);
}

pub ruleset beside = (beside_left, beside_right)

module _ {A : Type 0} where
  -- the tree of a node that is taken apart
  pub shape-out : (n : Node A)
      → shape n ≡ Fork (shape_of (out-Node A n).left) (out-Node A n).entry (shape_of (out-Node A n).right)
      (kept_of n)
  unfolding out-Node denote.Hole.Carrier.out
  shape-out (Node' None' e None' k) = refl
  shape-out (Node' None' e (Some' q r) k) = refl
  shape-out (Node' (Some' p l) e None' k) = refl
  shape-out (Node' (Some' p l) e (Some' q r) k) = refl

  -- the tree of a node that is made
  pub shape-roll : (l r : Option (Box (Node A) A)) (e : Entry) (k : Kept)
      → shape (roll-Node A record { left = l; entry = e; right = r; kept = k })
      ≡ Fork (shape_of l) e (shape_of r) k
  unfolding roll-Node denote.Hole.Carrier.roll
  shape-roll None None e k = refl
  shape-roll None (Some q) e k = refl
  shape-roll (Some p) None e k = refl
  shape-roll (Some p) (Some q) e k = refl

  -- its entry
  pub entry_of-roll : (l r : Option (Box (Node A) A)) (e : Entry) (k : Kept)
      → entry_of (roll-Node A record { left = l; entry = e; right = r; kept = k }) ≡ e
  unfolding roll-Node denote.Hole.Carrier.roll out-Node denote.Hole.Carrier.out
  entry_of-roll None None e k = refl
  entry_of-roll None (Some q) e k = refl
  entry_of-roll (Some p) None e k = refl
  entry_of-roll (Some p) (Some q) e k = refl

  -- what it keeps
  pub kept_of-roll : (l r : Option (Box (Node A) A)) (e : Entry) (k : Kept)
      → kept_of (roll-Node A record { left = l; entry = e; right = r; kept = k }) ≡ k
  unfolding roll-Node denote.Hole.Carrier.roll out-Node denote.Hole.Carrier.out
  kept_of-roll None None e k = refl
  kept_of-roll None (Some q) e k = refl
  kept_of-roll (Some p) None e k = refl
  kept_of-roll (Some p) (Some q) e k = refl

  -- what stands to its left
  pub left_of-roll : (l r : Option (Box (Node A) A)) (e : Entry) (k : Kept)
      → (out-Node A (roll-Node A record { left = l; entry = e; right = r; kept = k })).left ≡ l
  unfolding roll-Node denote.Hole.Carrier.roll out-Node denote.Hole.Carrier.out
  left_of-roll None None e k = refl
  left_of-roll None (Some q) e k = refl
  left_of-roll (Some p) None e k = refl
  left_of-roll (Some p) (Some q) e k = refl

  -- a node that is made has the parts that it is made of
  pub out-roll : (l r : Option (Box (Node A) A)) (e : Entry) (k : Kept)
      → out-Node A (roll-Node A record { left = l; entry = e; right = r; kept = k })
      ≡ record { left = l; entry = e; right = r; kept = k }
  unfolding roll-Node denote.Hole.Carrier.roll out-Node denote.Hole.Carrier.out
  out-roll None None e k = refl
  out-roll None (Some q) e k = refl
  out-roll (Some p) None e k = refl
  out-roll (Some p) (Some q) e k = refl

  -- what holds of a whole node's parts
  pub whole-out : (n : Node A) → IsWhole (shape n)
      → IsWhole (left_of n) × IsWhole (right_of n) × IsKept (left_of n) (entry_of n) (right_of n) (kept_of n)
  whole-out n w = subst IsWhole (shape-out n) w

  -- and what stands to its right
  pub right_of-roll : (l r : Option (Box (Node A) A)) (e : Entry) (k : Kept)
      → (out-Node A (roll-Node A record { left = l; entry = e; right = r; kept = k })).right ≡ r
  unfolding roll-Node denote.Hole.Carrier.roll out-Node denote.Hole.Carrier.out
  right_of-roll None None e k = refl
  right_of-roll None (Some q) e k = refl
  right_of-roll (Some p) None e k = refl
  right_of-roll (Some p) (Some q) e k = refl

  -- a whole tree is seen as what its top node holds
  pub seen_as-out : (n : Node A) (l r : Option (Box (Node A) A)) (e : Entry) → l ≡ (out-Node A n).left
      → e ≡ (out-Node A n).entry → r ≡ (out-Node A n).right → IsWhole (shape n) → IsSeenAs (shape n) (shape_of l) e (shape_of r)
  seen_as-out n l r e left entry right w = rw (left, entry, right) (seen_as-Fork _ _ _ _ _ (shape-out n) w)

  pub owing-out : (n : Node A) (l r : Option (Box (Node A) A)) (e : Entry) → l ≡ (out-Node A n).left
      → e ≡ (out-Node A n).entry → r ≡ (out-Node A n).right → IsWhole (shape n) → IsOwing (shape n) (shape_of l) e (shape_of r)
  owing-out n l r e left entry right w = rw (left, entry, right) (owing-Fork _ _ _ _ _ (shape-out n) w)

  -- and it is what that node holds
  pub shape-taken : (n : Node A) (l r : Option (Box (Node A) A)) (e : Entry) (k : Kept) → l ≡ (out-Node A n).left
      → e ≡ (out-Node A n).entry → r ≡ (out-Node A n).right → k ≡ kept_of n → shape n ≡ Fork (shape_of l) e (shape_of r) k
  shape-taken n l r e k left entry right kept = rw (left, entry, right, kept) (shape-out n)

-- sides that are as high as those that a node is kept of, and have as many members and as much airtime
pub has_sides : (l r m s : Shape) (e f : Entry) (k j : Kept) → IsKept l e r k → j ≡ k → e.reservation ≡ f.reservation
    → height_of m ≡ height_of l → count_of m ≡ count_of l → ((band : Band) → kept_sum m band ≡ kept_sum l band)
    → height_of s ≡ height_of r → count_of s ≡ count_of r → ((band : Band) → kept_sum s band ≡ kept_sum r band)
    → HasSides j m f s
has_sides l r m s e f k j is same member mh mc ms sh sc ss =
    subst (λ x. HasSides x m f s) (sym same) (record {
      level = (omega (arith, is.level.0, mh, sh), omega (arith, is.level.1, mh, sh));
      height = omega (arith, is.height, mh, sh);
      left_height = is.left_height ∙ sym mh;
      right_height = is.right_height ∙ sym sh;
      count = omega (arith, is.count, mc, sc);
      sums = λ band. omega (arith, is.sums band, ap (airtime_in band) member, ms band, ss band);
      short = is.short;
    })

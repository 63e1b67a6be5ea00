use Rattle.std.specs.Prelude.{ℕ, ◌≡◌, ◌+◌, ◌*◌, ◌≤◌, max, List, [], ◌∷◌, ◌++◌, Option, Some, None, Box, ⊤, map, false}
use Rattle.std.specs.Coded.{Unit-prop, le_prop, Coded-set, coded_ℕ}
use Rattle.radio_bands.specs.declared.band.Band.{Band}
use Rattle.resv_list.specs.declared.reservation.Reservation.{Reservation}
use Rattle.resv_list.specs.Reservations.{airtime_in}
use Rattle.resv_tree.specs.declared.node.Node.{Node, Node', Held-Node-left, None', Some', out-Node}
use Rattle.resv_tree.specs.declared.kept.Kept.{Kept}
use Rattle.resv_tree.specs.declared.entry.Entry.{Entry}
use Rattle.resv_tree.specs.Entries.{moved, CanMove, own_in, Each, Each-prop}
use Rattle.resv_tree.specs.Sums.{sum_in, quarters_in}

-- Trees without their boxes, and what holds of them.

-- nothing, or what stands to the left, an entry, and what stands to the right, with what the node keeps
pub data Shape : Type 0 where
  Leaf : Shape
  Fork : Shape → Entry → Shape → Kept → Shape

-- the tree of which a node is the top
abbrev mutual
  pub shape : {A : _} → Node A → Shape
  shape (Node' l e r k) = Fork (shape_behind l) e (shape_behind r) k

  pub shape_behind : {A : _} → Held-Node-left A → Shape
  shape_behind None' = Leaf
  shape_behind (Some' p n) = shape n

-- the tree that a link leads to
abbrev pub shape_of : {A : _} → Option (Box (Node A) A) → Shape
shape_of None = Leaf
shape_of (Some b) = shape b.value

-- the entry of a node
abbrev pub entry_of : {A : Type 0} → Node A → Entry
entry_of n = (out-Node _ n).entry

-- the trees on its two sides
abbrev pub left_of : {A : Type 0} → Node A → Shape
left_of n = shape_of (out-Node _ n).left

-- what stands to the right of a node
abbrev pub right_of : {A : Type 0} → Node A → Shape
right_of n = shape_of (out-Node _ n).right

-- the greatest own hour that is kept for a sub-band, in quarters of the shortest symbol; of nothing 0
abbrev pub greatest_of : Shape → Band → ℕ
greatest_of Leaf band = 0
greatest_of (Fork l e r k) band = quarters_in k.greatest band

-- the greatest of an entry's own hour and of what the sides about it keep
abbrev pub top_of : Shape → Entry → Shape → Band → ℕ
top_of l e r band = max (own_in band e) (max (greatest_of l band) (greatest_of r band))

-- the entries from left to right: each has what the nodes above owe it, which is so much as their greatest is above what
-- stands below them
abbrev pub entries : Shape → List Entry
entries Leaf = []
entries (Fork l e r k) = map (moved (quarters_in k.greatest) (top_of l e r)) (entries l ++ e ∷ entries r)

-- the members from left to right
abbrev pub members_of : Shape → List Reservation
members_of Leaf = []
members_of (Fork l e r k) = members_of l ++ e.reservation ∷ members_of r

-- the height that is kept; of nothing 0
abbrev pub height_of : Shape → ℕ
height_of Leaf = 0
height_of (Fork l e r k) = k.height

-- the count that is kept; of nothing 0
abbrev pub count_of : Shape → ℕ
count_of Leaf = 0
count_of (Fork l e r k) = k.count

-- the sum that is kept for a sub-band, in microseconds; of nothing 0
abbrev pub kept_sum : Shape → Band → ℕ
kept_sum Leaf band = 0
kept_sum (Fork l e r k) band = sum_in k.sums band

-- what a node keeps
abbrev pub kept_of : {A : Type 0} → Node A → Kept
kept_of n = (out-Node _ n).kept

-- neither is more than one level higher than the other
abbrev pub IsLevel : Shape → Shape → Type 0
IsLevel l r = (height_of l ≤ height_of r + 1) × (height_of r ≤ height_of l + 1)

-- the sides are level, and what the node keeps follows from what they keep; each sum has room for 2^22 microseconds a
-- member, which is longer than any transmission. What it owes can be handed down, and is nothing where it isn't said that it
-- owes.
pub record IsKept (l : Shape) (e : Entry) (r : Shape) (k : Kept) : Type 0 where
  pub level : IsLevel l r
  pub height : k.height ≡ max (height_of l) (height_of r) + 1
  pub left_height : k.left_height ≡ height_of l
  pub right_height : k.right_height ≡ height_of r
  pub count : k.count ≡ count_of l + count_of r + 1
  pub sums : (band : Band) → sum_in k.sums band ≡ kept_sum l band + airtime_in band e.reservation + kept_sum r band
  pub short : (band : Band) → sum_in k.sums band ≤ 4194304 * k.count
  pub idle : (band : Band) → sum_in k.sums band ≡ 0 → quarters_in k.greatest band ≡ 0
  pub settled : k.owes ≡ false → (band : Band) → quarters_in k.greatest band ≡ top_of l e r band
  pub covered : Each (CanMove (quarters_in k.greatest) (top_of l e r)) (entries l ++ e ∷ entries r)

-- what is told of a tree is what its top keeps, or of nothing
pub record TellsOf (k : Kept) (t : Shape) : Type 0 where
  pub height : k.height ≡ height_of t
  pub count : k.count ≡ count_of t
  pub sums : (band : Band) → sum_in k.sums band ≡ kept_sum t band
  pub greatest : (band : Band) → quarters_in k.greatest band ≡ greatest_of t band

-- what is kept of a tree that has this side, this entry, and a further side of which `other` tells
pub record IsBeside (k : Kept) (side : Shape) (e : Entry) (other : Kept) : Type 0 where
  pub count : k.count ≡ count_of side + other.count + 1
  pub sums : (band : Band) → sum_in k.sums band ≡ kept_sum side band + airtime_in band e.reservation + sum_in other.sums band

-- what is kept of a tree that has these sides and this entry, own hours aside
pub record HasSides (k : Kept) (l : Shape) (e : Entry) (r : Shape) : Type 0 where
  pub level : IsLevel l r
  pub height : k.height ≡ max (height_of l) (height_of r) + 1
  pub left_height : k.left_height ≡ height_of l
  pub right_height : k.right_height ≡ height_of r
  pub count : k.count ≡ count_of l + count_of r + 1
  pub sums : (band : Band) → sum_in k.sums band ≡ kept_sum l band + airtime_in band e.reservation + kept_sum r band
  pub short : (band : Band) → sum_in k.sums band ≤ 4194304 * k.count

-- so it is at each node
abbrev pub IsWhole : Shape → Type 0
IsWhole Leaf = ⊤
IsWhole (Fork l e r k) = IsWhole l × IsWhole r × IsKept l e r k

pub IsKept-prop : (l : Shape) (e : Entry) (r : Shape) (k : Kept) → IsProp (IsKept l e r k)
IsKept-prop l e r k =
    hlevel (
      le_prop,
      Coded-set coded_ℕ,
      Each-prop (CanMove (quarters_in k.greatest) (top_of l e r)) (λ x. le_prop) (entries l ++ e ∷ entries r),
    )

pub IsWhole-prop : (t : Shape) → IsProp (IsWhole t)
IsWhole-prop Leaf = Unit-prop
IsWhole-prop (Fork l e r k) = hlevel (IsWhole-prop l, IsWhole-prop r, IsKept-prop l e r k)

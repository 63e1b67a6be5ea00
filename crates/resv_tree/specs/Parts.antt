use Rattle.std.specs.Prelude.{ℕ, ◌≡◌, ◌+◌, ◌≤◌, max, map, ◌∷◌, ◌++◌, ◌-◌, ◌≢◌}
use Rattle.radio_bands.specs.declared.band.Band.{Band}
use Rattle.resv_list.specs.Reservations.{airtime_in}
use Rattle.resv_tree.specs.declared.kept.Kept.{Kept}
use Rattle.resv_tree.specs.declared.entry.Entry.{Entry}
use Rattle.resv_tree.specs.Entries.{moved, CanMove, Each}
use Rattle.resv_tree.specs.Shape.{Shape, entries, members_of, height_of, count_of, greatest_of, top_of, kept_sum, IsLevel}
use Rattle.resv_tree.specs.Shape.{IsWhole}
use Rattle.resv_tree.specs.Sums.{quarters_in, sum_in}

-- What a tree is made of.

-- the tree's top has these sides, which are whole and level, and this entry; nothing is owed to them
pub record IsMadeOf (t l : Shape) (e : Entry) (r : Shape) : Type 0 where
  pub entries : entries t ≡ entries l ++ e ∷ entries r
  pub count : count_of t ≡ count_of l + count_of r + 1
  pub height : height_of t ≡ max (height_of l) (height_of r) + 1
  pub greatest : (band : Band) → greatest_of t band ≡ top_of l e r band
  pub level : IsLevel l r
  pub left : IsWhole l
  pub right : IsWhole r

-- the tree's top holds these sides, which are whole, and this entry, to which it may owe something
pub record IsSeenAs (t l : Shape) (e : Entry) (r : Shape) : Type 0 where
  pub members : members_of t ≡ members_of l ++ e.reservation ∷ members_of r
  pub count : count_of t ≡ count_of l + count_of r + 1
  pub height : height_of t ≡ max (height_of l) (height_of r) + 1
  pub left : IsWhole l
  pub right : IsWhole r

-- the same with what it owes them
pub record IsOwing (t l : Shape) (e : Entry) (r : Shape) : Type 0 where
  pub covered : Each (CanMove (greatest_of t) (top_of l e r)) (entries l ++ e ∷ entries r)
  pub entries : entries t ≡ map (moved (greatest_of t) (top_of l e r)) (entries l ++ e ∷ entries r)
  pub height : height_of t ≡ max (height_of l) (height_of r) + 1
  pub left : IsWhole l
  pub right : IsWhole r

-- what is kept of a tree lacks one entry of those about its top: so much airtime, and so much in its own hour
pub record LacksOne (k : Kept) (l : Shape) (e : Entry) (r : Shape) (airtime own : Band → ℕ) : Type 0 where
  pub count : k.count ≡ count_of l + count_of r
  pub sums : (band : Band) → sum_in k.sums band + airtime band ≡ kept_sum l band + airtime_in band e.reservation + kept_sum r band
  pub greatest : (band : Band) → max (quarters_in k.greatest band) (own band) ≡ top_of l e r band

-- the tree is whole and has the entries of two sides and one between them; it is as high as the higher side, or one
-- level higher, and this where the sides are level
pub record IsJoined (t l : Shape) (e : Entry) (r : Shape) : Type 0 where
  pub entries : entries t ≡ entries l ++ e ∷ entries r
  pub count : count_of t ≡ count_of l + count_of r + 1
  pub not_lower : max (height_of l) (height_of r) ≤ height_of t
  pub not_higher : height_of t ≤ max (height_of l) (height_of r) + 1
  pub settled : IsLevel l r → height_of t ≡ max (height_of l) (height_of r) + 1
  pub whole : IsWhole t

-- the tree is whole and of the form of another, and each entry has so much more, and then so much less
pub record IsMoved (t s : Shape) (more less : Band → ℕ) : Type 0 where
  pub entries : entries t ≡ map (moved more less) (entries s)
  pub count : count_of t ≡ count_of s
  pub height : height_of t ≡ height_of s
  pub sums : (band : Band) → kept_sum t band ≡ kept_sum s band
  pub some : (band : Band) → kept_sum s band ≢ 0 → greatest_of t band ≡ greatest_of s band + more band - less band
  pub none : (band : Band) → kept_sum s band ≡ 0 → greatest_of t band ≡ 0
  pub whole : IsWhole t

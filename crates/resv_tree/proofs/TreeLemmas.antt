use Rattle.std.specs.Prelude.{ℕ, ◌≡◌, ◌+◌, ◌-◌, ◌*◌, ◌<◌, ◌≤◌, ◌∷◌, ◌++◌, List, [], Some, length, Result, Ok, Err, OnOk}
use Rattle.std.specs.Option.{option_or}
use Rattle.std.proofs.Common.{subst, sym, ◌∙◌, ap, arith, append_assoc}
use Rattle.radio_bands.specs.declared.band.Band.{Band}
use Rattle.resv_list.specs.Reservations.{begun, start_of, place, without, IsFree, IsByStart}
use Rattle.resv_list.specs.Reservations.{members_before, members_from, net}
use Rattle.resv_list.proofs.NetLemmas.{net-parted, length-parted}
use Rattle.resv_list.specs.declared.reservation.Reservation.{Reservation}
use Rattle.resv_list.specs.Sorted.{place_by, last_below, first_from, rest_from}
use Rattle.resv_list.proofs.SortedLaws.{RisesFrom-place_by, RisesFrom-filter}
use Rattle.resv_tree.specs.declared.entry.Entry.{Entry}
use Rattle.resv_tree.specs.Entries.{key_of, IsByKey, entry_at, entries_without}
use Rattle.resv_tree.specs.Shape.{Shape, entries, members_of, kept_sum, count_of, IsWhole}
use Rattle.resv_tree.specs.Parts.{IsMadeOf, IsSeenAs}
use Rattle.resv_tree.proofs.SplitLemmas.{rises_left, rises_right, place_left, place_right, at_left, at_right, at_middle}
use Rattle.resv_tree.proofs.SplitLemmas.{rest_left, rest_right}
use Rattle.resv_tree.proofs.NearLemmas.{last_left, last_right, first_left, first_right}
use Rattle.resv_tree.proofs.SumLemmas.{begun_left, begun_right, kept_sum-total, kept_sum-parts, begun_le-total}
use Rattle.resv_tree.proofs.ShapeLemmas.{count_bounds_sum}
use Rattle.resv_tree.proofs.HeightLemmas.{counts}

-- A call on a tree against the same call on one of its sides.

module _ {t l r : Shape} {e : Entry} where
  pub left_by_key : IsMadeOf t l e r → IsByKey (entries t) → IsByKey (entries l)
  left_by_key m b = rises_left key_of 0 _ _ _ (subst IsByKey m.entries b)

  pub right_by_key : IsMadeOf t l e r → IsByKey (entries t) → IsByKey (entries r)
  right_by_key m b = rises_right key_of 0 _ _ _ (subst IsByKey m.entries b)

  pub placed_left : (x : Entry) → IsMadeOf t l e r → key_of x ≤ key_of e
      → place_by key_of x (entries t) ≡ place_by key_of x (entries l) ++ e ∷ entries r
  placed_left x m h = ap (place_by key_of x) m.entries ∙ place_left key_of x _ _ _ h

  pub placed_right : (x : Entry) → IsMadeOf t l e r → IsByKey (entries t) → key_of e < key_of x
      → place_by key_of x (entries t) ≡ entries l ++ e ∷ place_by key_of x (entries r)
  placed_right x m b h = ap (place_by key_of x) m.entries ∙ place_right key_of 0 x _ _ _ (subst IsByKey m.entries b) h

  pub found_left : (at : ℕ) → IsMadeOf t l e r → IsByKey (entries t) → at < key_of e
      → entry_at at (entries t) ≡ entry_at at (entries l)
  found_left at m b h = ap (entry_at at) m.entries ∙ (at_left key_of 0 at _ _ _ (subst IsByKey m.entries b) h).0

  pub found_right : (at : ℕ) → IsMadeOf t l e r → IsByKey (entries t) → key_of e < at
      → entry_at at (entries t) ≡ entry_at at (entries r)
  found_right at m b h = ap (entry_at at) m.entries ∙ (at_right key_of 0 at _ _ _ (subst IsByKey m.entries b) h).0

  pub found_middle : (at : ℕ) → IsMadeOf t l e r → IsByKey (entries t) → key_of e ≡ at → entry_at at (entries t) ≡ Some e
  found_middle at m b h = ap (entry_at at) m.entries ∙ (at_middle key_of 0 at _ _ _ (subst IsByKey m.entries b) h).0

  pub left_of_left : (at : ℕ) → IsMadeOf t l e r → IsByKey (entries t) → at < key_of e
      → entries_without at (entries t) ≡ entries_without at (entries l) ++ e ∷ entries r
  left_of_left at m b h = ap (entries_without at) m.entries ∙ (at_left key_of 0 at _ _ _ (subst IsByKey m.entries b) h).1

  pub left_of_right : (at : ℕ) → IsMadeOf t l e r → IsByKey (entries t) → key_of e < at
      → entries_without at (entries t) ≡ entries l ++ e ∷ entries_without at (entries r)
  left_of_right at m b h = ap (entries_without at) m.entries ∙ (at_right key_of 0 at _ _ _ (subst IsByKey m.entries b) h).1

  pub left_of_middle : (at : ℕ) → IsMadeOf t l e r → IsByKey (entries t) → key_of e ≡ at
      → entries_without at (entries t) ≡ entries l ++ entries r
  left_of_middle at m b h = ap (entries_without at) m.entries ∙ (at_middle key_of 0 at _ _ _ (subst IsByKey m.entries b) h).1

  pub kept_left : (k : ℕ) → IsMadeOf t l e r → IsByKey (entries t) → k ≤ key_of e
      → rest_from key_of k (entries t) ≡ rest_from key_of k (entries l) ++ e ∷ entries r
  kept_left k m b h = ap (rest_from key_of k) m.entries ∙ rest_left key_of 0 k _ _ _ (subst IsByKey m.entries b) h

  pub kept_right : (k : ℕ) → IsMadeOf t l e r → IsByKey (entries t) → key_of e < k
      → rest_from key_of k (entries t) ≡ rest_from key_of k (entries r)
  kept_right k m b h = ap (rest_from key_of k) m.entries ∙ rest_right key_of 0 k _ _ _ (subst IsByKey m.entries b) h

-- The same of a tree behind a reference, by its members.

module _ {t l r : Shape} {e : Entry} where
  pub seen_left : IsSeenAs t l e r → IsByStart (members_of t) → IsByStart (members_of l)
  seen_left m b = rises_left start_of 0 _ _ _ (subst IsByStart m.members b)

  pub seen_right : IsSeenAs t l e r → IsByStart (members_of t) → IsByStart (members_of r)
  seen_right m b = rises_right start_of 0 _ _ _ (subst IsByStart m.members b)

  pub before_left : (k : ℕ) → IsSeenAs t l e r → IsByStart (members_of t) → k ≤ e.reservation.start
      → last_below start_of k (members_of t) ≡ last_below start_of k (members_of l)
  before_left k m b h = ap (last_below start_of k) m.members ∙ last_left start_of 0 k _ _ _ (subst IsByStart m.members b) h

  pub before_right : (k : ℕ) → IsSeenAs t l e r → IsByStart (members_of t) → e.reservation.start < k
      → last_below start_of k (members_of t) ≡ option_or (last_below start_of k (members_of r)) (Some e.reservation)
  before_right k m b h = ap (last_below start_of k) m.members ∙ last_right start_of 0 k _ _ _ (subst IsByStart m.members b) h

  pub from_left : (k : ℕ) → IsSeenAs t l e r → k ≤ e.reservation.start
      → first_from start_of k (members_of t) ≡ option_or (first_from start_of k (members_of l)) (Some e.reservation)
  from_left k m h = ap (first_from start_of k) m.members ∙ first_left start_of k _ _ _ h

  pub from_right : (k : ℕ) → IsSeenAs t l e r → IsByStart (members_of t) → e.reservation.start < k
      → first_from start_of k (members_of t) ≡ first_from start_of k (members_of r)
  from_right k m b h = ap (first_from start_of k) m.members ∙ first_right start_of 0 k _ _ _ (subst IsByStart m.members b) h

  pub spent_left : (band : Band) (to : ℕ) → IsSeenAs t l e r → IsByStart (members_of t) → to ≤ e.reservation.start
      → begun band 0 to (members_of t) ≡ begun band 0 to (members_of l)
  spent_left band to m b h = ap (begun band 0 to) m.members ∙ begun_left band 0 to _ _ _ (subst IsByStart m.members b) h

  pub sum_of_right : (band : Band) → IsSeenAs t l e r → IsWhole t → kept_sum r band ≤ kept_sum t band
  sum_of_right band m w = omega (arith, kept_sum-parts t l r e.reservation band m.members w m.left m.right)

  pub spent_right : (band : Band) (to : ℕ) → IsSeenAs t l e r → IsWhole t → IsByStart (members_of t) → e.reservation.start < to
      → begun band 0 to (members_of t) ≡ kept_sum t band - kept_sum r band + begun band 0 to (members_of r)
  spent_right band to m w b h =
      let all = ap (begun band 0 to) m.members ∙ begun_right band 0 to _ _ _ (subst IsByStart m.members b) h in
      omega (arith, all, kept_sum-total _ band m.left, kept_sum-parts t l r e.reservation band m.members w m.left m.right)

  -- the left side's members, the one between and the right side's are all
  pub listed : {Y Z : Type 0} (a b c d : List Reservation) (r' : Result Y Z) → IsSeenAs t l e r → b ≡ a ++ members_of l
      → c ≡ b ++ e.reservation ∷ [] → OnOk r' (d ≡ c ++ members_of r) → OnOk r' (d ≡ a ++ members_of t)
  listed a b c d (Ok _) m left middle right =
      right ∙ ap (λ (x : List Reservation). x ++ members_of r) middle ∙ append_assoc b (e.reservation ∷ []) (members_of r)
      ∙ ap (λ (x : List Reservation). x ++ e.reservation ∷ members_of r) left
      ∙ append_assoc a (members_of l) (e.reservation ∷ members_of r) ∙ ap (λ (x : List Reservation). a ++ x) (sym m.members)
  listed a b c d (Err _) m left middle right = right

-- what begins before a moment is a part of all
pub spent_in_all : (t : Shape) (band : Band) (to : ℕ) → IsWhole t → begun band 0 to (members_of t) ≤ kept_sum t band
spent_in_all t band to w = omega (arith, kept_sum-total t band w, begun_le-total band to (members_of t))

-- what begins before a moment is bounded by the count
pub spent_short : (t : Shape) (band : Band) (to : ℕ) → IsWhole t → begun band 0 to (members_of t) ≤ 4194304 * count_of t
spent_short t band to w =
    omega (arith, count_bounds_sum t band w, kept_sum-total t band w, begun_le-total band to (members_of t))

-- the list stays by start
pub placed_by_start : (r : Reservation) (l m : List Reservation) → m ≡ place r l → IsFree r.start l → IsByStart l → IsByStart m
placed_by_start r l m e free b = subst IsByStart (sym e) (RisesFrom-place_by start_of 0 r l (omega arith) free b)

pub without_by_start : (at : ℕ) (l m : List Reservation) → m ≡ without at l → IsByStart l → IsByStart m
without_by_start at l m e b = subst IsByStart (sym e) (RisesFrom-filter start_of _ 0 l b)

pub ruleset sides = (left_by_key, right_by_key)

pub ruleset placing = (sides, placed_left, placed_right)

pub ruleset removing = (sides, found_left, found_right, found_middle, left_of_left, left_of_right, left_of_middle)

pub ruleset seen = (seen_left, seen_right)

pub ruleset looking_before = (seen, before_left, before_right)

pub ruleset looking_from = (seen, from_left, from_right)

pub ruleset spending = (seen, spent_left, spent_right, sum_of_right, spent_short, spent_in_all, count_bounds_sum)

pub rest_by_start : (at : ℕ) (l m : List Reservation) → m ≡ members_from at l → IsByStart l → IsByStart m
rest_by_start at l m e b = subst IsByStart (sym e) (RisesFrom-filter start_of _ 0 l b)

-- what is left has fewer members and less airtime, by those that are dropped
pub dropped_count : (at : ℕ) (l m : List Reservation) → m ≡ members_from at l → length l - length m ≡ length (members_before at l)
dropped_count at l m e = omega (arith, length-parted at l, ap length e)

pub dropped_airtime : (at : ℕ) (l m : List Reservation) → m ≡ members_from at l → net l - net m ≡ net (members_before at l)
dropped_airtime at l m e = omega (arith, net-parted at l, ap net e)

pub rest_shorter : (at : ℕ) (l m : List Reservation) → m ≡ members_from at l → length m ≤ length l
rest_shorter at l m e = omega (arith, length-parted at l, ap length e)

pub rest_lighter : (at : ℕ) (l m : List Reservation) → m ≡ members_from at l → net m ≤ net l
rest_lighter at l m e = omega (arith, net-parted at l, ap net e)

pub ruleset dropping = (sides, kept_left, kept_right)

pub ruleset dropped = (counts, rest_by_start, dropped_count, dropped_airtime, rest_shorter, rest_lighter)

pub ruleset staying = (counts, placed_by_start, without_by_start)

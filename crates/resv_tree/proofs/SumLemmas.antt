use Rattle.std.specs.Prelude.{ℕ, ◌≡◌, ◌+◌, ◌-◌, ◌<◌, ◌≤◌, nat_lt, nat_le, Bool, true, false, ◌&&◌, List, [], ◌∷◌, ◌++◌, cond}
use Rattle.std.proofs.Common.{refl, arith, ap, ◌∙◌, sym}
use Rattle.std.proofs.lemmas.Bool.{le-leb, ltb-true, ltb-false}
use Rattle.radio_bands.specs.declared.band.Band.{Band}
use Rattle.radio_bands.specs.declared.band.Band.TheVariants.{K, L, M, N, P, Q}
use Rattle.resv_list.specs.declared.reservation.Reservation.{Reservation}
use Rattle.resv_list.specs.Sorted.{RisesFrom}
use Rattle.resv_list.specs.Reservations.{start_of, is_in, airtime_us, airtime_in, share, begun, net}
use Rattle.resv_list.proofs.NetLemmas.{net-nil, net-cons, airtime_in-all}
use Rattle.resv_list.specs.Begun.{begun-cons, begun-nil}
use Rattle.resv_list.proofs.BegunLemmas.{share_before, share_after, share_within, begun_late}
use Rattle.resv_tree.specs.declared.sums.Sums.{Sums}
use Rattle.resv_tree.specs.Sums.{sum_in, sum_of_all}
use Rattle.resv_tree.specs.Shape.{Shape, Leaf, Fork, members_of, kept_sum, IsWhole}
use Rattle.resv_tree.proofs.QuarterLemmas.{airtime_of-below}
use Rattle.resv_tree.proofs.TotalLemmas.{total_in, total_in-nil, total_in-cons, total_in-append}
use Rattle.resv_tree.proofs.SplitLemmas.{middle_from}

-- Sums of airtime.

-- the sum that a whole tree keeps is that of its members
pub kept_sum-total : (t : Shape) (band : Band) → IsWhole t → kept_sum t band ≡ total_in band (members_of t)
kept_sum-total Leaf band w = sym (total_in-nil band)
kept_sum-total (Fork l e r k) band w =
    omega (
      arith,
      w.2.sums band,
      kept_sum-total l band w.0,
      kept_sum-total r band w.1,
      total_in-append band (members_of l) (e.reservation ∷ members_of r),
      total_in-cons band e.reservation (members_of r),
    )

-- so its sum is that of its sides and of the one between
pub kept_sum-parts : (t l r : Shape) (e : Reservation) (band : Band) → members_of t ≡ members_of l ++ e ∷ members_of r → IsWhole t
    → IsWhole l → IsWhole r → kept_sum t band ≡ kept_sum l band + airtime_in band e + kept_sum r band
kept_sum-parts t l r e band is w v u =
    let parts : total_in band (members_of t) ≡ total_in band (members_of l ++ e ∷ members_of r) = ap (total_in band) is in
    omega (
      arith,
      parts,
      kept_sum-total t band w,
      kept_sum-total l band v,
      kept_sum-total r band u,
      total_in-append band (members_of l) (e ∷ members_of r),
      total_in-cons band e (members_of r),
    )

-- the sums of all sub-bands are the airtime of all
total_in-net : (l : List Reservation)
    → total_in K l + total_in L l + total_in M l + total_in N l + total_in P l + total_in Q l ≡ net l
total_in-net [] =
    omega (
      arith,
      net-nil,
      total_in-nil K,
      total_in-nil L,
      total_in-nil M,
      total_in-nil N,
      total_in-nil P,
      total_in-nil Q,
    )
total_in-net (r ∷ rs) =
    omega (
      arith,
      net-cons r rs,
      airtime_in-all r,
      total_in-cons K r rs,
      total_in-cons L r rs,
      total_in-cons M r rs,
      total_in-cons N r rs,
      total_in-cons P r rs,
      total_in-cons Q r rs,
      total_in-net rs,
    )

kept_sums-net : (t : Shape) → IsWhole t
    → kept_sum t K + kept_sum t L + kept_sum t M + kept_sum t N + kept_sum t P + kept_sum t Q ≡ net (members_of t)
kept_sums-net t w =
    omega (
      arith,
      total_in-net (members_of t),
      kept_sum-total t K w,
      kept_sum-total t L w,
      kept_sum-total t M w,
      kept_sum-total t N w,
      kept_sum-total t P w,
      kept_sum-total t Q w,
    )

-- so it is of sums that are those of a whole tree
pub sum_of_all-net : (s : Sums) (t : Shape) → IsWhole t → ((band : Band) → sum_in s band ≡ kept_sum t band)
    → sum_of_all s ≡ net (members_of t)
sum_of_all-net s t w e = omega (arith, kept_sums-net t w, e K, e L, e M, e N, e P, e Q)

pub ruleset totals = (sum_of_all-net)

-- no transmission is longer
pub airtime_in-short : (band : Band) (r : Reservation) → airtime_in band r < 4194304
airtime_in-short band r = by (is_in band r)
  where
    by : (t : Bool) → cond t (airtime_us r) 0 < 4194304
    by true = airtime_of-below r.rate r.len r.fit.sized
    by false = omega arith

-- what begins before a moment is no more than all
pub begun_le-total : (band : Band) (to : ℕ) (l : List Reservation) → begun band 0 to l ≤ total_in band l
begun_le-total band to [] = omega (arith, begun-nil band 0 to)
begun_le-total band to (r ∷ rs) =
    omega (
      arith,
      part (is_in band r) (nat_lt r.start to),
      begun-cons band 0 to r rs,
      total_in-cons band r rs,
      begun_le-total band to rs,
    )
  where
    part : (p q : Bool) → cond (p && nat_le 0 r.start && q) (airtime_us r) 0 ≤ cond p (airtime_us r) 0
    part true true = rw (le-leb 0 r.start (omega arith)) (omega arith)
    part true false = rw (le-leb 0 r.start (omega arith)) (omega arith)
    part false q = omega arith

-- where the one between begins before the moment, all to the left do
pub begun_right : (band : Band) (low to : ℕ) (ls : List Reservation) (x : Reservation) (rs : List Reservation)
    → RisesFrom start_of low (ls ++ x ∷ rs) → x.start < to
    → begun band 0 to (ls ++ x ∷ rs) ≡ total_in band ls + airtime_in band x + begun band 0 to rs
begun_right band low to [] x rs r h =
    omega (arith, begun-cons band 0 to x rs, share_within band 0 to x (omega arith) h, total_in-nil band)
begun_right band low to (y ∷ ls) x rs r h =
    let m = middle_from start_of (y.start + 1) ls x rs r.1 in
    omega (
      arith,
      begun-cons band 0 to y (ls ++ x ∷ rs),
      share_within band 0 to y (omega arith) (omega arith),
      total_in-cons band y ls,
      begun_right band (y.start + 1) to ls x rs r.1 h,
    )

-- and where it doesn't, nothing to the right does
pub begun_left : (band : Band) (low to : ℕ) (ls : List Reservation) (x : Reservation) (rs : List Reservation)
    → RisesFrom start_of low (ls ++ x ∷ rs) → to ≤ x.start → begun band 0 to (ls ++ x ∷ rs) ≡ begun band 0 to ls
begun_left band low to [] x rs r h =
    begun_late band 0 to x.start (x ∷ rs) h (omega arith, r.1) ∙ sym (begun-nil band 0 to)
begun_left band low to (y ∷ ls) x rs r h =
    omega (
      arith,
      begun-cons band 0 to y (ls ++ x ∷ rs),
      begun-cons band 0 to y ls,
      begun_left band (y.start + 1) to ls x rs r.1 h,
    )

-- what begins in a stretch begins before its end and not before its beginning
share_between : (band : Band) (from to : ℕ) (r : Reservation) → from ≤ to
    → share band from to r + share band 0 from r ≡ share band 0 to r
share_between band from to r h = by (nat_lt r.start from) (nat_lt r.start to) refl refl
  where
    by : (s t : Bool) → nat_lt r.start from ≡ s → nat_lt r.start to ≡ t
        → share band from to r + share band 0 from r ≡ share band 0 to r
    by true true s t = omega (
      arith,
      share_before band from to r (ltb-true r.start from s),
      share_within band 0 from r (omega arith) (ltb-true r.start from s),
      share_within band 0 to r (omega arith) (ltb-true r.start to t),
    )
    by true false s t = absurd (omega (arith, h, ltb-true r.start from s, ltb-false r.start to t))
    by false true s t = omega (
      arith,
      share_within band from to r (ltb-false r.start from s) (ltb-true r.start to t),
      share_after band 0 from r (ltb-false r.start from s),
      share_within band 0 to r (omega arith) (ltb-true r.start to t),
    )
    by false false s t = omega (
      arith,
      share_after band from to r (ltb-false r.start to t),
      share_after band 0 from r (ltb-false r.start from s),
      share_after band 0 to r (ltb-false r.start to t),
    )

pub begun_between : (band : Band) (from to : ℕ) (l : List Reservation) → from ≤ to
    → begun band from to l + begun band 0 from l ≡ begun band 0 to l
begun_between band from to [] h = omega (arith, begun-nil band from to, begun-nil band 0 from, begun-nil band 0 to)
begun_between band from to (r ∷ rs) h =
    omega (
      arith,
      begun-cons band from to r rs,
      begun-cons band 0 from r rs,
      begun-cons band 0 to r rs,
      share_between band from to r h,
      begun_between band from to rs h,
    )

share_reversed : (band : Band) (from to : ℕ) (r : Reservation) → to ≤ from → share band from to r ≡ 0
share_reversed band from to r h = by (nat_lt r.start to) refl
  where
    by : (t : Bool) → nat_lt r.start to ≡ t → share band from to r ≡ 0
    by true t = share_before band from to r (omega (arith, h, ltb-true r.start to t))
    by false t = share_after band from to r (ltb-false r.start to t)

-- nothing begins in a stretch that ends before it begins
pub begun_reversed : (band : Band) (from to : ℕ) (l : List Reservation) → to ≤ from → begun band from to l ≡ 0
begun_reversed band from to [] h = begun-nil band from to
begun_reversed band from to (r ∷ rs) h =
    omega (arith, begun-cons band from to r rs, share_reversed band from to r h, begun_reversed band from to rs h)

-- so what begins in a stretch is a difference
pub begun_difference : (band : Band) (from to : ℕ) (l : List Reservation)
    → begun band 0 to l - begun band 0 from l ≡ begun band from to l
begun_difference band from to l = by (nat_lt to from) refl
  where
    by : (t : Bool) → nat_lt to from ≡ t → begun band 0 to l - begun band 0 from l ≡ begun band from to l
    by true t =
        let h = ltb-true to from t in
        omega (arith, begun_between band to from l (omega arith), begun_reversed band from to l (omega arith))
    by false t = omega (arith, begun_between band from to l (ltb-false to from t))

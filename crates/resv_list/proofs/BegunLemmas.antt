use Rattle.std.specs.Prelude.{ℕ, ◌≡◌, ◌+◌, ◌<◌, ◌≤◌, nat_lt, nat_le, Bool, true, false, ◌&&◌, List, [], ◌∷◌, drop, length, cond}
use Rattle.std.proofs.Common.{refl, ap, arith, zero, suc, get_or}
use Rattle.std.proofs.lemmas.Bool.{lt-ltb, le-ltb, ltb-true, le-leb, lt-leb}
use Rattle.radio_bands.specs.declared.band.Band.{Band}
use Rattle.resv_list.specs.declared.reservation.Reservation.{Reservation}
use Rattle.resv_list.specs.Sorted.{IsCut, RisesFrom}
use Rattle.resv_list.proofs.CutLemmas.{cut_rest}
use Rattle.resv_list.specs.Reservations.{start_of, airtime_us, is_in, share, begun, place}
use Rattle.resv_list.specs.Begun.{begun-cons, begun-nil}

-- The airtime that begins in a stretch of a list by start.

-- nothing begins before `from`
pub share_before : (band : Band) (from to : ℕ) (r : Reservation) → r.start < from → share band from to r ≡ 0
share_before band from to r h = none (is_in band r) (nat_lt r.start to) (lt-leb from r.start h)
  where
    none : (p q : Bool) → nat_le from r.start ≡ false → cond (p && nat_le from r.start && q) (airtime_us r) 0 ≡ 0
    none true q e = rw e refl
    none false q e = refl

-- nor from `to` on
pub share_after : (band : Band) (from to : ℕ) (r : Reservation) → to ≤ r.start → share band from to r ≡ 0
share_after band from to r h = none (is_in band r && nat_le from r.start) (le-ltb r.start to h)
  where
    none : (p : Bool) → nat_lt r.start to ≡ false → cond (p && nat_lt r.start to) (airtime_us r) 0 ≡ 0
    none true e = rw e refl
    none false e = refl

-- a member of the band in the stretch counts whole, a member of another band not at all
pub share_within : (band : Band) (from to : ℕ) (r : Reservation) → from ≤ r.start → r.start < to
    → share band from to r ≡ cond (is_in band r) (airtime_us r) 0
share_within band from to r h g = whole (is_in band r)
  where
    whole : (p : Bool) → cond (p && nat_le from r.start && nat_lt r.start to) (airtime_us r) 0 ≡ cond p (airtime_us r) 0
    whole true = rw (le-leb from r.start h, lt-ltb r.start to g) refl
    whole false = refl

-- one more member adds its share to every stretch
begun_placed : (band : Band) (from to : ℕ) (r s : Reservation) (ss : List Reservation) (t : Bool)
    → begun band from to (place r ss) ≡ share band from to r + begun band from to ss
    → begun band from to (cond t (s ∷ place r ss) (r ∷ s ∷ ss)) ≡ share band from to r + begun band from to (s ∷ ss)
begun_placed band from to r s ss true h = omega (arith, begun-cons band from to s (place r ss), begun-cons band from to s ss, h)
begun_placed band from to r s ss false h = begun-cons band from to r (s ∷ ss)

pub begun-place : (band : Band) (from to : ℕ) (r : Reservation) (l : List Reservation)
    → begun band from to (place r l) ≡ share band from to r + begun band from to l
begun-place band from to r [] = begun-cons band from to r []
begun-place band from to r (s ∷ ss) = begun_placed band from to r s ss (nat_lt s.start r.start) (begun-place band from to r ss)

-- what begins from a moment on begins behind the cut there
pub begun-cut : (band : Band) (from to : ℕ) (l : List Reservation) (i : ℕ) → IsCut (λ r. nat_lt (start_of r) from) l i
    → begun band from to l ≡ begun band from to (drop i l)
begun-cut band from to [] zero c = refl
begun-cut band from to [] (suc i) c = refl
begun-cut band from to (r ∷ rs) zero c = refl
begun-cut band from to (r ∷ rs) (suc i) c =
    let h : r.start < from = ltb-true r.start from (c.0 zero r (omega arith) (omega arith)) in
    omega (
      arith,
      begun-cons band from to r rs,
      share_before band from to r h,
      begun-cut band from to rs i (cut_rest (λ s. nat_lt (start_of s) from) r rs i c),
    )

-- nothing of a list that rises from `to` begins before it
pub begun_late : (band : Band) (from to low : ℕ) (l : List Reservation) → to ≤ low → RisesFrom start_of low l
    → begun band from to l ≡ 0
begun_late band from to low [] h r = begun-nil band from to
begun_late band from to low (x ∷ xs) h r =
    omega (
      arith,
      begun-cons band from to x xs,
      share_after band from to x (omega arith),
      begun_late band from to (x.start + 1) xs (omega arith) r.1,
    )

-- nothing begins before `to` from a member on that doesn't
pub begun_behind : (band : Band) (from to low : ℕ) (l : List Reservation) (i : ℕ) (m : Reservation) → RisesFrom start_of low l
    → i < length l → m ≡ get_or l i m → to ≤ m.start → begun band from to (drop i l) ≡ 0
begun_behind band from to low [] i m r h e g = absurd (omega arith)
begun_behind band from to low (x ∷ xs) zero m r h e g =
    let k : m.start ≡ x.start = ap start_of e in
    begun_late band from to x.start (x ∷ xs) (omega arith) (omega arith, r.1)
begun_behind band from to low (x ∷ xs) (suc i) m r h e g = begun_behind band from to (x.start + 1) xs i m r.1 (omega arith) e g

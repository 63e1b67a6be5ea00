use Rattle.std.specs.Prelude.{ℕ, ◌≡◌, ◌≢◌, ◌+◌, nat_lt, nat_le, Bool, true, false, List, [], ◌∷◌, length, Option}
use Rattle.std.specs.Prelude.{Some, None, is_some}
use Rattle.std.specs.List.{sum_by}
use Rattle.std.proofs.Common.{refl, sym, arith}
use Rattle.std.proofs.lemmas.List.Sums.{sum_by-cons}
use Rattle.std.proofs.lemmas.Bool.{ltb-true, ltb-false, lt-leb, le-leb}
use Rattle.radio_bands.specs.declared.band.Band.{Band}
use Rattle.radio_bands.specs.declared.band.Band.TheVariants.{K, L, M, N, P, Q}
use Rattle.radio_bands.specs.Band.{bands, band_of, lies_in}
use Rattle.radio_bands.proofs.BandLaws.{LiesIn-band_of, lies_in-true}
use Rattle.resv_list.specs.declared.reservation.Reservation.{Reservation}
use Rattle.resv_list.specs.Reservations.{airtime_us, airtime_in, is_in, net, members_before, members_from}
use Rattle.resv_list.proofs.Walk.{found_passes}

-- The airtime of all members.

pub net-nil : net [] ≡ 0
unfolding net
net-nil = refl

pub net-cons : (r : Reservation) (rs : List Reservation) → net (r ∷ rs) ≡ airtime_us r + net rs
unfolding net
net-cons r rs = refl

-- what begins before a moment and what doesn't have together the airtime of all
pub net-parted : (start : ℕ) (l : List Reservation) → net (members_before start l) + net (members_from start l) ≡ net l
net-parted start [] = omega (arith, net-nil)
net-parted start (r ∷ rs) = by (nat_lt r.start start) refl (net-parted start rs)
  where
    by : (t : Bool) → nat_lt r.start start ≡ t → net (members_before start rs) + net (members_from start rs) ≡ net rs
        → net (members_before start (r ∷ rs)) + net (members_from start (r ∷ rs)) ≡ net (r ∷ rs)
    by true e rest =
        let f : nat_le start r.start ≡ false = lt-leb start r.start (ltb-true r.start start e) in
        rw (e, f) (omega (arith, net-cons r (members_before start rs), net-cons r rs, rest))
    by false e rest =
        let f : nat_le start r.start ≡ true = le-leb start r.start (ltb-false r.start start e) in
        rw (e, f) (omega (arith, net-cons r (members_from start rs), net-cons r rs, rest))

pub length-parted : (start : ℕ) (l : List Reservation)
    → length (members_before start l) + length (members_from start l) ≡ length l
length-parted start [] = refl
length-parted start (r ∷ rs) = by (nat_lt r.start start) refl (length-parted start rs)
  where
    by : (t : Bool) → nat_lt r.start start ≡ t → length (members_before start rs) + length (members_from start rs) ≡ length rs
        → length (members_before start (r ∷ rs)) + length (members_from start (r ∷ rs)) ≡ length (r ∷ rs)
    by true e rest =
        let f : nat_le start r.start ≡ false = lt-leb start r.start (ltb-true r.start start e) in
        rw (e, f) (omega (arith, rest))
    by false e rest =
        let f : nat_le start r.start ≡ true = le-leb start r.start (ltb-false r.start start e) in
        rw (e, f) (omega (arith, rest))

-- A member's airtime counts in its own sub-band alone.

pub in_own : (r : Reservation) (band : Band) → band_of r.freq_hz r.rate ≡ Some band → is_in band r ≡ true
unfolding band_of
in_own r band e = found_passes (λ (b : Band). 0) (lies_in r.freq_hz r.rate) band bands e

in_no_other : (r : Reservation) (band other : Band) → band_of r.freq_hz r.rate ≡ Some band → band ≢ other → is_in other r ≡ false
in_no_other r band other e n = by (is_in other r) refl
  where
    by : (t : Bool) → is_in other r ≡ t → is_in other r ≡ false
    by true u =
        let f : band_of r.freq_hz r.rate ≡ Some other =
        LiesIn-band_of r.freq_hz r.rate other (lies_in-true r.freq_hz r.rate other u) in
        absurd (n (cc))
    by false u = u

-- so its airtime is that of all sub-bands together
pub airtime_in-all : (r : Reservation)
    → airtime_in K r + airtime_in L r + airtime_in M r + airtime_in N r + airtime_in P r + airtime_in Q r ≡ airtime_us r
airtime_in-all r = by (band_of r.freq_hz r.rate) refl r.fit.banded
  where
    by : (o : Option Band) → band_of r.freq_hz r.rate ≡ o → is_some (band_of r.freq_hz r.rate) ≡ true
        → airtime_in K r + airtime_in L r + airtime_in M r + airtime_in N r + airtime_in P r + airtime_in Q r ≡ airtime_us r
    by None e h = absurd (cc)
    by (Some K) e h =
        let other = λ (c : Band) (n : K ≢ c). in_no_other r K c e n in
        rw (
          in_own r K e,
          other L (λ p. absurd (cc)),
          other M (λ p. absurd (cc)),
          other N (λ p. absurd (cc)),
          other P (λ p. absurd (cc)),
          other Q (λ p. absurd (cc)),
        ) (omega arith)
    by (Some L) e h =
        let other = λ (c : Band) (n : L ≢ c). in_no_other r L c e n in
        rw (
          other K (λ p. absurd (cc)),
          in_own r L e,
          other M (λ p. absurd (cc)),
          other N (λ p. absurd (cc)),
          other P (λ p. absurd (cc)),
          other Q (λ p. absurd (cc)),
        ) (omega arith)
    by (Some M) e h =
        let other = λ (c : Band) (n : M ≢ c). in_no_other r M c e n in
        rw (
          other K (λ p. absurd (cc)),
          other L (λ p. absurd (cc)),
          in_own r M e,
          other N (λ p. absurd (cc)),
          other P (λ p. absurd (cc)),
          other Q (λ p. absurd (cc)),
        ) (omega arith)
    by (Some N) e h =
        let other = λ (c : Band) (n : N ≢ c). in_no_other r N c e n in
        rw (
          other K (λ p. absurd (cc)),
          other L (λ p. absurd (cc)),
          other M (λ p. absurd (cc)),
          in_own r N e,
          other P (λ p. absurd (cc)),
          other Q (λ p. absurd (cc)),
        ) (omega arith)
    by (Some P) e h =
        let other = λ (c : Band) (n : P ≢ c). in_no_other r P c e n in
        rw (
          other K (λ p. absurd (cc)),
          other L (λ p. absurd (cc)),
          other M (λ p. absurd (cc)),
          other N (λ p. absurd (cc)),
          in_own r P e,
          other Q (λ p. absurd (cc)),
        ) (omega arith)
    by (Some Q) e h =
        let other = λ (c : Band) (n : Q ≢ c). in_no_other r Q c e n in
        rw (
          other K (λ p. absurd (cc)),
          other L (λ p. absurd (cc)),
          other M (λ p. absurd (cc)),
          other N (λ p. absurd (cc)),
          other P (λ p. absurd (cc)),
          in_own r Q e,
        ) (omega arith)

-- the airtime of all members is the sum of theirs
pub net-sum_by : (l : List Reservation) → sum_by airtime_us l ≡ net l
net-sum_by [] = sym net-nil
net-sum_by (r ∷ rs) = omega (arith, sum_by-cons airtime_us r rs, net-sum_by rs, net-cons r rs)

use Rattle.std.specs.Prelude.{ℕ, ◌≡◌, ◌+◌, ◌/◌, nat_le, nat_lt, Bool, true, false, ◌&&◌, List, [], ◌∷◌, map, cond, max, Some}
use Rattle.std.proofs.Common.{refl, arith, zero, suc, ap, sym, subst, ◌∙◌}
use Rattle.std.proofs.lemmas.Bool.Decides.{nat_tests}
use Rattle.radio_bands.specs.declared.band.Band.{Band}
use Rattle.radio_bands.specs.declared.band.Band.TheVariants.{K, L, M, N, P, Q}
use Rattle.radio_bands.specs.Band.{band_of}
use Rattle.resv_list.specs.declared.reservation.Reservation.{Reservation}
use Rattle.resv_list.specs.Reservations.{is_in, airtime_us, airtime_in}
use Rattle.resv_list.proofs.NetLemmas.{in_own}
use Rattle.resv_tree.specs.declared.entry.Entry.{Entry}
use Rattle.resv_tree.specs.declared.node.Node.{Node}
use Rattle.resv_tree.specs.declared.sums.Sums.{Sums}
use Rattle.resv_tree.specs.Entries.{key_of, amount, moved, moved_in, own_in}
use Rattle.resv_tree.specs.Sums.{quarters_in, sum_in, order_of, is_same, IsOnly}
use Rattle.resv_tree.specs.Shape.{Shape, shape, entries, entry_of, kept_of, left_of, right_of, greatest_of, top_of, IsWhole}
use Rattle.resv_tree.specs.Parts.{IsMadeOf}
use Rattle.resv_tree.proofs.EntryLemmas.{most_own, own_moved, in_band, banded, amount_at}
use Rattle.resv_tree.proofs.QuarterLemmas.{airtime_of-quarters}
use Rattle.resv_tree.proofs.OwedLemmas.{greatest_is_most}
use Rattle.resv_tree.proofs.ShapeLemmas.{shape-out}

-- Sub-bands in which no own hour changes.

-- a sub-band is known by its place
band_at : ℕ → Band
band_at zero = K
band_at (suc zero) = L
band_at (suc (suc zero)) = M
band_at (suc (suc (suc zero))) = N
band_at (suc (suc (suc (suc zero)))) = P
band_at (suc (suc (suc (suc (suc n))))) = Q

placed : (b : Band) → band_at (order_of b) ≡ b
unfolding band_at
placed K = refl
placed L = refl
placed M = refl
placed N = refl
placed P = refl
placed Q = refl

pub one_band : (a b : Band) → is_same a b ≡ true → a ≡ b
one_band a b e =
    let same : order_of a ≡ order_of b = grind (arith, nat_tests) in
    sym (placed a) ∙ ap band_at same ∙ placed b

same-self : (b : Band) → is_same b b ≡ true
same-self K = refl
same-self L = refl
same-self M = refl
same-self N = refl
same-self P = refl
same-self Q = refl

-- a member's channel lies in its own sub-band alone
pub in_own_alone : (r : Reservation) (band other : Band) → band_of r.freq_hz r.rate ≡ Some band
    → is_in other r ≡ is_same other band
in_own_alone r band other is = by (is_in other r) refl (is_same other band) refl
  where
    by : (t : Bool) → is_in other r ≡ t → (u : Bool) → is_same other band ≡ u → is_in other r ≡ is_same other band
    by true h true e = h ∙ sym e
    by false h false e = h ∙ sym e
    by true h false e =
        let found = in_band r other h in
        let one : other ≡ band = cc in
        let self = subst (λ (b : Band). is_same b band ≡ true) (sym one) (same-self band) in
        absurd (cc)
    by false h true e =
        let here = subst (λ (b : Band). is_in b r ≡ true) (sym (one_band other band e)) (in_own r band is) in
        absurd (cc)

-- and so does its airtime
pub none_beside : (r : Reservation) (band other : Band) → band_of r.freq_hz r.rate ≡ Some band → is_same other band ≡ false
    → airtime_in other r ≡ 0
none_beside r band other is e = ap (λ t. cond t (airtime_us r) 0) (in_own_alone r band other is ∙ e)

-- what is put in a member's own sub-band, where its airtime comes to what was there
pub airtime_put : (old new : Sums) (r : Reservation) (band : Band) (amount : ℕ) → band_of r.freq_hz r.rate ≡ Some band
    → amount ≡ quarters_in old band + airtime_us r / 128
    → ((other : Band) → quarters_in new other ≡ cond (is_same other band) amount (quarters_in old other)) → (other : Band)
    → sum_in new other ≡ sum_in old other + airtime_in other r
airtime_put old new r band amount is here put other = by (is_same other band) refl (put other)
  where
    by : (t : Bool) → is_same other band ≡ t → quarters_in new other ≡ cond t amount (quarters_in old other)
        → sum_in new other ≡ sum_in old other + airtime_in other r
    by true e p =
        let air = ap (λ t. cond t (airtime_us r) 0) (in_own_alone r band other is ∙ e) in
        let there = ap (quarters_in old) (one_band other band e) in
        omega (arith, p, here, there, air, airtime_of-quarters r.rate r.len)
    by false e p = omega (arith, p, none_beside r band other is e)

-- a member of another sub-band has nothing of what is in one alone
pub nothing_beside : (more less : Band → ℕ) (r : Reservation) (band : Band) → IsOnly band more less → is_in band r ≡ false
    → amount more r + amount less r ≡ 0
nothing_beside more less r band only h =
    let b = banded r in
    omega (arith, amount_at more r b, amount_at less r b, only b.band (by (is_same b.band band) refl))
  where
    by : (t : Bool) → is_same (banded r).band band ≡ t → t ≡ false
    by true e =
        let here = subst (λ (c : Band). is_in c r ≡ true) (one_band (banded r).band band e) (banded r).holds in
        absurd (cc)
    by false e = refl

-- what is put in one sub-band, where the others stay
pub put_top : (old new : Sums) (band : Band) (amount : ℕ) (f : Band → ℕ)
    → ((other : Band) → quarters_in new other ≡ cond (is_same other band) amount (quarters_in old other)) → amount ≡ f band
    → ((other : Band) → is_same other band ≡ false → quarters_in old other ≡ f other) → (other : Band)
    → quarters_in new other ≡ f other
put_top old new band amount f put here h other = by (is_same other band) refl (put other)
  where
    by : (t : Bool) → is_same other band ≡ t → quarters_in new other ≡ cond t amount (quarters_in old other)
        → quarters_in new other ≡ f other
    by true e p = p ∙ here ∙ ap f (sym (one_band other band e))
    by false e p = p ∙ h other e

module _ (more less : Band → ℕ) (band : Band) (none : more band + less band ≡ 0) where
  pub own_still : (e : Entry) → own_in band (moved more less e) ≡ own_in band e
  own_still e = by (is_in band e.reservation) refl
    where
      by : (t : Bool) → is_in band e.reservation ≡ t → cond t (moved more less e).own 0 ≡ cond t e.own 0
      by true h = let own = own_moved more less band e h in omega (arith, own, none)
      by false h = refl

  own_still_in : (from to : ℕ) (e : Entry) → own_in band (moved_in from to more less e) ≡ own_in band e
  own_still_in from to e = by (nat_le from (key_of e) && nat_lt (key_of e) to)
    where
      by : (t : Bool) → own_in band (cond t (moved more less e) e) ≡ own_in band e
      by true = own_still e
      by false = refl

  most_still : (from to : ℕ) (es : List Entry) → most_own band (map (moved_in from to more less) es) ≡ most_own band es
  most_still from to [] = refl
  most_still from to (e ∷ es) = λ i. max (own_still_in from to e i) (most_still from to es i)

  pub greatest_still : (from to : ℕ) (t s : Shape) → IsWhole t → IsWhole s
      → entries t ≡ map (moved_in from to more less) (entries s) → greatest_of t band ≡ greatest_of s band
  greatest_still from to t s w v same =
      sym (greatest_is_most t band w) ∙ ap (most_own band) same ∙ most_still from to (entries s) ∙ greatest_is_most s band v

module _ {A : Type 0} where
  -- what a node keeps once nothing is owed is the greatest about it, and stays so in such a sub-band
  pub top_settled : (n m : Node A) → kept_of m ≡ kept_of n → IsMadeOf (shape n) (left_of m) (entry_of m) (right_of m)
      → (band : Band) → quarters_in (kept_of m).greatest band ≡ top_of (left_of m) (entry_of m) (right_of m) band
  top_settled n m same made band =
      ap (λ k. quarters_in k.greatest band) same ∙ sym (ap (λ s. greatest_of s band) (shape-out n)) ∙ made.greatest band

  pub top_still : (m n : Node A) (band : Band) → kept_of n ≡ kept_of m
      → quarters_in (kept_of m).greatest band ≡ top_of (left_of m) (entry_of m) (right_of m) band
      → greatest_of (left_of n) band ≡ greatest_of (left_of m) band → own_in band (entry_of n) ≡ own_in band (entry_of m)
      → greatest_of (right_of n) band ≡ greatest_of (right_of m) band
      → quarters_in (kept_of n).greatest band ≡ top_of (left_of n) (entry_of n) (right_of n) band
  top_still m n band kept top left own right =
      ap (λ k. quarters_in k.greatest band) kept ∙ top ∙ (λ i. max (sym own i) (max (sym left i) (sym right i)))

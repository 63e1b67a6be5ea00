use Rattle.std.proofs.Common.{◌≡◌, ◌≢◌, ℕ, ◌<◌, nat_lt, nat_eq, ◌<ℤ◌, int_lt, ◌⊎◌, inl, inr, Bool, true, false, true≢false, List}
use Rattle.std.proofs.Common.{[], ◌∷◌, map, All, AllPairs, Contains, IsPermutation, Ordering, Less, Equal, Greater, cond, refl}
use Rattle.std.proofs.Common.{sym, ◌∙◌, subst, arith, zero, suc}
use Rattle.std.specs.List.{IsDistinct}
use Rattle.std.specs.Ordering.{MatchOrdering, int_cmp}
use Rattle.std.specs.Cmp.{int_ranks}
use Rattle.std.proofs.lemmas.Bool.{cases_lt}
use Rattle.std.proofs.lemmas.Bool.Decides.{nat_tests}
use Rattle.std.proofs.lemmas.Int.{ints}
use Rattle.std.proofs.lemmas.List.Elements.{All-cons, All-nil, All-weaker, All-contains, All-map, recursion_from_All}
use Rattle.std.proofs.lemmas.List.Elements.{All-from_recursion}
use Rattle.std.proofs.lemmas.List.Kept.{AllPairs-cons}
use Rattle.std.proofs.lemmas.List.Sorted.{IsPermutation-sym, IsPermutation-map, All-permutation, Contains-permutation}
use Rattle.std.proofs.lemmas.Map.Keys.{IsDistinct-IsPermutation}
use Rattle.uplink_gather.specs.declared.heard.HeardCopy.{HeardCopy}
use Rattle.rx_windows.specs.Rank.{HaveDistinctGateways, IsBefore, is_before, placed, ranked}
use Rattle.rx_windows.specs.Laws.{IsRanking, OneRanking}
use Rattle.rx_windows.proofs.RankLaws.{AllPairs-head, AllPairs-tail, placed-permutation, ranked-permutation, All-ranked}

-- The order decides between two gateways, sorting by insertion gives a ranking, and there is no other.

-- The order.

-- where the relation holds the test passes, and fails the other way round
pub is_before-passes : (c e : HeardCopy) → IsBefore c e → (is_before c e ≡ true) × (is_before e c ≡ false)
is_before-passes c e (inl h) =
    let s : int_lt e.snr c.snr ≡ true = grind (arith, ints) in
    let t : int_lt c.snr e.snr ≡ false = grind (arith, ints) in
    (rw s refl, rw (t, s) refl)
is_before-passes c e (inr (inl (q, h))) =
    let s : int_lt e.snr c.snr ≡ false = grind (arith, ints) in
    let t : int_lt c.snr e.snr ≡ false = grind (arith, ints) in
    let u : int_lt e.rssi c.rssi ≡ true = grind (arith, ints) in
    let v : int_lt c.rssi e.rssi ≡ false = grind (arith, ints) in
    (rw (s, t, u) refl, rw (t, s, v, u) refl)
is_before-passes c e (inr (inr (q, r, h))) =
    let s : int_lt e.snr c.snr ≡ false = grind (arith, ints) in
    let t : int_lt c.snr e.snr ≡ false = grind (arith, ints) in
    let u : int_lt e.rssi c.rssi ≡ false = grind (arith, ints) in
    let v : int_lt c.rssi e.rssi ≡ false = grind (arith, ints) in
    let w : nat_lt c.gateway e.gateway ≡ true = grind (arith, nat_tests) in
    let x : nat_lt e.gateway c.gateway ≡ false = grind (arith, nat_tests) in
    (rw (s, t, u, v, w) refl, rw (t, s, v, u, x) refl)

-- no copy is before one that is before it
pub IsBefore-asym : (c e : HeardCopy) → IsBefore c e → IsBefore e c → ⊥
IsBefore-asym c e h g = true≢false (sym (is_before-passes c e h).0 ∙ (is_before-passes e c g).1)

pub IsBefore-trans : (c e f : HeardCopy) → IsBefore c e → IsBefore e f → IsBefore c f
IsBefore-trans c e f (inl h) (inl g) = inl (omega (arith, ints))
IsBefore-trans c e f (inl h) (inr (inl (q, g))) = inl (omega (arith, ints))
IsBefore-trans c e f (inl h) (inr (inr (q, r, g))) = inl (omega (arith, ints))
IsBefore-trans c e f (inr (inl (q, h))) (inl g) = inl (omega (arith, ints))
IsBefore-trans c e f (inr (inl (q, h))) (inr (inl (p, g))) = inr (inl (q ∙ p, omega (arith, ints)))
IsBefore-trans c e f (inr (inl (q, h))) (inr (inr (p, r, g))) = inr (inl (q ∙ p, omega (arith, ints)))
IsBefore-trans c e f (inr (inr (q, r, h))) (inl g) = inl (omega (arith, ints))
IsBefore-trans c e f (inr (inr (q, r, h))) (inr (inl (p, g))) = inr (inl (q ∙ p, omega (arith, ints)))
IsBefore-trans c e f (inr (inr (q, r, h))) (inr (inr (p, s, g))) = inr (inr (q ∙ p, r ∙ s, omega arith))

-- of two gateways one has the better copy
by_gateway : (c e : HeardCopy) → c.snr ≡ e.snr → c.rssi ≡ e.rssi → (c.gateway < e.gateway) ⊎ (e.gateway < c.gateway)
    → IsBefore c e ⊎ IsBefore e c
by_gateway c e q r (inl h) = inl (inr (inr (q, r, h)))
by_gateway c e q r (inr h) = inr (inr (inr (sym q, sym r, h)))

by_rssi : (c e : HeardCopy) → c.gateway ≢ e.gateway → c.snr ≡ e.snr → (r : Ordering)
    → MatchOrdering r (c.rssi <ℤ e.rssi) (c.rssi ≡ e.rssi) (e.rssi <ℤ c.rssi) → IsBefore c e ⊎ IsBefore e c
by_rssi c e n q Less h = inr (inr (inl (sym q, h)))
by_rssi c e n q Equal h = by_gateway c e q h (elim (cases_lt c.gateway e.gateway) [ inl l ↦ inl l | inr l ↦ inr (omega arith) ])
by_rssi c e n q Greater h = inl (inr (inl (q, h)))

by_snr : (c e : HeardCopy) → c.gateway ≢ e.gateway → (r : Ordering)
    → MatchOrdering r (c.snr <ℤ e.snr) (c.snr ≡ e.snr) (e.snr <ℤ c.snr) → IsBefore c e ⊎ IsBefore e c
by_snr c e n Less h = inr (inl h)
by_snr c e n Equal h = by_rssi c e n h (int_cmp c.rssi e.rssi) (int_ranks c.rssi e.rssi)
by_snr c e n Greater h = inl (inl h)

pub IsBefore-either : (c e : HeardCopy) → c.gateway ≢ e.gateway → IsBefore c e ⊎ IsBefore e c
IsBefore-either c e n = by_snr c e n (int_cmp c.snr e.snr) (int_ranks c.snr e.snr)

-- Lists in which each member is before all later ones.

contains_cases : {X : Type 0} (x y : X) (xs : List X) → Contains (x ∷ xs) y → (x ≡ y) ⊎ Contains xs y
contains_cases x y xs (zero, l, e) = inl e
contains_cases x y xs (suc k, l, e) = inr (k, omega arith, e)

contains_rest : {X : Type 0} (x y : X) (xs : List X) → Contains xs y → Contains (x ∷ xs) y
contains_rest x y xs (k, l, e) = (suc k, omega arith, e)

-- two lists with the same members, each in that order, are equal
module _ {X : Type 0} (R : X → X → Type 0) (asym : (x y : X) → R x y → R y x → ⊥) where
  first_same : (x y : X) (xs ys : List X) → All (R x) xs → All (R y) ys → (y ≡ x) ⊎ Contains ys x → (x ≡ y) ⊎ Contains xs y
      → x ≡ y
  first_same x y xs ys p q (inl e) g = sym e
  first_same x y xs ys p q (inr f) (inl e) = e
  first_same x y xs ys p q (inr f) (inr g) = absurd (asym x y (All-contains (R x) xs y p g) (All-contains (R y) ys x q f))

  -- a member of the rest of one list is one of the rest of the other
  in_rest : (x y z : X) (xs ys : List X) → x ≡ y → All (R x) xs → Contains xs z → (y ≡ z) ⊎ Contains ys z → Contains ys z
  in_rest x y z xs ys e p c (inl f) =
      let P : X → Type 0 = λ w. R x w in
      let r : R x x = subst P (sym (e ∙ f)) (All-contains (R x) xs z p c) in
      absurd (asym x x r r)
  in_rest x y z xs ys e p c (inr g) = g

  pub same_order : (xs ys : List X) → AllPairs R xs → AllPairs R ys → ((z : X) → Contains xs z → Contains ys z)
      → ((z : X) → Contains ys z → Contains xs z) → xs ≡ ys
  same_order [] [] p q f g = refl
  same_order [] (y ∷ ys) p q f g = let c = g y (zero, omega arith, refl) in absurd (omega (arith, c.1))
  same_order (x ∷ xs) [] p q f g = let c = f x (zero, omega arith, refl) in absurd (omega (arith, c.1))
  same_order (x ∷ xs) (y ∷ ys) p q f g =
      let from_x = AllPairs-head R x xs p in
      let from_y = AllPairs-head R y ys q in
      let e : x ≡ y = first_same x y xs ys from_x from_y (contains_cases y x ys (f x (zero, omega arith, refl)))
      (contains_cases x y xs (g y (zero, omega arith, refl))) in
      let rest : xs ≡ ys =
      same_order xs ys (AllPairs-tail R x xs p) (AllPairs-tail R y ys q)
      (λ z c. in_rest x y z xs ys e from_x c (contains_cases y z ys (f z (contains_rest x z xs c))))
      (λ z c. in_rest y x z ys xs (sym e) from_y c (contains_cases x z xs (g z (contains_rest y z ys c)))) in
      cc

pub one_ranking : OneRanking
one_ranking copies a b p q =
    same_order IsBefore IsBefore-asym a b p.each_before_later q.each_before_later
    (λ z c. Contains-permutation copies b z q.permutation (Contains-permutation a copies z
    (IsPermutation-sym copies a p.permutation) c))
    (λ z c. Contains-permutation copies a z p.permutation (Contains-permutation b copies z
    (IsPermutation-sym copies b q.permutation) c))

-- a copy that is placed keeps each before all later ones
pairs_by : (c e : HeardCopy) (es : List HeardCopy) (t : Bool) → is_before c e ≡ t → IsBefore c e ⊎ IsBefore e c
    → AllPairs IsBefore (e ∷ es) → AllPairs IsBefore (placed c es) → AllPairs IsBefore (cond t (c ∷ e ∷ es) (e ∷ placed c es))
pairs_by c e es true t (inl h) p q =
    let from_e = AllPairs-head IsBefore e es p in
    AllPairs-cons IsBefore c (e ∷ es) (All-cons (IsBefore c) e es h
    (All-weaker (IsBefore e) (IsBefore c) (λ f g. IsBefore-trans c e f h g) es from_e)) p
pairs_by c e es true t (inr h) p q = absurd (true≢false (sym t ∙ (is_before-passes e c h).1))
pairs_by c e es false t (inl h) p q = absurd (true≢false (sym (is_before-passes c e h).0 ∙ t))
pairs_by c e es false t (inr h) p q =
    let from_e = AllPairs-head IsBefore e es p in
    AllPairs-cons IsBefore e (placed c es) (All-permutation (IsBefore e) (c ∷ es) (placed c es) (placed-permutation c es)
    (All-cons (IsBefore e) c es h from_e)) q

placed-pairs : (c : HeardCopy) (es : List HeardCopy) → All (λ e. c.gateway ≢ e.gateway) es → AllPairs IsBefore es
    → AllPairs IsBefore (placed c es)
placed-pairs c [] n p = AllPairs-cons IsBefore c [] (All-nil (IsBefore c)) p
placed-pairs c (e ∷ es) n p =
    pairs_by c e es (is_before c e) refl (IsBefore-either c e (n zero e (omega arith))) p
    (placed-pairs c es (λ k d l. n (suc k) d (omega arith)) (AllPairs-tail IsBefore e es p))

abbrev apart : HeardCopy → HeardCopy → Type 0
apart c e = c.gateway ≢ e.gateway

pub ranked-pairs : (copies : List HeardCopy) → HaveDistinctGateways copies → AllPairs IsBefore (ranked copies)
unfolding ranked
ranked-pairs [] n = λ i j d l g. absurd (omega arith)
ranked-pairs (c ∷ cs) n =
    placed-pairs c (ranked cs) (All-ranked (apart c) cs (AllPairs-head apart c cs n))
    (ranked-pairs cs (AllPairs-tail apart c cs n))

-- copies of different gateways, by rank, are a ranking
pub ranked-ranking : (copies : List HeardCopy) → HaveDistinctGateways copies → IsRanking copies (ranked copies)
ranked-ranking copies n = record { permutation = ranked-permutation copies; each_before_later = ranked-pairs copies n }

-- Gateways stay distinct where copies change places.

abbrev heard_by : HeardCopy → ℕ
heard_by c = c.gateway

distinct_from : (copies : List HeardCopy) → HaveDistinctGateways copies → IsDistinct nat_eq (map heard_by copies)
unfolding IsDistinct
distinct_from [] n = tt
distinct_from (c ∷ cs) n = (
  recursion_from_All (λ y. nat_eq c.gateway y ≡ false) (map heard_by cs)
      (All-map (λ y. nat_eq c.gateway y ≡ false) heard_by cs
      (λ k d l. let a = n zero (suc k) d (omega arith) (omega arith) in grind (arith, nat_tests))),
  distinct_from cs (AllPairs-tail apart c cs n),
)

apart_from : (c : HeardCopy) (cs : List HeardCopy) → All (λ y. nat_eq c.gateway y ≡ false) (map heard_by cs) → All (apart c) cs
apart_from c [] a k d l = absurd (omega arith)
apart_from c (e ∷ es) a zero d l = let n = a zero c.gateway (omega arith) in grind (arith, nat_tests)
apart_from c (e ∷ es) a (suc k) d l = apart_from c es (λ i g h. a (suc i) g (omega arith)) k d (omega arith)

from_distinct : (copies : List HeardCopy) → IsDistinct nat_eq (map heard_by copies) → HaveDistinctGateways copies
unfolding IsDistinct
from_distinct [] n = λ i j d l g. absurd (omega arith)
from_distinct (c ∷ cs) n =
    AllPairs-cons apart c cs (apart_from c cs (All-from_recursion (λ y. nat_eq c.gateway y ≡ false) (map heard_by cs) n.0))
    (from_distinct cs n.1)

flips : (x y : ℕ) → nat_eq x y ≡ nat_eq y x
flips x y = grind (arith, nat_tests)

pub HaveDistinctGateways-permutation : (a b : List HeardCopy) → IsPermutation a b → HaveDistinctGateways a
    → HaveDistinctGateways b
HaveDistinctGateways-permutation a b p n =
    from_distinct b (IsDistinct-IsPermutation nat_eq flips (map heard_by a) (map heard_by b) (IsPermutation-map heard_by a b p)
    (distinct_from a n))

use Rattle.std.specs.Prelude.{ℕ, ◌≡◌, ◌<◌, ◌≤◌, max, ◌==◌, ◌↔◌, ◌⊎◌, Bool, List, [], ◌∷◌, Option, Some}
use Rattle.std.specs.Prelude.{None, map, filter, Contains, All, MatchOption, refl}
use Rattle.std.specs.Option.{option_map}
use Rattle.std.proofs.Common.{sym, ap, ◌∙◌, arith, subst, zero, suc, inl, inr}
use Rattle.std.proofs.lemmas.Bool.{cases_lt, eqb-true, eq-eqb}
use Rattle.radio_bands.specs.declared.band.Band.{Band}
use Rattle.resv_list.specs.declared.reservation.Reservation.{Reservation}
use Rattle.resv_list.specs.Reservations.{spent}
use Rattle.resv_list.specs.Hours.{starts_in, greatest, most_spent}
use Rattle.gateway_book.specs.Least.{least}
use Rattle.gateway_book.proofs.LeastLaws.{least_is_least}
use Rattle.gateway_book.specs.Busiest.{IsBusiestAnswer, busiest_of}
use Rattle.gateway_book.proofs.DutyLaws.{OfStarts-from, all_at, Contains-filter, filter-Contains}
use Rattle.gateway_book.proofs.DutyRow.{none_more}

-- the greatest is one of the numbers, and none of them is greater
pub greatest_above : (f : ℕ → ℕ) (ns : List ℕ) (t : ℕ) → Contains ns t → f t ≤ greatest (map f ns)
greatest_above f [] t c = absurd (omega (arith, c.1))
greatest_above f (n ∷ ns) t (zero, h, g) = let e : f n ≡ f t = ap f g in omega arith
greatest_above f (n ∷ ns) t (suc k, h, g) = let i = greatest_above f ns t (k, omega arith, g) in omega arith

one_is : (f : ℕ → ℕ) (n : ℕ) (ns : List ℕ) → (f n ≤ greatest (map f ns)) ⊎ (greatest (map f ns) < f n)
    → (ns ≡ []) ⊎ ((t : ℕ) × Contains ns t × (f t ≡ greatest (map f ns)))
    → (t : ℕ) × Contains (n ∷ ns) t × (f t ≡ max (f n) (greatest (map f ns)))
one_is f n ns (inr h) o = (n, (zero, omega arith, refl), omega arith)
one_is f n ns (inl h) (inl e) = (n, (zero, omega arith, refl), let z : greatest (map f ns) ≡ 0 = rw e refl in omega arith)
one_is f n ns (inl h) (inr (t, (k, b, g), e)) = (t, (suc k, omega arith, g), omega (arith, e))

order_of : (a b : ℕ) → (a ≤ b) ⊎ (b < a)
order_of a b = elim (cases_lt b a) [ inl h ↦ inr h | inr h ↦ inl h ]

pub greatest_is : (f : ℕ → ℕ) (ns : List ℕ) → (ns ≡ []) ⊎ ((t : ℕ) × Contains ns t × (f t ≡ greatest (map f ns)))
greatest_is f [] = inl refl
greatest_is f (n ∷ ns) = inr (one_is f n ns (order_of (f n) (greatest (map f ns))) (greatest_is f ns))

answer_by : (l : List Reservation) (band : Band) (o : Option ℕ)
    → MatchOption o (filter (λ t. spent l band t == most_spent l band) (starts_in l band) ≡ [])
    (λ m. Contains (filter (λ t. spent l band t == most_spent l band) (starts_in l band)) m
    × All (λ n. m ≤ n) (filter (λ t. spent l band t == most_spent l band) (starts_in l band)))
    → IsBusiestAnswer l band (option_map (λ from. (from, spent l band from)) o)
answer_by l band None none = empty (greatest_is (spent l band) (starts_in l band))
  where
    empty : (starts_in l band ≡ []) ⊎ ((t : ℕ) × Contains (starts_in l band) t × (spent l band t ≡ most_spent l band))
        → starts_in l band ≡ []
    empty (inl e) = e
    empty (inr (t, c, e)) =
        let test : ℕ → Bool = λ s. spent l band s == most_spent l band in
        let P : List ℕ → Type 0 = λ ns. Contains ns t in
        let no : Contains [] t = subst P none (filter-Contains test t (starts_in l band)
        (eq-eqb (spent l band t) (most_spent l band) e) c) in
        absurd (omega (arith, no.1))
answer_by l band (Some m) found =
    let test : ℕ → Bool = λ s. spent l band s == most_spent l band in
    let is = Contains-filter test m (starts_in l band) found.0 in
    let top : spent l band m ≡ most_spent l band = eqb-true (spent l band m) (most_spent l band) is.0 in
    record {
      opens = is.1;
      airtime = refl;
      most = λ t. let h = none_more l band (most_spent l band)
          (OfStarts-from (λ s. spent l band s ≤ most_spent l band) band l
          (λ s c. greatest_above (spent l band) (starts_in l band) s c)) t in omega arith;
      first = λ t c e. all_at (λ n. m ≤ n) (filter test (starts_in l band)) t found.1
          (filter-Contains test t (starts_in l band) (eq-eqb (spent l band t) (most_spent l band) (e ∙ top)) c);
    }

pub busiest_answers : (l : List Reservation) (band : Band) → IsBusiestAnswer l band (busiest_of l band)
unfolding busiest_of
busiest_answers l band =
    answer_by l band (least (filter (λ t. spent l band t == most_spent l band) (starts_in l band)))
    (least_is_least (filter (λ t. spent l band t == most_spent l band) (starts_in l band)))

no_member : (ns : List ℕ) (t : ℕ) → ns ≡ [] → Contains ns t → ⊥
no_member ns t e c = let P : List ℕ → Type 0 = λ ms. Contains ms t in let no : Contains [] t = subst P e c in omega (arith, no.1)

one_busiest : (l : List Reservation) (band : Band) (o u : Option (ℕ × ℕ)) → IsBusiestAnswer l band o → IsBusiestAnswer l band u
    → o ≡ u
one_busiest l band None None a b = refl
one_busiest l band None (Some p) a b = absurd (no_member (starts_in l band) p.0 a b.opens)
one_busiest l band (Some p) None a b = absurd (no_member (starts_in l band) p.0 b a.opens)
one_busiest l band (Some p) (Some q) a b =
    let h = a.most q.0 in
    let g = b.most p.0 in
    let s : p.1 ≡ q.1 = omega (arith, a.airtime, b.airtime) in
    let i = a.first q.0 b.opens (omega (arith, b.airtime)) in
    let j = b.first p.0 a.opens (omega (arith, a.airtime)) in
    let f : p.0 ≡ q.0 = omega arith in
    ap Some (λ k. (f k, s k))

pub busiest_is_exact : (l : List Reservation) (band : Band) (o : Option (ℕ × ℕ))
    → IsBusiestAnswer l band o ↔ (o ≡ busiest_of l band)
busiest_is_exact l band o = (
  λ a. one_busiest l band o (busiest_of l band) a (busiest_answers l band),
  λ e. let P : Option (ℕ × ℕ) → Type 0 = λ u. IsBusiestAnswer l band u in subst P (sym e) (busiest_answers l band),
)

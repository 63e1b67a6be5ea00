use Rattle.std.specs.Prelude.{ℕ, ◌≡◌, ◌≢◌, ◌+◌, ◌≤◌, nat_lt, nat_le, ◌||◌, not, Bool, true, false, List, [], ◌∷◌, Some, None}
use Rattle.std.specs.Prelude.{filter, map, cond, slice_get, ⊤}
use Rattle.std.proofs.Common.{refl, subst, arith, zero, suc, inl, inr}
use Rattle.std.proofs.lemmas.Bool.{leb-true}
use Rattle.radio_bands.specs.declared.band.Band.{Band}
use Rattle.radio_bands.specs.Band.{hour, band_of}
use Rattle.resv_list.specs.declared.reservation.Reservation.{Reservation}
use Rattle.resv_list.specs.Reservations.{start_of, end_of, airtime_us, place}
use Rattle.resv_list.proofs.SortLemmas.{NoneAt, none_at_cons}
use Rattle.gateway_book.specs.declared.ask.Ask.{Ask}
use Rattle.gateway_book.specs.Disjoint.{AreDisjoint, overlaps, rested_from}
use Rattle.gateway_book.specs.Least.{least}
use Rattle.gateway_book.specs.Duty.{full_hour}
use Rattle.gateway_book.specs.Lawful.{AreApart, IsLawful}
use Rattle.gateway_book.specs.Answer.{Rules, IsAsked, overlap, refusal_of}
use Rattle.gateway_book.specs.Step.{State, terms_at, is_fit, is_fit-IsFit, reservation_of}
use Rattle.gateway_book.specs.Forgetting.{HaveOwnStarts}
use Rattle.gateway_book.proofs.AnswerLaws.{accepted, reservation_of-asked}
use Rattle.gateway_book.proofs.ApartLaws.{ends_later}
use Rattle.gateway_book.proofs.CancelLaws.{begun-filter}
use Rattle.gateway_book.proofs.DutyKept.{duty_placed}
use Rattle.gateway_book.proofs.OrderlyLaws.{all_fit, may_join}
use Rattle.gateway_book.proofs.SightLaws.{AreOwn}

-- What one step does to a list that need not be by start.

-- a fact of each member
abbrev pub OfEach : (Reservation → Type 0) → List Reservation → Type 0
OfEach P [] = ⊤
OfEach P (r ∷ l) = P r × OfEach P l

each_of : (P : Reservation → Type 0) (l : List Reservation) → ((j : ℕ) (s : Reservation) → slice_get l j ≡ Some s → P s)
    → OfEach P l
each_of P [] h = tt
each_of P (r ∷ l) h = (h zero r refl, each_of P l (λ j s e. h (suc j) s e))

each_at : (P : Reservation → Type 0) (l : List Reservation) (j : ℕ) (s : Reservation) → OfEach P l → slice_get l j ≡ Some s → P s
each_at P [] j s h e = absurd (cc)
each_at P (r ∷ l) zero s h e = let same : r ≡ s = cc in subst P same h.0
each_at P (r ∷ l) (suc j) s h e = each_at P l j s h.1 e

each_placed_by : (P : Reservation → Type 0) (r s : Reservation) (l : List Reservation) (t : Bool) → P r → OfEach P (s ∷ l)
    → OfEach P (place r l) → OfEach P (cond t (s ∷ place r l) (r ∷ s ∷ l))
each_placed_by P r s l true p h rest = (h.0, rest)
each_placed_by P r s l false p h rest = (p, h)

each_placed : (P : Reservation → Type 0) (r : Reservation) (l : List Reservation) → P r → OfEach P l → OfEach P (place r l)
each_placed P r [] p h = (p, tt)
each_placed P r (s ∷ l) p h = each_placed_by P r s l (nat_lt s.start r.start) p h (each_placed P r l p h.1)

each_filtered_by : (P : Reservation → Type 0) (r : Reservation) (l : List Reservation) (t : Bool) → P r → OfEach P l
    → OfEach P (cond t (r ∷ l) l)
each_filtered_by P r l true p h = (p, h)
each_filtered_by P r l false p h = h

each_filtered : (P : Reservation → Type 0) (test : Reservation → Bool) (l : List Reservation) → OfEach P l
    → OfEach P (filter test l)
each_filtered P test [] h = tt
each_filtered P test (r ∷ l) h = each_filtered_by P r (filter test l) (test r) h.0 (each_filtered P test l h.1)

-- each member is disjoint from those behind it
abbrev ArePairs : ℕ → List Reservation → Type 0
ArePairs gap [] = ⊤
ArePairs gap (r ∷ l) = OfEach (AreDisjoint gap r) l × ArePairs gap l

module _ (gap : ℕ) where
  turned : (r s : Reservation) → AreDisjoint gap r s → AreDisjoint gap s r
  turned r s (inl a) = inr a
  turned r s (inr b) = inl b

  pairs_of : (l : List Reservation) → AreApart gap l → ArePairs gap l
  pairs_of [] a = tt
  pairs_of (r ∷ l) a = (
    each_of (AreDisjoint gap r) l (λ j s e. a zero (suc j) r s refl e (λ n. absurd (omega arith))),
    pairs_of l (λ i j q s e f n. a (suc i) (suc j) q s e f (λ m. n (omega arith))),
  )

  of_pairs : (l : List Reservation) → ArePairs gap l → AreApart gap l
  of_pairs [] p i j r s e f n = absurd (cc)
  of_pairs (x ∷ l) p zero zero r s e f n = absurd (n refl)
  of_pairs (x ∷ l) p zero (suc j) r s e f n =
      let same : x ≡ r = cc in
      let P : Reservation → Type 0 = λ q. AreDisjoint gap q s in
      subst P same (each_at (AreDisjoint gap x) l j s p.0 f)
  of_pairs (x ∷ l) p (suc i) zero r s e f n =
      let same : x ≡ s = cc in
      let P : Reservation → Type 0 = λ q. AreDisjoint gap r q in
      subst P same (turned x r (each_at (AreDisjoint gap x) l i r p.0 e))
  of_pairs (x ∷ l) p (suc i) (suc j) r s e f n = of_pairs l p.1 i j r s e f (λ m. n (omega arith))

  pairs_placed_by : (r s : Reservation) (l : List Reservation) (t : Bool) → OfEach (AreDisjoint gap r) (s ∷ l)
      → ArePairs gap (s ∷ l)
      → ArePairs gap (place r l) → ArePairs gap (cond t (s ∷ place r l) (r ∷ s ∷ l))
  pairs_placed_by r s l true h p rest = (each_placed (AreDisjoint gap s) r l (turned r s h.0) p.0, rest)
  pairs_placed_by r s l false h p rest = (h, p)

  pairs_placed : (r : Reservation) (l : List Reservation) → OfEach (AreDisjoint gap r) l → ArePairs gap l
      → ArePairs gap (place r l)
  pairs_placed r [] h p = (tt, tt)
  pairs_placed r (s ∷ l) h p = pairs_placed_by r s l (nat_lt s.start r.start) h p (pairs_placed r l h.1 p.1)

  pairs_filtered_by : (r : Reservation) (l : List Reservation) (t : Bool) → OfEach (AreDisjoint gap r) l → ArePairs gap l
      → ArePairs gap (cond t (r ∷ l) l)
  pairs_filtered_by r l true h p = (h, p)
  pairs_filtered_by r l false h p = p

  pairs_filtered : (test : Reservation → Bool) (l : List Reservation) → ArePairs gap l → ArePairs gap (filter test l)
  pairs_filtered test [] p = tt
  pairs_filtered test (r ∷ l) p =
      pairs_filtered_by r (filter test l) (test r) (each_filtered (AreDisjoint gap r) test l p.0) (pairs_filtered test l p.1)

  -- a reservation that overlaps no member is disjoint from each
  clear_by : (r s : Reservation) (l ps : List Reservation) (t : Bool)
      → overlaps start_of (rested_from gap) r.start (rested_from gap r) s ≡ t
      → least (map start_of (cond t (s ∷ ps) ps)) ≡ None → (least (map start_of ps) ≡ None → OfEach (AreDisjoint gap r) l)
      → OfEach (AreDisjoint gap r) (s ∷ l)
  clear_by r s l ps true o e rest = absurd (cc)
  clear_by r s l ps false o e rest = (
    by (nat_le (rested_from gap s) r.start) (nat_le (rested_from gap r) s.start) refl refl o,
    rest e,
  )
    where
      by : (p q : Bool) → nat_le (rested_from gap s) r.start ≡ p → nat_le (rested_from gap r) s.start ≡ q
          → not (p || q) ≡ false → AreDisjoint gap r s
      by true q a b f = inr (leb-true (rested_from gap s) r.start a)
      by false true a b f = inl (leb-true (rested_from gap r) s.start b)
      by false false a b f = absurd (cc)

  clear_of : (r : Reservation) (l : List Reservation) → overlap gap l r.start (end_of r) ≡ None → OfEach (AreDisjoint gap r) l
  unfolding overlap
  clear_of r [] e = tt
  clear_of r (s ∷ l) e =
      clear_by r s l (filter (overlaps start_of (rested_from gap) r.start (rested_from gap r)) l)
      (overlaps start_of (rested_from gap) r.start (rested_from gap r) s) refl e (clear_of r l)

  apart_starts : (r s : Reservation) → AreDisjoint gap r s → s.start ≢ r.start
  apart_starts r s (inl a) e = let p = ends_later r in omega arith
  apart_starts r s (inr b) e = let p = ends_later s in omega arith

pub none_there : (gap : ℕ) (r : Reservation) (l : List Reservation) → OfEach (AreDisjoint gap r) l → NoneAt start_of r.start l
none_there gap r [] h = λ i d l. absurd (omega arith)
none_there gap r (s ∷ l) h = none_at_cons start_of r.start s l (apart_starts gap r s h.0) (none_there gap r l h.1)

-- starts of their own, member by member
none_of_each : (k : ℕ) (l : List Reservation) → OfEach (λ s. s.start ≢ k) l → NoneAt start_of k l
none_of_each k [] h = λ i d l. absurd (omega arith)
none_of_each k (s ∷ l) h = none_at_cons start_of k s l h.0 (none_of_each k l h.1)

pub own_of : (l : List Reservation) → HaveOwnStarts l → AreOwn l
own_of [] h = tt
own_of (r ∷ l) h = (
  none_of_each r.start l (each_of (λ s. s.start ≢ r.start) l
      (λ j s e. h (suc j) zero s r e refl (λ n. absurd (omega arith)))),
  own_of l (λ i j q s e f n. h (suc i) (suc j) q s e f (λ m. n (omega arith))),
)

-- the reservation that an accepted ask becomes
some_asked : (ask : Ask) → is_fit ask ≡ true → (r : Reservation) × IsAsked ask r
some_asked ask e = (
  record {
    number = ask.number;
    start = ask.start;
    freq_hz = ask.freq_hz;
    rate = ask.rate;
    len = ask.len;
    fit = is_fit-IsFit ask e;
  },
  record { number = refl; start = refl; freq_hz = refl; rate = refl; len = refl },
)

-- what is known where an ask is accepted
pub record IsJoined (rules : Rules) (s : State) (ask : Ask) (r : Reservation) : Type 0 where
  pub made : reservation_of ask ≡ Some r
  pub ahead : s.floor ≤ r.start
  pub clear : OfEach (AreDisjoint rules.gap r) s.list
  pub duty : (band : Band) → band_of r.freq_hz r.rate ≡ Some band → full_hour s.list band r.start (airtime_us r) ≡ None

pub joined : (rules : Rules) (s : State) (ask : Ask) → refusal_of (terms_at rules s) s.list ask ≡ None
    → (r : Reservation) × IsJoined rules s ask r
joined rules s ask e =
    let a = accepted (terms_at rules s) s.list ask e in
    let some = some_asked ask a.fit in
    let may = may_join (terms_at rules s) s.list ask some.0 some.1 e in (
      some.0,
      record {
        made = reservation_of-asked ask some.0 a.fit some.1;
        ahead = rw some.1.start a.ahead;
        clear = clear_of rules.gap some.0 s.list may.clear;
        duty = may.duty;
      },
    )

-- a lawful list stays lawful with an accepted ask, and without a member
pub lawful_placed : (gap : ℕ) (l : List Reservation) (r : Reservation) → IsLawful gap l → OfEach (AreDisjoint gap r) l
    → ((band : Band) → band_of r.freq_hz r.rate ≡ Some band → full_hour l band r.start (airtime_us r) ≡ None)
    → IsLawful gap (place r l)
lawful_placed gap l r w c d =
    record {
      fit = all_fit (place r l);
      apart = of_pairs gap (place r l) (pairs_placed gap r l c (pairs_of gap l w.apart));
      duty = duty_placed l r w.duty d;
    }

pub lawful_filtered : (gap : ℕ) (test : Reservation → Bool) (l : List Reservation) → IsLawful gap l
    → IsLawful gap (filter test l)
lawful_filtered gap test l w =
    record {
      fit = all_fit (filter test l);
      apart = of_pairs gap (filter test l) (pairs_filtered gap test l (pairs_of gap l w.apart));
      duty = λ band t. omega (arith, begun-filter band t (t + hour) test l, w.duty band t);
    }

use Rattle.std.specs.Prelude.{ℕ, ◌≡◌, ◌+◌, ◌-◌, ◌<◌, ◌≤◌, is_none, Bool, true, List, [], filter, Option, Some, None}
use Rattle.std.specs.Prelude.{Contains, All, MatchOption}
use Rattle.std.proofs.Common.{refl, sym, ap, subst, arith, zero, suc, inl, inr}
use Rattle.std.proofs.lemmas.Bool.{cases_lt}
use Rattle.resv_list.specs.declared.reservation.Reservation.{Reservation}
use Rattle.gateway_book.specs.declared.ask.Ask.{Ask}
use Rattle.gateway_book.specs.declared.refusal.Refusal.{Refusal}
use Rattle.gateway_book.specs.Answer.{Terms, refusal_of}
use Rattle.gateway_book.specs.Book.{Book, terms_of}
use Rattle.gateway_book.specs.Least.{least}
use Rattle.gateway_book.specs.Earliest.{at_start, Accepts, IsEarliest, IsNextStart}
use Rattle.gateway_book.specs.EarliestValue.{moments_from, moments, earliest_of, EarliestIsExact}
use Rattle.gateway_book.specs.Remembers.{StandsFor}
use Rattle.gateway_book.specs.Step.{State, terms_at}
use Rattle.gateway_book.proofs.DutyLaws.{Contains-filter, filter-Contains, all_at}
use Rattle.gateway_book.proofs.LeastLaws.{least_is_least}
use Rattle.gateway_book.proofs.StandingLaws.{stands_answer}

-- The earliest start is one value.

-- the moments from a to z are those that are neither before a nor after z
moment_from : (a n s : ℕ) → a ≤ s → s < a + n → Contains (moments_from a n) s
moment_from a zero s h g = absurd (omega arith)
moment_from a (suc n) s h g =
    elim (cases_lt a s) [
      | inl k ↦ let c = moment_from (a + 1) n s (omega arith) (omega arith) in (suc c.0, omega (arith, c.1), c.2)
      | inr k ↦ let e : a ≡ s = omega arith in (zero, omega arith, e)
    ]

from_moment : (a n s : ℕ) → Contains (moments_from a n) s → (a ≤ s) × (s < a + n)
from_moment a zero s c = absurd (omega (arith, c.1))
from_moment a (suc n) s (zero, h, g) = let e : a ≡ s = g in (omega (arith, e), omega (arith, e))
from_moment a (suc n) s (suc k, h, g) =
    let i = from_moment (a + 1) n s (k, omega arith, g) in (omega (arith, i.0), omega (arith, i.1))

-- an ask is accepted where it has no refusal
passes : (o : Option Refusal) → o ≡ None → is_none o ≡ true
passes o e = rw e refl

passed : (o : Option Refusal) → is_none o ≡ true → o ≡ None
passed None e = refl
passed (Some refusal) e = absurd (cc)

module _ (terms : Terms) (l : List Reservation) (ask : Ask) (a z : ℕ) where
  abbrev is_accepted : ℕ → Bool
  is_accepted s = is_none (refusal_of terms l (at_start ask s))

  accepted_moment : (s : ℕ) → a ≤ s → s ≤ z → Accepts terms l ask s → Contains (filter is_accepted (moments a z)) s
  accepted_moment s h g acc =
      filter-Contains is_accepted s (moments a z) (passes (refusal_of terms l (at_start ask s)) acc)
      (moment_from a (z + 1 - a) s h (omega arith))

  answer_by : (o : Option ℕ) → MatchOption o (filter is_accepted (moments a z) ≡ [])
      (λ m. Contains (filter is_accepted (moments a z)) m × All (λ n. m ≤ n) (filter is_accepted (moments a z)))
      → IsEarliest terms l ask a z o
  answer_by None none = λ t h acc. elim (cases_lt z t) [
    | inl k ↦ k
    | inr k ↦
        let P : List ℕ → Type 0 = λ ns. Contains ns t in
        let no : Contains [] t = subst P none (accepted_moment t h k acc) in
        absurd (omega (arith, no.1))
  ]
  answer_by (Some m) found =
      let is = Contains-filter is_accepted m (moments a z) found.0 in
      let within = from_moment a (z + 1 - a) m is.1 in
      record {
        from = within.0;
        to = omega (arith, within.0, within.1);
        accepted = passed (refusal_of terms l (at_start ask m)) is.0;
        least = λ t h acc. elim (cases_lt z t) [
          | inl k ↦ omega (arith, within.0, within.1, k)
          | inr k ↦ all_at (λ n. m ≤ n) (filter is_accepted (moments a z)) t found.1 (accepted_moment t h k acc)
        ];
      }

  earliest_answers : IsEarliest terms l ask a z (earliest_of terms l ask a z)
  unfolding earliest_of
  earliest_answers =
      answer_by (least (filter is_accepted (moments a z))) (least_is_least (filter is_accepted (moments a z)))

  one_earliest : (o u : Option ℕ) → IsEarliest terms l ask a z o → IsEarliest terms l ask a z u → o ≡ u
  one_earliest None None e f = refl
  one_earliest None (Some m) e f = absurd (let h = e m f.from f.accepted in omega (arith, h, f.to))
  one_earliest (Some m) None e f = absurd (let h = f m e.from e.accepted in omega (arith, h, e.to))
  one_earliest (Some m) (Some n) e f =
      let h = e.least n f.from f.accepted in
      let g = f.least m e.from e.accepted in
      let same : m ≡ n = omega arith in
      ap Some same

pub earliest_is_exact : EarliestIsExact
earliest_is_exact terms l ask a z o = (
  λ e. one_earliest terms l ask a z o (earliest_of terms l ask a z) e (earliest_answers terms l ask a z),
  λ e. let P : Option ℕ → Type 0 = λ u. IsEarliest terms l ask a z u in subst P (sym e) (earliest_answers terms l ask a z),
)

-- what a search has found, that has come to `start` and from where no start before it is accepted
module _ (terms : Terms) (l : List Reservation) (ask : Ask) (a z start : ℕ) (reached : a ≤ start)
    (so_far : (t : ℕ) → a ≤ t → Accepts terms l ask t → start ≤ t) where
  pub found_here : (next : ℕ) → start ≤ z → IsNextStart terms l (at_start ask start) (Some next) → next ≡ start
      → Some start ≡ earliest_of terms l ask a z
  found_here next h (inl acc) e =
      let P : ℕ → Type 0 = λ s. Accepts terms l ask s in
      (earliest_is_exact terms l ask a z (Some start)).0
      (record { from = reached; to = h; accepted = subst P e acc.1; least = so_far })
  found_here next h (inr later) e = absurd (omega (arith, later.0, e))

  pub found_nowhere : IsNextStart terms l (at_start ask start) None → None ≡ earliest_of terms l ask a z
  found_nowhere never =
      (earliest_is_exact terms l ask a z None).0
      (λ t h acc. let i = so_far t h acc in let k = never t i acc in absurd (omega (arith, i, k)))

  pub found_past : z < start → None ≡ earliest_of terms l ask a z
  found_past h = (earliest_is_exact terms l ask a z None).0 (λ t g acc. let i = so_far t g acc in omega (arith, i, h))

-- what answers each ask alike has the same earliest start
same_earliest : (f g : Ask → Option Refusal) (ask : Ask) (ns : List ℕ) → ((x : Ask) → f x ≡ g x)
    → least (filter (λ s. is_none (f (at_start ask s))) ns) ≡ least (filter (λ s. is_none (g (at_start ask s))) ns)
same_earliest f g ask ns h =
    ap (λ (k : Ask → Option Refusal). least (filter (λ s. is_none (k (at_start ask s))) ns)) (λ i x. h x i)

-- a book has the earliest start of a state that it stands for
pub stands_earliest : (b : Book) (s : State) → StandsFor b s → (ask : Ask) (a z : ℕ)
    → earliest_of (terms_of b) b.list ask a z ≡ earliest_of (terms_at b.rules s) s.list ask a z
unfolding earliest_of
stands_earliest b s h ask a z =
    same_earliest (refusal_of (terms_of b) b.list) (refusal_of (terms_at b.rules s) s.list) ask (moments a z)
    (λ x. stands_answer b s h x)

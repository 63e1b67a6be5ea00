use Rattle.std.specs.Prelude.{ℕ, ◌≡◌, ◌+◌, ◌<◌, ◌≤◌, max, List, ◌⊎◌, Option, None, Contains, MatchOption}
use Rattle.radio_bands.specs.Band.{hour}
use Rattle.resv_list.specs.declared.reservation.Reservation.{Reservation}
use Rattle.gateway_book.specs.declared.ask.Ask.{Ask}
use Rattle.gateway_book.specs.Answer.{Terms, refusal_of}
use Rattle.gateway_book.specs.Disjoint.{rested_from}

-- The earliest start at which an ask would be accepted.

-- what is asked for, at this start
abbrev pub at_start : Ask → ℕ → Ask
at_start ask s = record ask { start = s }

-- the ask is accepted at this start
abbrev pub Accepts : Terms → List Reservation → Ask → ℕ → Type 0
Accepts terms l ask s = refusal_of terms l (at_start ask s) ≡ None

-- it lies from a to z, the ask is accepted at it, and at no earlier start from a on
pub record IsLeastAccepted (terms : Terms) (l : List Reservation) (ask : Ask) (a z s : ℕ) : Type 0 where
  pub from : a ≤ s
  pub to : s ≤ z
  pub accepted : Accepts terms l ask s
  pub least : (t : ℕ) → a ≤ t → Accepts terms l ask t → s ≤ t

-- the same as an answer: none where the ask is accepted at no start from a to z
abbrev pub IsEarliest : Terms → List Reservation → Ask → ℕ → ℕ → Option ℕ → Type 0
IsEarliest terms l ask a z o =
    MatchOption o ((t : ℕ) → a ≤ t → Accepts terms l ask t → z < t) (IsLeastAccepted terms l ask a z)

-- where to look on: the ask is accepted at its own start, or at no start before the next one; none where it is accepted
-- neither at its own start nor later
abbrev pub IsNextStart : Terms → List Reservation → Ask → Option ℕ → Type 0
IsNextStart terms l ask o =
    MatchOption
    o
    ((t : ℕ) → ask.start ≤ t → Accepts terms l ask t → t < ask.start)
    (λ n. ((n ≡ ask.start) × Accepts terms l ask n)
    ⊎ ((ask.start < n) × ((t : ℕ) → ask.start ≤ t → Accepts terms l ask t → n ≤ t)))

-- the least allowed start, the end of a member and the gap after it, or an hour after the start of one
abbrev pub IsCandidate : Terms → List Reservation → ℕ → ℕ → Type 0
IsCandidate terms l a s =
    (s ≡ max a terms.floor)
    ⊎ ((r : Reservation) × Contains l r × ((s ≡ rested_from terms.rules.gap r) ⊎ (s ≡ r.start + hour)))

-- the law: the least accepted start is one of these, for every list
abbrev pub EarliestCandidates : Type 0
EarliestCandidates =
    (terms : Terms) (l : List Reservation) (ask : Ask) (a z s : ℕ) → IsLeastAccepted terms l ask a z s → IsCandidate terms l a s

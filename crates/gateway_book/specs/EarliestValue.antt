use Rattle.std.specs.Prelude.{ℕ, ◌≡◌, ◌+◌, ◌-◌, ◌↔◌, is_none, List, [], ◌∷◌, filter, Option}
use Rattle.std.proofs.Common.{zero, suc}
use Rattle.resv_list.specs.declared.reservation.Reservation.{Reservation}
use Rattle.gateway_book.specs.declared.ask.Ask.{Ask}
use Rattle.gateway_book.specs.Answer.{Terms, refusal_of}
use Rattle.gateway_book.specs.Least.{least}
use Rattle.gateway_book.specs.Earliest.{at_start, IsEarliest}

-- The earliest start as one value.

-- so many moments from a on
abbrev pub moments_from : ℕ → ℕ → List ℕ
moments_from a zero = []
moments_from a (suc n) = a ∷ moments_from (a + 1) n

-- the moments from a to z
abbrev pub moments : ℕ → ℕ → List ℕ
moments a z = moments_from a (z + 1 - a)

-- the least of those at which the ask is accepted; none where there is none
unfoldable pub earliest_of : Terms → List Reservation → Ask → ℕ → ℕ → Option ℕ
earliest_of terms l ask a z = least (filter (λ s. is_none (refusal_of terms l (at_start ask s))) (moments a z))

-- the law: for every list the answer is the earliest start, and there is one such answer
abbrev pub EarliestIsExact : Type 0
EarliestIsExact =
    (terms : Terms) (l : List Reservation) (ask : Ask) (a z : ℕ) (o : Option ℕ)
    → IsEarliest terms l ask a z o ↔ (o ≡ earliest_of terms l ask a z)

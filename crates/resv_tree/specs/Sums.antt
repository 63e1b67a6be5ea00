use Rattle.std.specs.Prelude.{ℕ, ◌≡◌, ◌+◌, ◌*◌, Bool, false, nat_eq}
use Rattle.radio_bands.specs.declared.band.Band.{Band}
use Rattle.radio_bands.specs.declared.band.Band.TheVariants.{K, L, M, N, P, Q}
use Rattle.resv_tree.specs.declared.sums.Sums.{Sums}

-- Airtime by sub-bands.

-- what is kept for a sub-band, in quarters of the shortest symbol
abbrev pub quarters_in : Sums → Band → ℕ
quarters_in s K = s.k
quarters_in s L = s.l
quarters_in s M = s.m
quarters_in s N = s.n
quarters_in s P = s.p
quarters_in s Q = s.q

-- the same in microseconds
abbrev pub sum_in : Sums → Band → ℕ
sum_in s band = 128 * quarters_in s band

-- the sub-bands by their order, and whether two of them are one
abbrev pub order_of : Band → ℕ
order_of K = 0
order_of L = 1
order_of M = 2
order_of N = 3
order_of P = 4
order_of Q = 5

-- whether two sub-bands are the same
abbrev pub is_same : Band → Band → Bool
is_same a b = nat_eq (order_of a) (order_of b)

-- in each other sub-band there is neither more nor less
abbrev pub IsOnly : Band → (Band → ℕ) → (Band → ℕ) → Type 0
IsOnly band more less = (other : Band) → is_same other band ≡ false → more other + less other ≡ 0

-- the sum of all sub-bands in microseconds
abbrev pub sum_of_all : Sums → ℕ
sum_of_all s = 128 * (s.k + s.l + s.m + s.n + s.p + s.q)

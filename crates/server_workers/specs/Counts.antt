use Rattle.std.specs.Prelude.{ℕ, ◌≡◌, Option, IfSome, IsSomeAnd, Vec, vec_len}
use Rattle.server_workers.specs.declared.summing.Counts.{Counts}

-- What is counted when the workers' lists were put together.

-- so many workers began, the lists have so many items, and so many tries went on at a gate that didn't let them in
pub record IsCountOf (c : Counts) (booked ended later never handed late ran : ℕ) : Type 0 where
  pub receipts : c.receipts ≡ booked
  pub outcomes : c.outcomes ≡ ended
  pub skipped : c.skipped ≡ later
  pub refused : c.refused ≡ never
  pub strays : c.strays ≡ handed
  pub overrun : c.overrun ≡ late
  pub begun : c.begun ≡ ran

-- once it is counted, it is so
abbrev pub AreCounted : {R O S F T A : Type 0} → Option Counts → Vec R A → Vec O A → Vec S A → Vec F A → Vec T A → ℕ → ℕ → Type 0
AreCounted counts booked ended later never handed late ran =
    IfSome counts (λ c. IsCountOf c (vec_len booked) (vec_len ended) (vec_len later) (vec_len never) (vec_len handed) late ran)

-- it is counted, and so many workers were asked for
abbrev pub WereAsked : ℕ → Option Counts → Type 0
WereAsked workers counts = IsSomeAnd counts (λ c. c.hired ≡ workers)

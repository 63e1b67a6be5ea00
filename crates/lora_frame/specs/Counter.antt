-- The whole counter of an uplink from the 16 bits that the frame has (LoRaWAN L2 1.0.4 section 4.3.1.5).
use Rattle.std.specs.Prelude.{◌≡◌, ℕ, ◌+◌, ◌-◌, ◌%◌, ◌^◌, ◌<◌, ◌≤◌, nat_lt, Option, Some, None, unwrap_or, MatchOption}
use Rattle.std.specs.Prelude.{if◌then◌else◌}

-- the least number not below n whose low 16 bits are low
abbrev pub next_with_low : ℕ → ℕ → ℕ
next_with_low n low = n + (low + 65536 - n % 65536) % 65536

-- the next counter with these low 16 bits, from the last one on, which may be repeated, or from 0 where
-- there is none; none above 4,294,967,295
abbrev pub inferred_counter : Option ℕ → ℕ → Option ℕ
inferred_counter last low =
    if nat_lt (next_with_low (unwrap_or last 0) low) (2 ^ 32) then Some (next_with_low (unwrap_or last 0) low) else None

-- next_with_low is what its name says, for every 16 bits: it has these low bits, is not below n, and is
-- the least such number
pub record IsNextWithLow (n low next : ℕ) : Type 0 where
  pub same_low : next % 65536 ≡ low
  pub not_below : n ≤ next
  pub least : (k : ℕ) → n ≤ k → k % 65536 ≡ low → next ≤ k

-- what `infer` answers is the least counter that the frame can have, and it answers none only where that
-- one does not fit 32 bits
abbrev pub InferIsLeast : Type 0
InferIsLeast = (last : Option ℕ) (low : ℕ) → low < 65536
    → MatchOption (inferred_counter last low) ((k : ℕ) → unwrap_or last 0 ≤ k → k % 65536 ≡ low → 2 ^ 32 ≤ k)
    (IsNextWithLow (unwrap_or last 0) low)

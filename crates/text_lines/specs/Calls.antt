-- What one call of a reader or a writer does to its count of failed calls.
use Rattle.std.specs.Prelude.{◌≡◌, ℕ, ◌+◌, ◌%◌, ◌^◌, Bool, if◌then◌else◌, Result, Ok, Err, MatchResult}

-- One failed call more. The count is kept in 64 bits, so it starts again at 0 after 2^64 failed calls.
abbrev pub next_count : ℕ → ℕ
next_count count = (count + 1) % 2 ^ 64

-- a call failed once exactly where a fault of this kind is answered, and else none did
abbrev pub CountsWhere : {T E : Type 0} → (E → Bool) → ℕ → ℕ → Result T E → Type 0
CountsWhere is_one old new (Ok _) = new ≡ old
CountsWhere is_one old new (Err fault) = new ≡ (if is_one fault then next_count old else old)

-- the count of failed calls rose by one exactly where the call answered `Err`, and else stayed
abbrev pub CountsFailure : {T E : Type 0} → ℕ → ℕ → Result T E → Type 0
CountsFailure old new result = MatchResult result (λ _. new ≡ old) (λ _. new ≡ next_count old)

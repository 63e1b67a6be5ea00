use Rattle.std.specs.Prelude.{ℕ, ◌-◌, ◌*◌, ◌^◌, ◌==◌, Bool, true, false, if◌then◌else◌, nat_le, min, max, List, Option, Some, None}

-- What a server knows of its journal.

-- what tells each device's session from others of the same address; how many bytes may be added before the journal is written anew;
-- and, where a write failed, what the server's clock showed then, in microseconds: until one succeeds nothing is sent
pub record Kept : Type 0 where
  pub sessions : List (ℕ × List ℕ)
  pub left : ℕ
  pub failed_at : Option ℕ

-- behind a whole journal of so many bytes at least 1 MiB may be added, and four times as many as it has
abbrev pub room_behind : ℕ → ℕ
room_behind len = max 1048576 (min (4 * len) (2 ^ 64 - 1))

-- after bytes were added, after a write that failed, and after a whole journal of so many bytes was put in place
abbrev pub with_added : ℕ → Kept → Kept
with_added len k = record k { left = k.left - len }

abbrev pub with_failure : ℕ → Kept → Kept
with_failure now k = record k { failed_at = Some now }

abbrev pub with_renewal : ℕ → Kept → Kept
with_renewal len k = record k { left = room_behind len; failed_at = None }

-- where something was kept back, no batch tells that its device gave a counter, and what waited: so there is no more room
abbrev pub with_kept_back : Bool → Kept → Kept
with_kept_back any k = record k { left = if any then 0 else k.left }

-- it was put in place, or that failed
abbrev pub kept_after : ℕ → Bool → ℕ → Kept → Kept
kept_after now true len k = with_renewal len k
kept_after now false len k = with_failure now k

-- how long after a failure the journal is written anew, in microseconds
abbrev pub renewed_every : ℕ
renewed_every = 10000000

-- it is written anew 10 s after a failure, and else where there is no more room
abbrev pub is_renewed_at : ℕ → Option ℕ → ℕ → Bool
is_renewed_at now None left = left == 0
is_renewed_at now (Some at) left = nat_le renewed_every (now - at)

abbrev pub is_renewed : ℕ → Kept → Bool
is_renewed now k = is_renewed_at now k.failed_at k.left

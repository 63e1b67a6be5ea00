-- A message that is taken in piece by piece.
use Rattle.std.specs.Prelude.{◌≡◌, ℕ, ◌-◌, ◌*◌, ◌/◌, List, length, drop}
use Rattle.aes_cmac.specs.Mac.{chain_after}

-- what is known of a message so far: the key, X after its blocks but the last (RFC 4493 section 2.4,
-- step 6), and the bytes after them
pub record Progress : Type 0 where
  pub key : List ℕ
  pub chain : List ℕ
  pub tail : List ℕ

-- how many blocks of a message of n bytes come before its last, which may be short
abbrev pub full_blocks : ℕ → ℕ
full_blocks n = (n - 1) / 16

-- the message m was taken in under the key
pub record HasTaken (s : Progress) (key m : List ℕ) : Type 0 where
  pub same_key : s.key ≡ key
  pub chain_is : s.chain ≡ chain_after key m (full_blocks (length m))
  pub tail_is : s.tail ≡ drop (16 * full_blocks (length m)) m

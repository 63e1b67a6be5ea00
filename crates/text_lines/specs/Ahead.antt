-- Bytes that were read ahead of their caller.
use Rattle.std.specs.Prelude.{◌≡◌, ℕ, ◌+◌, ◌≤◌, List, length, Option}
use Rattle.std.specs.Io.KnownBytes.{Consumes, prepend_known}

-- the most bytes that an input may have: 2^28
abbrev pub most_input : ℕ
most_input = 268435456

-- `pending` was read and is not yet taken; `taken` is how many bytes were taken before it
pub record Ahead : Type 0 where
  pub pending : List ℕ
  pub taken : ℕ

-- the bytes that are not yet taken: those that were read, and then those that the reader has left
abbrev pub unread : Ahead → Option (List ℕ) → Option (List ℕ)
unread ahead left = prepend_known ahead.pending left

-- how many bytes were read
abbrev pub read_count : Ahead → ℕ
read_count ahead = ahead.taken + length ahead.pending

-- some bytes were taken off the front, and counted
pub record TakesFront (old : Ahead) (left : Option (List ℕ)) (new : Ahead) (left_after : Option (List ℕ)) : Type 0 where
  pub front : List ℕ
  pub consumed : Consumes (unread old left) (unread new left_after) front
  pub counted : new.taken ≡ old.taken + length front

-- The places in the buffer are in order, and what was read is at most one read over 2^28 bytes.
pub record IsWithin (start end taken : ℕ) : Type 0 where
  pub ordered : start ≤ end
  pub in_buffer : end ≤ 4096
  pub count : taken + end ≤ 268439552 + start

use Rattle.std.specs.Prelude.{ℕ, ◌≡◌, ◌+◌, ◌-◌, ◌^◌, min, max, ⊤, List, ◌++◌, map, take, length, Option, Some, None}
use Rattle.std.specs.Option.{option_map}

-- What a source of datagrams gives, receive by receive.

-- what a receive gave: a datagram, or nothing where it failed
abbrev pub Received : Type 0
Received = Option (List ℕ)

-- the room that a receive has: that of the longest datagram that is answered, 1,026 bytes, and of one byte more, by which a
-- longer one is told
abbrev pub datagram_room : ℕ
datagram_room = 1027

-- so many bytes were put into the front of these
abbrev pub given : Option ℕ → List ℕ → Received
given count into = option_map (λ n. take n into) count

-- what is known of a source: how many receives were made, and for each of them how many bytes there was room for and what it
-- gave, if the source tells it
pub record Seen : Type 0 where
  pub receives : ℕ
  pub received : Option (List (ℕ × Received))

-- receives that gave this, each of them with so much room
abbrev pub with_room : ℕ → List Received → List (ℕ × Received)
with_room room received = map (λ r. (room, r)) received

-- what more was received, with so much room, stands behind what was received before, where the source tells it
abbrev pub AreBehind : ℕ → List Received → Option (List (ℕ × Received)) → Option (List (ℕ × Received)) → Type 0
AreBehind room more None new = ⊤
AreBehind room more (Some old) None = ⊥
AreBehind room more (Some old) (Some new) = new ≡ old ++ with_room room more

-- a count that has risen by so much, but not above 2^64 - 1, where it stays
abbrev pub risen : ℕ → ℕ → ℕ
risen count more = min (count + more) (max count (2 ^ 64 - 1))

-- so many receives were made, each of them with room for so many bytes, and gave this
pub record AreMade (room turns : ℕ) (old new : Seen) (received : List Received) : Type 0 where
  pub number : length received ≡ turns
  pub counted : new.receives ≡ risen old.receives turns
  pub told : AreBehind room received old.received new.received

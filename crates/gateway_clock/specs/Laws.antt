use Rattle.std.specs.Prelude.{ℕ, ◌≡◌, ◌+◌, ◌-◌, ◌%◌, ◌^◌, ◌<◌, ◌≤◌, ◌↔◌, false, List, [], ◌∷◌, All, slice_get, Some}
use Rattle.gateway_clock.specs.Clock.{Clock, IsClock, Heard, line, ceiling, latest, fast, nearest, now_of, heard, tmst_of}

-- What holds of a gateway's clock, whatever its packets tell.

-- a moment has these 32 bits, and is at most 2^31 below the line, or less than 2^31 above it
pub record IsNearest (line bits w : ℕ) : Type 0 where
  pub same_bits : w % 2 ^ 32 ≡ bits % 2 ^ 32
  pub from : line ≤ w + 2 ^ 31
  pub upto : w < line + 2 ^ 31

-- the law: the nearest moment is the only one
abbrev pub NearestIsTheOnlyOne : Type 0
NearestIsTheOnlyOne = (line bits w : ℕ) → (nearest line bits ≡ Some w) ↔ IsNearest line bits w

-- what a packet tells: its counter, and what the server's clock shows when it comes
pub record Packet : Type 0 where
  pub tmst : ℕ
  pub comes : ℕ

-- packets that come one after another: what is heard of each
abbrev pub heard_all : Clock → List Packet → List Heard
heard_all c [] = []
heard_all c (p ∷ ps) = heard c p.tmst p.comes ∷ heard_all (heard c p.tmst p.comes).clock ps

-- the clock after them
abbrev pub after : Clock → List Packet → Clock
after c [] = c
after c (p ∷ ps) = after (heard c p.tmst p.comes).clock ps

-- the law: as long as no session begins, moments of packets differ as their counters do, modulo 2^32; and what is added to a
-- packet's moment is added to its counter
pub record SessionsKeepDifferences : Type 0 where
  pub differ : (c : Clock) (p : Packet) (ps : List Packet) → All (λ (h : Heard). h.is_new ≡ false) (heard_all (heard c p.tmst p.comes).clock ps)
      → (k : ℕ) (q : Packet) (h : Heard) → slice_get ps k ≡ Some q → slice_get (heard_all (heard c p.tmst p.comes).clock ps) k ≡ Some h
      → (h.at + p.tmst) % 2 ^ 32 ≡ ((heard c p.tmst p.comes).at + q.tmst) % 2 ^ 32
  pub told : (c : Clock) (p : Packet) (d : ℕ) → tmst_of (heard c p.tmst p.comes).clock ((heard c p.tmst p.comes).at + d)
      ≡ Some ((p.tmst + d) % 2 ^ 32)

-- packets that come from one moment on, up to another
abbrev pub Come : ℕ → ℕ → List Packet → Type 0
Come from to ps = All (λ (p : Packet). (from ≤ p.comes) × (p.comes ≤ to)) ps

-- the law: whatever is heard, a packet is placed no later than the ceiling, which is at most so far above the line; the line never
-- falls; and the ceiling rises no faster than a clock may run that is 100 ppm fast, but for a microsecond
pub record CeilingRisesWithTime : Type 0 where
  pub placed : (c : Clock) → IsClock c → (p : Packet) → (heard c p.tmst p.comes).at ≤ ceiling c (now_of c p.comes)
  pub near : (c : Clock) (a : ℕ) → ceiling c a ≤ line c a + latest
  pub rises : (c : Clock) (a to : ℕ) → c.since ≤ a → c.from ≤ a → a ≤ to → (ps : List Packet) → Come a to ps
      → line c a ≤ line (after c ps) to
  pub bounded : (c : Clock) (a to : ℕ) → c.since ≤ a → c.from ≤ a → a ≤ to → (ps : List Packet) → Come a to ps
      → ceiling (after c ps) to ≤ ceiling c a + fast (to - a) + 1

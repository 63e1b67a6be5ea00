use Rattle.std.specs.Prelude.{ℕ, ◌+◌, ◌-◌, ◌*◌, ◌/◌, ◌%◌, ◌^◌, ◌≤◌, min, max, nat_lt, nat_le, Bool, true, false, ◌&&◌}
use Rattle.std.specs.Prelude.{if◌then◌else◌, Option, Some, None, option_and_then}
use Rattle.std.specs.Option.{option_map}

-- A gateway's own clock, as this project reckons it from the counter of 32 bits that its packet forwarder tells with each packet
-- (`tmst` of Semtech's UDP protocol for packet forwarders, version 2), and from the time that passes on the server's clock. Both
-- clocks may differ by 100 ppm. All moments are in microseconds.

-- what is known: the clock had reached `at` when the server's showed `since`, and had not passed `top` when that showed `from`;
-- and what is added to a counter in this session, if there is one
pub record Clock : Type 0 where
  pub at : ℕ
  pub since : ℕ
  pub top : ℕ
  pub from : ℕ
  pub offset : Option ℕ

-- how far a clock has come at least in so much time
abbrev pub slow : ℕ → ℕ
slow x = x - x / 10000

-- how far it has come at most
abbrev pub fast : ℕ → ℕ
fast x = x + x / 10000

-- what the gateway's clock shows at least when the server's shows a
abbrev pub line : Clock → ℕ → ℕ
line c a = c.at + slow (a - c.since)

-- how far above the line the ceiling may be, and how late the first packet of a session may be
abbrev pub latest : ℕ
latest = 2000000

-- how far below the line a packet of the same session may be
abbrev pub reach : ℕ
reach = 20000000

-- what it had not passed when the server's clock showed `from`, and the time since then
abbrev pub top_at : Clock → ℕ → ℕ
top_at c a = c.top + fast (a - c.from)

-- what the gateway's clock shows at most then
abbrev pub ceiling : Clock → ℕ → ℕ
ceiling c a = min (top_at c a) (line c a + latest)

-- a clock that shows nothing before a moment, with no session
abbrev pub opened : ℕ → Clock
opened high = record { at = high; since = 0; top = high; from = 0; offset = None }

-- the server's clock never goes back: a moment that seems earlier than what is known counts as the latest of these
abbrev pub now_of : Clock → ℕ → ℕ
now_of c a = max a (max c.since c.from)

-- the ceiling begins anew where the line holds it down
abbrev pub capped : Clock → ℕ → Clock
capped c a = if nat_le (line c a + latest) (top_at c a) then record c { top = line c a + latest; from = a } else c

-- so much before a moment, unless that is before 0
abbrev pub back_from : ℕ → ℕ → Option ℕ
back_from line back = if nat_le back line then Some (line - back) else None

-- by its distance upwards, modulo 2^32
abbrev pub turned : ℕ → ℕ → Option ℕ
turned line d = if nat_lt d (2 ^ 31) then Some (line + d) else back_from line (2 ^ 32 - d)

-- the moment with these 32 bits that is nearest to a moment: from 2^31 below it on, and less than 2^31 above it
abbrev pub nearest : ℕ → ℕ → Option ℕ
nearest line bits = turned line ((bits % 2 ^ 32 + 2 ^ 32 - line % 2 ^ 32) % 2 ^ 32)

-- whether a moment goes on with the session: it is not too far below the line, and not above the ceiling
abbrev pub goes_on : Clock → ℕ → ℕ → Bool
goes_on c a w = nat_le (line c a) (w + reach) && nat_le w (ceiling c a)

abbrev pub if_goes_on : Clock → ℕ → ℕ → Option ℕ
if_goes_on c a w = if goes_on c a w then Some w else None

-- where a packet with this counter stands in the session, if it goes on with it
abbrev pub within : Clock → ℕ → ℕ → Option ℕ
within c a tmst = option_and_then (λ offset. option_and_then (if_goes_on c a) (nearest (line c a) (tmst + offset))) c.offset

-- the line rises to a moment above it
abbrev pub risen : Clock → ℕ → ℕ → Clock
risen c a w = if nat_lt (line c a) w then record c { at = w; since = a } else c

-- where the first packet of a session is placed
abbrev pub begun_at : Clock → ℕ → ℕ
begun_at c a = line c a - latest

-- the low 32 bits of a moment less a number of 32 bits: what is added to a counter that stands for this moment, or the counter
-- that stands for it where so much is added
abbrev pub offset_of : ℕ → ℕ → ℕ
offset_of at less = (at % 2 ^ 32 + 2 ^ 32 - less % 2 ^ 32) % 2 ^ 32

-- a packet's moment, whether a session begins with it, and the clock then
pub record Heard : Type 0 where
  pub at : ℕ
  pub is_new : Bool
  pub clock : Clock

-- a packet that goes on with the session, or begins one
abbrev pub heard_at : Clock → ℕ → ℕ → Option ℕ → Heard
heard_at c a tmst (Some w) = record { at = w; is_new = false; clock = risen (capped c a) a w }
heard_at c a tmst None = record {
  at = begun_at c a;
  is_new = true;
  clock = record (capped c a) { offset = Some (offset_of (begun_at c a) tmst) };
}

-- a packet with this counter that comes when the server's clock shows now
abbrev pub heard_now : Clock → ℕ → ℕ → Heard
heard_now c tmst now = heard_at c now tmst (within c now tmst)

-- the same when it shows a
abbrev pub heard : Clock → ℕ → ℕ → Heard
heard c tmst a = heard_now c tmst (now_of c a)

-- the counter that stands for a moment in this session
abbrev pub tmst_of : Clock → ℕ → Option ℕ
tmst_of c start = option_map (offset_of start) c.offset

-- what each clock keeps
pub record IsClock (c : Clock) : Type 0 where
  -- moments of the server are at most 2^60, and the clock's own are in 64 bits
  pub since : c.since ≤ 2 ^ 60
  pub from : c.from ≤ 2 ^ 60
  pub at : c.at ≤ 2 ^ 60 + 2 * c.since
  pub top : c.top ≤ 2 ^ 60 + 2 * c.from
  -- the line is not above the ceiling
  pub below : (a : ℕ) → c.since ≤ a → c.from ≤ a → line c a ≤ top_at c a

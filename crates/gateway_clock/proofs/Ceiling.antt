use Rattle.std.proofs.Common.{arith, ℕ, ◌≡◌, ◌+◌, ◌-◌, ◌≤◌, refl, le_trans}
use Rattle.std.specs.Prelude.{Option, Some, None, List, [], ◌∷◌}
use Rattle.std.proofs.lemmas.List.Elements.{All-head, All-tail}
use Rattle.gateway_clock.specs.Clock.{Clock, IsClock, heard, heard_at, within, line, ceiling, top_at, fast, slow, latest, now_of}
use Rattle.gateway_clock.specs.Laws.{Packet, after, Come}

-- How a clock may run, and what hearing a packet does to the line and the ceiling.

pub fast_apart : (x y : ℕ) → fast x + fast y ≤ fast (x + y)
fast_apart x y = omega arith

pub fast_joined : (x y : ℕ) → fast (x + y) ≤ fast x + fast y + 1
fast_joined x y = omega arith

pub slow_apart : (x y : ℕ) → slow (x + y) ≤ slow x + slow y
slow_apart x y = omega arith

pub slow_rises : (x y : ℕ) → x ≤ y → slow x ≤ slow y
slow_rises x y le = omega arith

pub slow_is_slow : (x y : ℕ) → slow (x + y) ≤ slow x + y
slow_is_slow x y = omega arith

-- a packet is placed no later than the ceiling
pub placed_below : (c : Clock) → IsClock c → (p : Packet) → (heard c p.tmst p.comes).at ≤ ceiling c (now_of c p.comes)
placed_below c is p = by (within c (now_of c p.comes) p.tmst) refl
  where
    by : (w : Option ℕ) → within c (now_of c p.comes) p.tmst ≡ w → (heard_at c (now_of c p.comes) p.tmst w).at ≤ ceiling c (now_of c p.comes)
    by None e =
        let below : line c (now_of c p.comes) ≤ top_at c (now_of c p.comes) = is.below (now_of c p.comes) (omega arith) (omega arith) in
        grind (arith, below)
    by (Some w) e = grind arith

-- hearing never lowers the line
pub line_kept : (c : Clock) (tmst now to : ℕ) (w : Option ℕ) → c.since ≤ now → now ≤ to → line c to ≤ line (heard_at c now tmst w).clock to
line_kept c tmst now to None since le = grind arith
line_kept c tmst now to (Some w) since le = grind (arith, slow_apart (now - c.since) (to - now))

-- hearing never raises what bounds the ceiling
pub top_kept : (c : Clock) (tmst now to : ℕ) (w : Option ℕ) → c.from ≤ now → now ≤ to → top_at (heard_at c now tmst w).clock to ≤ top_at c to
top_kept c tmst now to None from le = grind (arith, fast_apart (now - c.from) (to - now))
top_kept c tmst now to (Some w) from le = grind (arith, fast_apart (now - c.from) (to - now))

-- what is heard first leaves the ceiling no more than time does
pub first_bounded : (c : Clock) (tmst a now to : ℕ) (w : Option ℕ) → c.since ≤ a → c.from ≤ a → a ≤ now → now ≤ to
    → top_at (heard_at c now tmst w).clock to ≤ ceiling c a + fast (to - a) + 1
first_bounded c tmst a now to None since from le to_le =
    grind (
      arith,
      fast_apart (now - a) (to - now),
      fast_joined (a - c.from) (to - a),
      fast_joined (now - c.from) (to - now),
      slow_is_slow (a - c.since) (now - a),
    )
first_bounded c tmst a now to (Some w) since from le to_le =
    grind (
      arith,
      fast_apart (now - a) (to - now),
      fast_joined (a - c.from) (to - a),
      fast_joined (now - c.from) (to - now),
      slow_is_slow (a - c.since) (now - a),
    )

-- and so does time alone
pub time_bounded : (c : Clock) (a to : ℕ) → c.since ≤ a → c.from ≤ a → a ≤ to → ceiling c to ≤ ceiling c a + fast (to - a) + 1
time_bounded c a to since from le = grind (arith, fast_joined (a - c.from) (to - a), slow_is_slow (a - c.since) (to - a))

-- hearing doesn't move what is known beyond the moment
pub since_within : (c : Clock) (tmst now to : ℕ) (w : Option ℕ) → c.since ≤ to → now ≤ to → (heard_at c now tmst w).clock.since ≤ to
since_within c tmst now to None since le = grind arith
since_within c tmst now to (Some w) since le = grind arith

pub from_within : (c : Clock) (tmst now to : ℕ) (w : Option ℕ) → c.from ≤ to → now ≤ to → (heard_at c now tmst w).clock.from ≤ to
from_within c tmst now to None from le = grind arith
from_within c tmst now to (Some w) from le = grind arith

abbrev pub IsCome : ℕ → ℕ → Packet → Type 0
IsCome from to p = (from ≤ p.comes) × (p.comes ≤ to)

-- a packet is heard no earlier than what is known, and no later than the last moment
pub now_within : (c : Clock) (a to : ℕ) → c.since ≤ to → c.from ≤ to → (p : Packet) → IsCome a to p → now_of c p.comes ≤ to
now_within c a to since from p come = omega arith

-- the same of packets that come one after another
pub all_tops_kept : (c : Clock) (a to : ℕ) → c.since ≤ to → c.from ≤ to → (ps : List Packet) → Come a to ps
    → top_at (after c ps) to ≤ top_at c to
all_tops_kept c a to since from [] come = omega arith
all_tops_kept c a to since from (p ∷ ps) come =
    let le : now_of c p.comes ≤ to = now_within c a to since from p (All-head (IsCome a to) p ps come) in
    le_trans
    (all_tops_kept (heard c p.tmst p.comes).clock a to (since_within c p.tmst _ to _ since le) (from_within c p.tmst _ to _ from le) ps
    (All-tail (IsCome a to) p ps come))
    (top_kept c p.tmst (now_of c p.comes) to (within c (now_of c p.comes) p.tmst) (omega arith) le)

pub all_lines_kept : (c : Clock) (a to : ℕ) → c.since ≤ to → c.from ≤ to → (ps : List Packet) → Come a to ps
    → line c to ≤ line (after c ps) to
all_lines_kept c a to since from [] come = omega arith
all_lines_kept c a to since from (p ∷ ps) come =
    let le : now_of c p.comes ≤ to = now_within c a to since from p (All-head (IsCome a to) p ps come) in
    le_trans
    (line_kept c p.tmst (now_of c p.comes) to (within c (now_of c p.comes) p.tmst) (omega arith) le)
    (all_lines_kept (heard c p.tmst p.comes).clock a to (since_within c p.tmst _ to _ since le) (from_within c p.tmst _ to _ from le) ps
    (All-tail (IsCome a to) p ps come))

-- time alone lowers no line
pub line_rises : (c : Clock) (a to : ℕ) → a ≤ to → line c a ≤ line c to
line_rises c a to le = omega (arith, slow_rises (a - c.since) (to - c.since))

pub near_line : (c : Clock) (a : ℕ) → ceiling c a ≤ line c a + latest
near_line c a = omega arith

pub lines_rise : (c : Clock) (a to : ℕ) → c.since ≤ a → c.from ≤ a → a ≤ to → (ps : List Packet) → Come a to ps
    → line c a ≤ line (after c ps) to
lines_rise c a to since from le ps come =
    le_trans (line_rises c a to le) (all_lines_kept c a to (le_trans since le) (le_trans from le) ps come)

pub ceilings_bounded : (c : Clock) (a to : ℕ) → c.since ≤ a → c.from ≤ a → a ≤ to → (ps : List Packet) → Come a to ps
    → ceiling (after c ps) to ≤ ceiling c a + fast (to - a) + 1
ceilings_bounded c a to since from le [] come = time_bounded c a to since from le
ceilings_bounded c a to since from le (p ∷ ps) come =
    let head : IsCome a to p = All-head (IsCome a to) p ps come in
    let now_le : now_of c p.comes ≤ to = now_within c a to (le_trans since le) (le_trans from le) p head in
    let tops : top_at (after (heard c p.tmst p.comes).clock ps) to ≤ top_at (heard c p.tmst p.comes).clock to
    = all_tops_kept (heard c p.tmst p.comes).clock a to (since_within c p.tmst _ to _ (le_trans since le) now_le)
    (from_within c p.tmst _ to _ (le_trans from le) now_le) ps (All-tail (IsCome a to) p ps come) in
    let first : top_at (heard c p.tmst p.comes).clock to ≤ ceiling c a + fast (to - a) + 1
    = first_bounded c p.tmst a (now_of c p.comes) to (within c (now_of c p.comes) p.tmst) since from (omega arith) now_le in
    le_trans (omega arith) (le_trans tops first)

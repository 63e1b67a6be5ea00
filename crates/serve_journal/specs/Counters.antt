use Rattle.std.specs.Prelude.{ℕ, suc, ◌+◌, ◌<◌, max, Bool, true, false, List, [], ◌∷◌, ⊤}

-- Which downlink counters of a device's session get into the journal over all lives of a server (LoRaWAN L2 1.0.4, section 4.3.1.5:
-- a counter is never used twice with the same key).

-- the counters of the downlinks in the journal, the last first, and the next one that it tells
pub record Counted : Type 0 where
  pub given : List ℕ
  pub down : ℕ

-- a counter is given, and gets into the journal with the next one, or, where the life ends before or the disk fails, doesn't
abbrev pub after_giving : Bool → ℕ → Counted → Counted
after_giving true next c = record { given = next ∷ c.given; down = next + 1 }
after_giving false next c = c

-- one after another: each takes the next counter, whatever became of the one before
abbrev pub after_all_given : List Bool → ℕ → Counted → Counted
after_all_given [] next c = c
after_all_given (written ∷ more) next c = after_all_given more (suc next) (after_giving written next c)

-- a life: the next counter that the settings tell, and the counters that are given
pub record CounterLife : Type 0 where
  pub down : ℕ
  pub given : List Bool

-- it opens with the greater of the settings' counter and the journal's
abbrev pub after_counting : CounterLife → Counted → Counted
after_counting life c = after_all_given life.given (max life.down c.down) c

abbrev pub counted_over : List CounterLife → Counted → Counted
counted_over [] c = c
counted_over (life ∷ lives) c = counted_over lives (after_counting life c)

-- each number is below the one before it, the first below the limit
abbrev pub FallsBelow : ℕ → List ℕ → Type 0
FallsBelow limit [] = ⊤
FallsBelow limit (n ∷ ns) = (n < limit) × FallsBelow n ns

-- the law: over every list of lives, wherever each one ends, no counter gets into the journal twice, and the next one that it tells
-- is above all
abbrev pub EveryLifeRaisesCounters : Type 0
EveryLifeRaisesCounters =
    (lives : List CounterLife) →
    FallsBelow (counted_over lives (record { given = []; down = 0 })).down (counted_over lives (record { given = []; down = 0 })).given

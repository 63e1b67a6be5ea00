use Rattle.std.specs.Prelude.{ℕ, suc, ◌≤◌, max, Bool, true, false, List, [], ◌∷◌}
use Rattle.std.proofs.Common.{arith}
use Rattle.serve_journal.specs.Counters.{Counted, CounterLife, after_giving, after_all_given, after_counting, counted_over, FallsBelow}
use Rattle.serve_journal.specs.Counters.{EveryLifeRaisesCounters}

-- Counters that get into the journal rise.

abbrev Rises : Counted → Type 0
Rises c = FallsBelow c.down c.given

below_more : (limit more : ℕ) (ns : List ℕ) → limit ≤ more → FallsBelow limit ns → FallsBelow more ns
below_more limit more [] h f = tt
below_more limit more (n ∷ ns) h f = (omega (arith, f.0), f.1)

rises_given : (written : Bool) (next : ℕ) (c : Counted) → c.down ≤ next → Rises c → Rises (after_giving written next c)
rises_given true next c h r = (omega arith, below_more c.down next c.given h r)
rises_given false next c h r = r

told_next : (written : Bool) (next : ℕ) (c : Counted) → c.down ≤ next → (after_giving written next c).down ≤ suc next
told_next true next c h = omega arith
told_next false next c h = omega arith

rises_all : (given : List Bool) (next : ℕ) (c : Counted) → c.down ≤ next → Rises c → Rises (after_all_given given next c)
rises_all [] next c h r = r
rises_all (written ∷ more) next c h r =
    rises_all more (suc next) (after_giving written next c) (told_next written next c h) (rises_given written next c h r)

rises_over : (lives : List CounterLife) (c : Counted) → Rises c → Rises (counted_over lives c)
rises_over [] c r = r
rises_over (life ∷ lives) c r =
    rises_over lives (after_counting life c) (rises_all life.given (max life.down c.down) c (omega arith) r)

pub every_life_raises_counters : EveryLifeRaisesCounters
every_life_raises_counters lives = rises_over lives (record { given = []; down = 0 }) tt

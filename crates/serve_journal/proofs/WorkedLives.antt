-- Two lives of a server, by computation; and what the laws say of every list of lives.
use Rattle.std.proofs.Common.{ℕ, ◌≡◌, ◌≤◌, ◌<◌, true, false, List, [], ◌∷◌, map, refl}
use Rattle.std.specs.Prelude.{All}
use Rattle.radio_airtime.specs.TimeOnAir.{airtime_of}
use Rattle.radio_bands.specs.Band.{band_of, limit_of}
use Rattle.radio_bands.specs.declared.band.Band.{Band}
use Rattle.resv_list.specs.Reservations.{start_of, begun, spent, IsByStart}
use Rattle.gateway_book.specs.Answer.{Rules, overlap}
use Rattle.gateway_book.specs.Disjoint.{most_gap}
use Rattle.gateway_book.specs.Duty.{full_hour}
use Rattle.gateway_book.specs.Kept.{kept}
use Rattle.gateway_book.specs.Lawful.{AreApart}
use Rattle.gateway_book.proofs.WorkedLists.{fast, slow}
use Rattle.serve_journal.specs.Counters.{CounterLife, counted_over, FallsBelow, EveryLifeRaisesCounters}
use Rattle.serve_journal.specs.Lives.{Life, Asks, Ticks, after_lives, HasGap, EveryLifeKeepsDuty}

abbrev rules : Rules
rules = record { cap = 10; gap = 45000 }

-- a long transmission gets into the journal; a short one doesn't, since the life ends before; a second long one is refused
abbrev first_life : Life
first_life = record {
  rules = rules;
  floor = 0;
  booked = 0;
  deeds = Asks (slow 1 1000) true ∷ Asks (slow 2 6000000) true ∷ Asks (fast 3 5000000) false ∷ [];
}

-- the short one's time is free again; a long one is refused for the first life's, until an hour has passed
abbrev second_life : Life
second_life = record {
  rules = rules;
  floor = 601001;
  booked = 2629632;
  deeds = Asks (fast 4 5000000) true
      ∷ Asks (slow 5 7000000) true
      ∷ Ticks 3600001000
      ∷ Asks (slow 6 3600001000) true
      ∷ [];
}

pub worked_lives : map start_of (after_lives (first_life ∷ second_life ∷ []) []) ≡ 1000 ∷ 5000000 ∷ 3600001000 ∷ []
unfolding airtime_of band_of begun kept overlap full_hour
worked_lives = refl

-- what the law says of every list of lives, field by field
module _ (law : EveryLifeKeepsDuty) (gap : ℕ) (lives : List Life) (small : gap ≤ most_gap) (gaps : All (HasGap gap) lives) where
  pub each_by_start : IsByStart (after_lives lives [])
  each_by_start = (law gap lives small gaps).by_start

  pub each_apart : AreApart gap (after_lives lives [])
  each_apart = (law gap lives small gaps).lawful.apart

  pub each_within_limit : (band : Band) (t : ℕ) → spent (after_lives lives []) band t ≤ limit_of band
  each_within_limit = (law gap lives small gaps).lawful.duty

-- the first life gives 5, 6 and 7, of which 6 doesn't get into the journal; the second goes on behind 7
pub worked_counters :
    counted_over (record { down = 5; given = true ∷ false ∷ true ∷ [] } ∷ record { down = 0; given = true ∷ [] } ∷ [])
    (record { given = []; down = 0 })
    ≡ record { given = 8 ∷ 7 ∷ 5 ∷ []; down = 9 }
worked_counters = refl

pub each_falls : EveryLifeRaisesCounters → (lives : List CounterLife)
    → FallsBelow (counted_over lives (record { given = []; down = 0 })).down
    (counted_over lives (record { given = []; down = 0 })).given
each_falls law lives = law lives

pub falls_below : EveryLifeRaisesCounters → FallsBelow 9 (8 ∷ 7 ∷ 5 ∷ [])
falls_below law = law (record { down = 5; given = true ∷ false ∷ true ∷ [] } ∷ record { down = 0; given = true ∷ [] } ∷ [])

pub one_below_the_other : FallsBelow 9 (8 ∷ 7 ∷ 5 ∷ []) → (8 < 9) × (7 < 8) × (5 < 7)
one_below_the_other f = (f.0, f.1.0, f.1.1.0)

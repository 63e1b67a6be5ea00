-- What the laws of gaps, of starts and of hours say of worked lists: each tells a fact there, and no premise is one that nothing
-- meets. Moment 500,000 is the start of no member. Then what they say of every list, every sub-band and every gap.
use Rattle.std.proofs.Common.{ℕ, ◌≡◌, ◌≢◌, ◌+◌, ◌≤◌, ◌<◌, ◌⊎◌, Bool, List, [], ◌∷◌, Option, Some, None, All, Contains}
use Rattle.std.proofs.Common.{MatchOption, refl, sym, subst, arith, ap, zero, suc, inl, inr, ◌∙◌}
use Rattle.std.proofs.lemmas.Option.{same_Some}
use Rattle.std.specs.Prelude.{nat_lt, slice_get, find, filter, map}
use Rattle.std.specs.Option.{option_map}
use Rattle.radio_airtime.specs.TimeOnAir.{airtime_of}
use Rattle.radio_bands.specs.Band.{hour, limit_of}
use Rattle.radio_bands.specs.declared.band.Band.{Band}
use Rattle.radio_bands.specs.declared.band.Band.TheVariants.{K, M}
use Rattle.resv_list.specs.declared.reservation.Reservation.{Reservation}
use Rattle.resv_list.specs.Fit.{IsFit}
use Rattle.resv_list.specs.Hours.{starts_in}
use Rattle.resv_list.specs.Reservations.{IsByStart, start_of, end_of, begun, spent}
use Rattle.gateway_book.specs.Busiest.{IsBusiest, IsBusiestAnswer, busiest_of}
use Rattle.gateway_book.specs.Disjoint.{AreDisjoint}
use Rattle.gateway_book.specs.Duty.{full_hour}
use Rattle.gateway_book.specs.Lawful.{AreApart, IsLawful}
use Rattle.gateway_book.specs.Laws.{SpacedIsApart, GapKeepsDisjoint, FirstHasLeastStart, LeastIsLeast, FewHoursSuffice}
use Rattle.gateway_book.specs.Laws.{DutyRowIsExact, BusiestIsExact, IsOpening, IsDutyAnswer, IsFirstFullHour}
use Rattle.gateway_book.specs.Least.{first_start, least}
use Rattle.gateway_book.specs.Spaced.{SpacedFrom}
use Rattle.gateway_book.proofs.WorkedLists.{early, late, last, sent, by_start, lawful}

-- Lists by start.

-- a gap of 1,000 us passes between each two
pub apart : SpacedIsApart → AreApart 1000 sent
unfolding airtime_of early late last
apart law = (law 1000 sent by_start).0 (omega arith, (omega arith, (omega arith, tt)))

pub first_before_second : SpacedIsApart → AreDisjoint 1000 early late
unfolding airtime_of early late last
first_before_second law = apart law zero (suc zero) early late refl refl (λ e. absurd (omega (arith, e)))

-- and one of a second does not
pub no_second_apart : SpacedIsApart → AreApart 1000000 sent → ⊥
unfolding airtime_of early late last
no_second_apart law h = omega (arith, ((law 1000000 sent by_start).1 h).1.0)

module _ (law : GapKeepsDisjoint) where
  pub without_gap : IsLawful 0 sent
  without_gap = law 1000 0 sent (omega arith) lawful

  pub disjoint_without_gap : AreDisjoint 0 early late
  unfolding early late last
  disjoint_without_gap = without_gap.apart zero (suc zero) early late refl refl (λ e. absurd (omega (arith, e)))

  pub fit_without_gap : All (λ r. IsFit r.start r.freq_hz r.rate r.len) sent
  fit_without_gap = without_gap.fit

  pub limit_without_gap : (t : ℕ) → spent sent M t ≤ 36000000
  limit_without_gap t = without_gap.duty M t

pub first_behind : FirstHasLeastStart → first_start (λ r. nat_lt 1000 r.start) sent ≡ Some 1000000
unfolding early late last
first_behind law = law (λ r. nat_lt 1000 r.start) sent by_start

-- whatever is asked of the three, the first that passes has the start
pub first_found : FirstHasLeastStart → (test : Reservation → Bool)
    → least (map start_of (filter test sent)) ≡ option_map start_of (find test sent)
first_found law test = law test sent by_start

pub none_behind : FirstHasLeastStart → first_start (λ r. nat_lt 3600500000 r.start) sent ≡ None
unfolding early late last
none_behind law = law (λ r. nat_lt 3600500000 r.start) sent by_start

-- The least of some numbers.

abbrev three : List ℕ
three = 3 ∷ 1 ∷ 2 ∷ []

pub least_of_three : LeastIsLeast → Contains three 1 × All (λ n. 1 ≤ n) three
least_of_three law = law three

pub none_of_none : LeastIsLeast → (ns : List ℕ) → least ns ≡ None → ns ≡ []
none_of_none law ns e =
    let P : Option ℕ → Type 0 = λ o. MatchOption o (ns ≡ []) (λ m. Contains ns m × All (λ n. m ≤ n) ns) in subst P e (law ns)

-- The duty cycle: sub-band M has 36 seconds in an hour. Two of the three begin in the hour of the first, and two in that of the
-- second, which leaves 35,917,568 us.

-- what is asked for at 1.5 s, or a member, opens an hour that has room for so much
room_there : (t : ℕ) → IsOpening sent M 1500000 t → t ≤ 1500000 → spent sent M t + 35917568 ≤ 36000000
unfolding begun airtime_of early late last
room_there t (inl e) h = let P : ℕ → Type 0 = λ s. spent sent M s + 35917568 ≤ 36000000 in subst P (sym e) (omega arith)
room_there t (inr (zero, k, g)) h = let P : ℕ → Type 0 = λ s. spent sent M s + 35917568 ≤ 36000000 in subst P g (omega arith)
room_there t (inr (suc zero, k, g)) h = let P : ℕ → Type 0 = λ s. spent sent M s + 35917568 ≤ 36000000 in subst P g (omega arith)
room_there t (inr (suc (suc zero), k, g)) h = let e : 3600500000 ≡ t = g in absurd (omega (arith, e, h))
room_there t (inr (suc (suc (suc j)), k, g)) h = absurd (omega (arith, k))

-- so each hour that holds it has
pub each_hour_has_room : FewHoursSuffice → (t : ℕ) → t ≤ 1500000 → 1500000 < t + 3600000000
    → spent sent M t + 35917568 ≤ 36000000
each_hour_has_room law = law sent M 1500000 35917568 (λ t o a b. room_there t o a)

pub room_between : FewHoursSuffice → spent sent M 500000 + 35917568 ≤ 36000000
room_between law = each_hour_has_room law 500000 (omega arith) (omega arith)

-- the row of the duty cycle says the same
pub row_has_room : DutyRowIsExact → (t : ℕ) → t ≤ 1500000 → 1500000 < t + hour → spent sent M t + 35917568 ≤ 36000000
unfolding full_hour begun airtime_of early late last
row_has_room law = (law sent M 1500000 35917568 None).1 refl

-- one microsecond more is too much for the hour of the first and for that of the second
pub overfull : DutyRowIsExact → IsFirstFullHour sent M 1500000 35917569 1000
unfolding full_hour begun airtime_of early late last
overfull law = (law sent M 1500000 35917569 (Some 1000)).1 refl

pub overfull_opens : DutyRowIsExact → IsOpening sent M 1500000 1000
overfull_opens law = (overfull law).opens

-- whichever hour is the answer holds the ask, would pass the limit, and is the first that would
module _ (t : ℕ) (answer : IsFirstFullHour sent M 1500000 35917569 t) where
  pub overfull_holds : (t ≤ 1500000) × (1500000 < t + 3600000000)
  overfull_holds = (answer.begins, answer.lasts)

  pub overfull_passes : 36000000 < spent sent M t + 35917569
  overfull_passes = answer.passes

  pub overfull_is_first : (n : ℕ) → IsOpening sent M 1500000 n → n ≤ 1500000 → 1500000 < n + hour
      → limit_of M < spent sent M n + 35917569 → t ≤ n
  overfull_is_first = answer.first

pub full_from_there : DutyRowIsExact → (t : ℕ) → IsDutyAnswer sent M 1500000 35917569 (Some t) → t ≡ 1000
unfolding full_hour begun airtime_of early late last
full_from_there law t answer = same_Some t 1000 ((law sent M 1500000 35917569 (Some t)).0 answer)

-- The busiest hour opens with the first, and has two; that of the second has two as well.

pub busiest : BusiestIsExact → IsBusiest sent M 1000 82432
unfolding busiest_of begun airtime_of early late last
busiest law = (law sent M (Some (1000, 82432))).1 refl

pub busiest_opens : BusiestIsExact → Contains (starts_in sent M) 1000
busiest_opens law = (busiest law).opens

pub busiest_has : BusiestIsExact → 82432 ≡ spent sent M 1000
busiest_has law = (busiest law).airtime

pub no_hour_has_more : BusiestIsExact → (t : ℕ) → spent sent M t ≤ 82432
no_hour_has_more law t = (busiest law).most t

pub none_between_has_more : BusiestIsExact → spent sent M 500000 ≤ 82432
none_between_has_more law = (busiest law).most 500000

pub busiest_is_first : BusiestIsExact → (t : ℕ) → Contains (starts_in sent M) t → spent sent M t ≡ 82432 → 1000 ≤ t
busiest_is_first law = (busiest law).first

pub none_is_busier : BusiestIsExact → (told : ℕ × ℕ) → IsBusiestAnswer sent M (Some told) → told.0 ≡ 1000
unfolding busiest_of begun airtime_of early late last
none_is_busier law told answer = ap (λ (h : ℕ × ℕ). h.0) (same_Some told (1000, 82432) ((law sent M (Some told)).0 answer))

-- sub-band K has no member
pub none_in_another : BusiestIsExact → (o : Option (ℕ × ℕ)) → IsBusiestAnswer sent K o → o ≡ None
unfolding busiest_of begun airtime_of early late last
none_in_another law o answer = (law sent K o).0 answer

-- Of every list.

-- members at different places, of which one ends, and the gap passes, no later than the other starts
abbrev HaveGap : ℕ → List Reservation → Type 0
HaveGap gap l =
    (i j : ℕ) (r s : Reservation) → slice_get l i ≡ Some r → slice_get l j ≡ Some s → i ≢ j
    → (end_of r + gap ≤ s.start) ⊎ (end_of s + gap ≤ r.start)

-- each member begins no earlier than the one before it ends and the gap passes
abbrev AreSpaced : ℕ → List Reservation → Type 0
AreSpaced gap l = SpacedFrom start_of (λ r. end_of r + gap) 0 l

module _ (law : SpacedIsApart) (gap : ℕ) (l : List Reservation) (rising : IsByStart l) where
  pub each_spaced_is_apart : AreSpaced gap l → HaveGap gap l
  each_spaced_is_apart = (law gap l rising).0

  pub each_apart_is_spaced : HaveGap gap l → AreSpaced gap l
  each_apart_is_spaced = (law gap l rising).1

-- a lawful list is one that keeps these three, and no other is
module _ (gap : ℕ) (l : List Reservation) where
  pub each_lawful_is_fit : IsLawful gap l → All (λ r. IsFit r.start r.freq_hz r.rate r.len) l
  each_lawful_is_fit w = w.fit

  pub each_lawful_is_apart : IsLawful gap l → HaveGap gap l
  each_lawful_is_apart w = w.apart

  pub each_lawful_keeps_limits : IsLawful gap l → (band : Band) (t : ℕ) → spent l band t ≤ limit_of band
  each_lawful_keeps_limits w = w.duty

  pub each_such_is_lawful : All (λ r. IsFit r.start r.freq_hz r.rate r.len) l → HaveGap gap l
      → ((band : Band) (t : ℕ) → spent l band t ≤ limit_of band) → IsLawful gap l
  each_such_is_lawful fits apart_there duty_there = record { fit = fits; apart = apart_there; duty = duty_there }

pub each_smaller_gap_is_kept : GapKeepsDisjoint → (gap less : ℕ) (l : List Reservation) → less ≤ gap → IsLawful gap l
    → IsLawful less l
each_smaller_gap_is_kept law = law

module _ (law : FirstHasLeastStart) (test : Reservation → Bool) (l : List Reservation) (rising : IsByStart l) where
  -- whatever is asked of them, the first that passes has the start
  pub each_first_found : (r : Reservation) → find test l ≡ Some r → least (map start_of (filter test l)) ≡ Some r.start
  each_first_found r e = law test l rising ∙ ap (option_map start_of) e

  pub each_none_found : find test l ≡ None → least (map start_of (filter test l)) ≡ None
  each_none_found e = law test l rising ∙ ap (option_map start_of) e

abbrev IsLeastOf : List ℕ → Option ℕ → Type 0
IsLeastOf ns o = MatchOption o (ns ≡ []) (λ m. Contains ns m × All (λ n. m ≤ n) ns)

pub each_least : LeastIsLeast → (ns : List ℕ) (m : ℕ) → least ns ≡ Some m → Contains ns m × All (λ n. m ≤ n) ns
each_least law ns m e = subst (IsLeastOf ns) e (law ns)

-- Of every list, every sub-band and whatever is asked for.

module _ (l : List Reservation) (band : Band) (start airtime : ℕ) where
  -- what is asked for, or a member of the sub-band, opens an hour there
  abbrev Opens : ℕ → Type 0
  Opens t = (t ≡ start) ⊎ Contains (starts_in l band) t

  abbrev HasRoom : ℕ → Type 0
  HasRoom t = t ≤ start → start < t + 3600000000 → spent l band t + airtime ≤ limit_of band

  -- the hour that opens there holds what is asked for, would pass the limit, and is the first that does
  abbrev IsFirst : ℕ → Type 0
  IsFirst from =
      Opens from × (from ≤ start) × (start < from + 3600000000) × (limit_of band < spent l band from + airtime)
      × ((t : ℕ) → Opens t → t ≤ start → start < t + 3600000000 → limit_of band < spent l band t + airtime → from ≤ t)

  pub each_hour_has_room_where_these_have : FewHoursSuffice → ((t : ℕ) → Opens t → HasRoom t) → (t : ℕ) → HasRoom t
  each_hour_has_room_where_these_have law = law l band start airtime

  module _ (law : DutyRowIsExact) where
    pub each_hour_has_room_where_none_is_full : full_hour l band start airtime ≡ None → (t : ℕ) → HasRoom t
    each_hour_has_room_where_none_is_full e = (law l band start airtime None).1 (sym e)

    pub none_is_full_where_each_hour_has_room : ((t : ℕ) → HasRoom t) → full_hour l band start airtime ≡ None
    none_is_full_where_each_hour_has_room room = sym ((law l band start airtime None).0 room)

    pub each_full_hour_is_first : (from : ℕ) → full_hour l band start airtime ≡ Some from → IsFirst from
    each_full_hour_is_first from e =
        let h = (law l band start airtime (Some from)).1 (sym e) in (h.opens, h.begins, h.lasts, h.passes, h.first)

    pub each_first_is_the_full_hour : (from : ℕ) → IsFirst from → full_hour l band start airtime ≡ Some from
    each_first_is_the_full_hour from (opens, begins, lasts, passes, is_first) =
        sym ((law l band start airtime (Some from)).0
        (record { opens = opens; begins = begins; lasts = lasts; passes = passes; first = is_first }))

module _ (l : List Reservation) (band : Band) where
  -- a member of the sub-band opens the hour, it has this airtime, none has more, and no earlier one of a member has as much
  abbrev IsBusiestThere : ℕ → ℕ → Type 0
  IsBusiestThere from sum =
      Contains (starts_in l band) from × (sum ≡ spent l band from) × ((t : ℕ) → spent l band t ≤ sum)
      × ((t : ℕ) → Contains (starts_in l band) t → spent l band t ≡ sum → from ≤ t)

  module _ (law : BusiestIsExact) where
    pub each_told_is_busiest : (from sum : ℕ) → busiest_of l band ≡ Some (from, sum) → IsBusiestThere from sum
    each_told_is_busiest from sum e =
        let h = (law l band (Some (from, sum))).1 (sym e) in (h.opens, h.airtime, h.most, h.first)

    pub each_busiest_is_told : (from sum : ℕ) → IsBusiestThere from sum → busiest_of l band ≡ Some (from, sum)
    each_busiest_is_told from sum (opens, airtime, most, is_first) =
        sym ((law l band (Some (from, sum))).0 (record { opens = opens; airtime = airtime; most = most; first = is_first }))

    pub none_is_told_where_none_begins : starts_in l band ≡ [] → busiest_of l band ≡ None
    none_is_told_where_none_begins e = sym ((law l band None).0 e)

    pub none_begins_where_none_is_told : busiest_of l band ≡ None → starts_in l band ≡ []
    none_begins_where_none_is_told e = (law l band None).1 (sym e)

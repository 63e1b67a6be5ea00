-- What the laws of the earliest start say of worked lists: each tells a fact there, and no premise is one that nothing meets.
-- Then what they say of every list.
use Rattle.std.proofs.Common.{ℕ, ◌≡◌, ◌+◌, ◌≤◌, ◌<◌, ◌⊎◌, max, List, [], ◌∷◌, Some, None, Contains}
use Rattle.std.proofs.Common.{refl, sym, subst, arith, ap, zero, suc, inl, inr}
use Rattle.std.proofs.lemmas.Option.{same_Some}
use Rattle.std.specs.Prelude.{filter, is_none}
use Rattle.radio_airtime.specs.TimeOnAir.{airtime_of}
use Rattle.radio_airtime.specs.declared.data_rate.DataRate.TheVariants.{Dr0}
use Rattle.radio_bands.specs.Band.{band_of}
use Rattle.resv_list.specs.declared.reservation.Reservation.{Reservation}
use Rattle.resv_list.specs.Reservations.{start_of, end_of, begun}
use Rattle.gateway_book.specs.declared.ask.Ask.{Ask}
use Rattle.gateway_book.specs.Answer.{Terms, overlap, refusal_of}
use Rattle.gateway_book.specs.Disjoint.{rested_from}
use Rattle.gateway_book.specs.Duty.{full_hour}
use Rattle.gateway_book.specs.Earliest.{Accepts, IsEarliest, IsLeastAccepted, IsCandidate, EarliestCandidates, at_start}
use Rattle.gateway_book.specs.EarliestValue.{EarliestIsExact, earliest_of, moments}
use Rattle.gateway_book.specs.Kept.{kept}
use Rattle.gateway_book.specs.Least.{least}
use Rattle.gateway_book.specs.Step.{is_fit-IsFit}
use Rattle.gateway_book.proofs.WorkedLists.{fast, slow, early, late, last, sent}

-- The first of three is on air until moment 42,216, and the gap passes at 43,216.

abbrev terms : ℕ → Terms
terms floor = record { floor = floor; rules = record { cap = 4; gap = 1000 }; booked = 123648 }

pub behind_it : EarliestIsExact → IsLeastAccepted (terms 20) sent (fast 9 0) 43214 43217 43216
unfolding earliest_of airtime_of band_of begun kept overlap full_hour early late last
behind_it law = (law (terms 20) sent (fast 9 0) 43214 43217 (Some 43216)).1 refl

-- whichever start is the answer lies there, is accepted, and is the least that is
module _ (s : ℕ) (answer : IsLeastAccepted (terms 20) sent (fast 9 0) 43214 43217 s) where
  pub within : (43214 ≤ s) × (s ≤ 43217)
  within = (answer.from, answer.to)

  pub accepted_there : Accepts (terms 20) sent (fast 9 0) s
  accepted_there = answer.accepted

  pub none_before : (t : ℕ) → 43214 ≤ t → Accepts (terms 20) sent (fast 9 0) t → s ≤ t
  none_before = answer.least

pub not_beside_it : EarliestIsExact → (t : ℕ) → 43214 ≤ t → Accepts (terms 20) sent (fast 9 0) t → 43215 < t
unfolding earliest_of airtime_of band_of begun kept overlap full_hour early late last
not_beside_it law = (law (terms 20) sent (fast 9 0) 43214 43215 None).1 refl

pub only_there : EarliestIsExact → (s : ℕ) → IsEarliest (terms 20) sent (fast 9 0) 43214 43217 (Some s) → s ≡ 43216
unfolding earliest_of airtime_of band_of begun kept overlap full_hour early late last
only_there law s answer = same_Some s 43216 ((law (terms 20) sent (fast 9 0) 43214 43217 (Some s)).0 answer)

pub somewhere : EarliestIsExact → IsEarliest (terms 20) sent (fast 9 0) 43214 43217 None → ⊥
unfolding earliest_of airtime_of band_of begun kept overlap full_hour early late last
somewhere law answer = let e = (law (terms 20) sent (fast 9 0) 43214 43217 None).0 answer in absurd (cc)

-- Where the least accepted start can be: the law of the candidates alone tells it. Three moments are looked at each time, and
-- all but one are no candidate, or refused.

-- when a member begins, and when its gateway may transmit again
abbrev IsTimeOf : ℕ → ℕ → Type 0
IsTimeOf start rested =
    ((start ≡ 1000) × (rested ≡ 43216)) ⊎ ((start ≡ 1000000) × (rested ≡ 1042216)) ⊎ ((start ≡ 3600500000) × (rested ≡ 3600542216))

times : (r : Reservation) → Contains sent r → IsTimeOf r.start (rested_from 1000 r)
unfolding airtime_of early late last
times r (zero, h, g) = let e : early ≡ r = g in inl (sym (ap start_of e), sym (ap (rested_from 1000) e))
times r (suc zero, h, g) = let e : late ≡ r = g in inr (inl (sym (ap start_of e), sym (ap (rested_from 1000) e)))
times r (suc (suc zero), h, g) = let e : last ≡ r = g in inr (inr (sym (ap start_of e), sym (ap (rested_from 1000) e)))
times r (suc (suc (suc k)), h, g) = absurd (omega (arith, h))

-- the end of the first and the gap
refused_beside : Accepts (terms 20) sent (fast 9 0) 43215 → ⊥
unfolding airtime_of band_of begun kept overlap full_hour early late last
refused_beside acc = absurd (cc)

behind_by : (s start rested : ℕ) → 43215 ≤ s → s ≤ 43217 → IsTimeOf start rested → (s ≡ rested) ⊎ (s ≡ start + 3600000000)
    → s ≡ 43216
behind_by s start rested a b t c = grind arith

pub behind_the_first : EarliestCandidates → (s : ℕ) → IsLeastAccepted (terms 20) sent (fast 9 0) 43215 43217 s → s ≡ 43216
behind_the_first law s least = by (law (terms 20) sent (fast 9 0) 43215 43217 s least)
  where
    by : IsCandidate (terms 20) sent 43215 s → s ≡ 43216
    by (inl e) =
        let P : ℕ → Type 0 = λ t. Accepts (terms 20) sent (fast 9 0) t in
        let at : s ≡ 43215 = omega (arith, e) in
        absurd (refused_beside (subst P at least.accepted))
    by (inr (r, c, e)) = behind_by s r.start (rested_from 1000 r) least.from least.to (times r c) e

-- the floor, and the moment from which it is looked for
floor_by : (s start rested : ℕ) → 500000 ≤ s → s ≤ 500002 → IsTimeOf start rested → (s ≡ rested) ⊎ (s ≡ start + 3600000000)
    → ⊥
floor_by s start rested a b t c = grind arith

pub at_the_floor : EarliestCandidates → (s : ℕ) → IsLeastAccepted (terms 500001) sent (fast 9 0) 500000 500002 s → s ≡ 500001
at_the_floor law s least = by (law (terms 500001) sent (fast 9 0) 500000 500002 s least)
  where
    by : IsCandidate (terms 500001) sent 500000 s → s ≡ 500001
    by (inl e) = omega (arith, e)
    by (inr (r, c, e)) = absurd (floor_by s r.start (rested_from 1000 r) least.from least.to (times r c) e)

pub at_once : EarliestCandidates → (s : ℕ) → IsLeastAccepted (terms 20) sent (fast 9 0) 500000 500002 s → s ≡ 500000
at_once law s least = by (law (terms 20) sent (fast 9 0) 500000 500002 s least)
  where
    by : IsCandidate (terms 20) sent 500000 s → s ≡ 500000
    by (inl e) = omega (arith, e)
    by (inr (r, c, e)) = absurd (floor_by s r.start (rested_from 1000 r) least.from least.to (times r c) e)

-- an hour after the start: one transmission has most of what its sub-band may have in an hour
unfoldable pub long : Reservation
unfolding airtime_of band_of
long = record {
  number = 4;
  start = 10000000;
  freq_hz = 863500000;
  rate = Dr0;
  len = 60;
  fit = is_fit-IsFit (slow 4 10000000) refl;
}

refused_within : Accepts (terms 20) (long ∷ []) (slow 9 0) 3609999999 → ⊥
unfolding airtime_of band_of begun kept overlap full_hour long
refused_within acc = absurd (cc)

long_times : (r : Reservation) → Contains (long ∷ []) r → (r.start ≡ 10000000) × (rested_from 1000 r ≡ 12630632)
unfolding airtime_of long
long_times r (zero, h, g) = let e : long ≡ r = g in (sym (ap start_of e), sym (ap (rested_from 1000) e))
long_times r (suc k, h, g) = absurd (omega (arith, h))

hour_by : (s start rested : ℕ) → 3609999999 ≤ s → s ≤ 3610000001 → (start ≡ 10000000) × (rested ≡ 12630632)
    → (s ≡ rested) ⊎ (s ≡ start + 3600000000) → s ≡ 3610000000
hour_by s start rested a b t c = grind arith

pub an_hour_after : EarliestCandidates → (s : ℕ)
    → IsLeastAccepted (terms 20) (long ∷ []) (slow 9 0) 3609999999 3610000001 s → s ≡ 3610000000
an_hour_after law s least = by (law (terms 20) (long ∷ []) (slow 9 0) 3609999999 3610000001 s least)
  where
    by : IsCandidate (terms 20) (long ∷ []) 3609999999 s → s ≡ 3610000000
    by (inl e) =
        let P : ℕ → Type 0 = λ t. Accepts (terms 20) (long ∷ []) (slow 9 0) t in
        let at : s ≡ 3609999999 = omega (arith, e) in
        absurd (refused_within (subst P at least.accepted))
    by (inr (r, c, e)) = hour_by s r.start (rested_from 1000 r) least.from least.to (long_times r c) e

-- and each of these starts is the least accepted one there
module _ (law : EarliestIsExact) where
  pub least_behind_the_first : IsLeastAccepted (terms 20) sent (fast 9 0) 43215 43217 43216
  unfolding earliest_of airtime_of band_of begun kept overlap full_hour early late last
  least_behind_the_first = (law (terms 20) sent (fast 9 0) 43215 43217 (Some 43216)).1 refl

  pub least_at_the_floor : IsLeastAccepted (terms 500001) sent (fast 9 0) 500000 500002 500001
  unfolding earliest_of airtime_of band_of begun kept overlap full_hour early late last
  least_at_the_floor = (law (terms 500001) sent (fast 9 0) 500000 500002 (Some 500001)).1 refl

  pub least_at_once : IsLeastAccepted (terms 20) sent (fast 9 0) 500000 500002 500000
  unfolding earliest_of airtime_of band_of begun kept overlap full_hour early late last
  least_at_once = (law (terms 20) sent (fast 9 0) 500000 500002 (Some 500000)).1 refl

  pub least_an_hour_after : IsLeastAccepted (terms 20) (long ∷ []) (slow 9 0) 3609999999 3610000001 3610000000
  unfolding earliest_of airtime_of band_of begun kept overlap full_hour long
  least_an_hour_after = (law (terms 20) (long ∷ []) (slow 9 0) 3609999999 3610000001 (Some 3610000000)).1 refl

-- Of every list, and whatever is asked for.

module _ (there : Terms) (l : List Reservation) (ask : Ask) (a z : ℕ) where
  abbrev IsAccepted : ℕ → Type 0
  IsAccepted s =
      refusal_of there l (record { number = ask.number; start = s; freq_hz = ask.freq_hz; rate = ask.rate; len = ask.len }) ≡ None

  -- it lies from a to z, is accepted, and is the least from a on that is
  abbrev IsLeastStart : ℕ → Type 0
  IsLeastStart s = (a ≤ s) × (s ≤ z) × IsAccepted s × ((t : ℕ) → a ≤ t → IsAccepted t → s ≤ t)

  module _ (law : EarliestIsExact) where
    pub each_told_is_least : (s : ℕ) → earliest_of there l ask a z ≡ Some s → IsLeastStart s
    each_told_is_least s e = let h = (law there l ask a z (Some s)).1 (sym e) in (h.from, h.to, h.accepted, h.least)

    pub each_least_is_told : (s : ℕ) → IsLeastStart s → earliest_of there l ask a z ≡ Some s
    each_least_is_told s (from, to, accepted, is_least) =
        sym ((law there l ask a z (Some s)).0 (record { from = from; to = to; accepted = accepted; least = is_least }))

    pub none_is_accepted_where_none_is_told : earliest_of there l ask a z ≡ None → (t : ℕ) → a ≤ t → IsAccepted t → z < t
    none_is_accepted_where_none_is_told e = (law there l ask a z None).1 (sym e)

    pub none_is_told_where_none_is_accepted : ((t : ℕ) → a ≤ t → IsAccepted t → z < t) → earliest_of there l ask a z ≡ None
    none_is_told_where_none_is_accepted none = sym ((law there l ask a z None).0 none)

  pub each_least_is_a_candidate : EarliestCandidates → (s : ℕ) → IsLeastStart s
      → (s ≡ max a there.floor)
      ⊎ ((r : Reservation) × Contains l r × ((s ≡ end_of r + there.rules.gap) ⊎ (s ≡ r.start + 3600000000)))
  each_least_is_a_candidate law s (from, to, accepted, is_least) =
      law there l ask a z s (record { from = from; to = to; accepted = accepted; least = is_least })

-- the value is the least of the moments from a to z at which the ask is accepted
pub each_value : (there : Terms) (l : List Reservation) (ask : Ask) (a z : ℕ) → earliest_of there l ask a z ≡
    least (filter (λ s. is_none (refusal_of there l (at_start ask s))) (moments a z))
unfolding earliest_of
each_value there l ask a z = refl

-- three moments from 8 on, and none from 8 to 7
pub three_moments : moments 8 10 ≡ 8 ∷ 9 ∷ 10 ∷ []
three_moments = refl

pub no_moments : moments 8 7 ≡ []
no_moments = refl

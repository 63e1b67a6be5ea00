use Rattle.std.specs.Prelude.{ℕ, ◌≡◌, ◌+◌, Bool, List, [], Option, Some, None, All, filter, find, ◌≤◌}
use Rattle.std.specs.Option.{option_map}
use Rattle.std.proofs.Common.{refl, sym, subst, ◌∙◌, arith, get_or}
use Rattle.radio_bands.specs.Band.{hour, band_of}
use Rattle.radio_bands.specs.declared.band.Band.{Band}
use Rattle.resv_list.specs.declared.reservation.Reservation.{Reservation}
use Rattle.resv_list.specs.Fit.{IsFit}
use Rattle.resv_list.specs.Begun.{begun-nil}
use Rattle.resv_list.proofs.SortedLaws.{RisesFrom-place_by, RisesFrom-filter}
use Rattle.resv_list.specs.Reservations.{start_of, end_of, IsByStart, IsFree, place, airtime_us}
use Rattle.gateway_book.specs.declared.ask.Ask.{Ask}
use Rattle.gateway_book.specs.Answer.{Terms, IsAsked, ask_airtime, overlap, refusal_of}
use Rattle.gateway_book.proofs.AnswerLaws.{accepted}
use Rattle.gateway_book.specs.Duty.{full_hour}
use Rattle.gateway_book.proofs.DutyKept.{duty_placed}
use Rattle.gateway_book.proofs.CancelLaws.{SpacedFrom-filter, begun-filter}
use Rattle.gateway_book.specs.Disjoint.{overlaps, rested_from, most_gap}
use Rattle.gateway_book.proofs.SpacedLaws.{SpacedFrom-place_by, free_of_clear}
use Rattle.gateway_book.proofs.ApartLaws.{first_has_least_start, apart_spaced, spaced_apart, rests_later}
use Rattle.gateway_book.specs.Orderly.{IsOrderly}

-- What stays orderly: no list at all, a list that is joined by what it may hold, and a part of a list.

-- it overlaps no member, and no hour of its band would be overfull with it
pub record MayJoin (gap : ℕ) (l : List Reservation) (r : Reservation) : Type 0 where
  pub clear : overlap gap l r.start (end_of r) ≡ None
  pub duty : (band : Band) → band_of r.freq_hz r.rate ≡ Some band → full_hour l band r.start (airtime_us r) ≡ None

-- every reservation is fit by its type
pub all_fit : (l : List Reservation) → All (λ r. IsFit r.start r.freq_hz r.rate r.len) l
all_fit l k d h = (get_or l k d).fit

pub orderly_nil : (gap : ℕ) → gap ≤ most_gap → IsOrderly gap []
orderly_nil gap h =
    record {
      rested = h;
      by_start = tt;
      lawful = record {
        fit = all_fit [];
        apart = λ i j r s e f n. absurd (cc);
        duty =
            λ band t. omega (arith, begun-nil band t (t + hour));
      };
    }

-- where no member overlaps, none is found
nothing : (o : Option Reservation) → option_map start_of o ≡ None → o ≡ None
nothing None e = refl
nothing (Some r) e = absurd (cc)

overlap-None : (gap : ℕ) (l : List Reservation) (from to : ℕ) → IsByStart l → overlap gap l from to ≡ None
    → find (overlaps start_of (rested_from gap) from (to + gap)) l ≡ None
unfolding overlap
overlap-None gap l from to s e =
    nothing (find (overlaps start_of (rested_from gap) from (to + gap)) l) (sym (first_has_least_start _ l s) ∙ e)

-- a reservation that overlaps no member begins where none does
pub free_where_clear : (gap : ℕ) (l : List Reservation) (r : Reservation) → IsByStart l
    → overlap gap l r.start (end_of r) ≡ None → IsFree r.start l
free_where_clear gap l r s e =
    free_of_clear start_of (rested_from gap) (rests_later gap) r.start (rested_from gap r) l (rests_later gap r)
    (overlap-None gap l r.start (end_of r) s e)

pub orderly_placed : {gap : ℕ} (l : List Reservation) (r : Reservation) → IsOrderly gap l → MayJoin gap l r
    → IsOrderly gap (place r l)
orderly_placed {gap} l r o j =
    let clear = overlap-None gap l r.start (end_of r) o.by_start j.clear in
    let spaced = SpacedFrom-place_by start_of (rested_from gap) (rests_later gap) 0 r l (omega arith) clear
    (apart_spaced gap 0 l o.by_start o.lawful.apart) in
    record {
      rested = o.rested;
      by_start = RisesFrom-place_by start_of 0 r l (omega arith) (free_where_clear gap l r o.by_start j.clear) o.by_start;
      lawful = record {
        fit = all_fit (place r l);
        apart = spaced_apart gap 0 (place r l) spaced;
        duty =
            duty_placed l r o.lawful.duty j.duty;
      };
    }

pub orderly_filter : {gap : ℕ} (test : Reservation → Bool) (l : List Reservation) → IsOrderly gap l
    → IsOrderly gap (filter test l)
orderly_filter {gap} test l o =
    let spaced = SpacedFrom-filter start_of (rested_from gap) (rests_later gap) test 0 l
    (apart_spaced gap 0 l o.by_start o.lawful.apart) in
    record {
      rested = o.rested;
      by_start = RisesFrom-filter start_of test 0 l o.by_start;
      lawful = record {
        fit = all_fit (filter test l);
        apart = spaced_apart gap 0 (filter test l) spaced;
        duty = λ band t. omega (arith, begun-filter band t (t + hour) test l, o.lawful.duty band t);
      };
    }

-- the hours of an ask and of the reservation with its fields
pub same_hour : (l : List Reservation) (band : Band) (ask : Ask) (r : Reservation) → IsAsked ask r
    → full_hour l band ask.start (ask_airtime ask) ≡ None → full_hour l band r.start (airtime_us r) ≡ None
same_hour l band ask r a e =
    let same : ask_airtime ask ≡ airtime_us r = rw (a.rate, a.len) refl in
    let P : ℕ → Type 0 = λ s. full_hour l band s (ask_airtime ask) ≡ None in
    let Q : ℕ → Type 0 = λ n. full_hour l band r.start n ≡ None in
    subst Q same (subst P (sym a.start) e)

-- the reservation with the fields of an ask that is accepted
pub may_join : (terms : Terms) (l : List Reservation) (ask : Ask) (r : Reservation) → IsAsked ask r
    → refusal_of terms l ask ≡ None
    → MayJoin terms.rules.gap l r
may_join terms l ask r a e =
    let h = accepted terms l ask e in
    record {
      clear = rw (a.start, a.rate, a.len) h.clear;
      duty = λ band e. same_hour l band ask r a (h.duty band (rw (a.freq_hz, a.rate) at e));
    }

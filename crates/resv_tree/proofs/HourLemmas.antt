use Rattle.std.specs.Prelude.{ℕ, ◌≡◌, ◌+◌, ◌*◌, ◌/◌, ◌≤◌, max, nat_lt, nat_le, Bool, true, false, ◌&&◌, List, [], ◌∷◌}
use Rattle.std.specs.Prelude.{Some, None, map, cond, find, option_map}
use Rattle.std.proofs.Common.{refl, arith, sym, ap, ◌∙◌, subst}
use Rattle.radio_bands.specs.declared.band.Band.{Band}
use Rattle.resv_list.specs.declared.reservation.Reservation.{Reservation}
use Rattle.resv_list.specs.Reservations.{is_in, spent}
use Rattle.resv_list.specs.Hours.{reach, starts_in, is_over, first_over, greatest, most_spent}
use Rattle.resv_list.proofs.HourLemmas.{greatest-cons}
use Rattle.resv_tree.specs.declared.entry.Entry.{Entry}
use Rattle.resv_tree.specs.Entries.{key_of, Each, reaches, first_reaching, member_of, members}
use Rattle.resv_tree.specs.Entries.{moved_in, CanMoveIn}
use Rattle.resv_tree.specs.OwnHours.{own_hour, HasHours, airtimes, raised, lowered, CountsIn}
use Rattle.resv_tree.specs.Shape.{Shape, entries, members_of, greatest_of, IsWhole}
use Rattle.resv_tree.proofs.EntryLemmas.{most_own, in_band, amount_of}
use Rattle.resv_tree.proofs.OwedLemmas.{entries-members, greatest_is_most}
use Rattle.resv_tree.proofs.FirstLemmas.{low_none}
use Rattle.resv_tree.proofs.QuarterLemmas.{above}

-- The own hours of all members, at the root.

-- an entry's own hour where it is one of the sub-band
own_spent : (l : List Reservation) (band : Band) (e : Entry) → 128 * e.own ≡ own_hour l e.reservation
    → is_in band e.reservation ≡ true
    → 128 * e.own ≡ spent l band e.reservation.start
own_spent l band e h i = h ∙ amount_of (λ b. spent l b e.reservation.start) e.reservation band (in_band e.reservation band i)

most_of_all : (l : List Reservation) (band : Band) (es : List Entry) → Each (λ e. 128 * e.own ≡ own_hour l e.reservation) es
    → 128 * most_own band es ≡ greatest (map (spent l band) (starts_in (members es) band))
most_of_all l band [] h = refl
most_of_all l band (e ∷ es) h =
    by (is_in band e.reservation) refl (greatest-cons (spent l band) band e.reservation (members es)
    (is_in band e.reservation) refl)
    (most_of_all l band es h.1)
  where
    by : (t : Bool) → is_in band e.reservation ≡ t
        → greatest (map (spent l band) (starts_in (members (e ∷ es)) band))
        ≡ max (cond t (spent l band e.reservation.start) 0) (greatest (map (spent l band) (starts_in (members es) band)))
        → 128 * most_own band es ≡ greatest (map (spent l band) (starts_in (members es) band))
        → 128 * max (cond t e.own 0) (most_own band es) ≡ greatest (map (spent l band) (starts_in (members (e ∷ es)) band))
    by true i g rest = omega (arith, g, rest, own_spent l band e h.0 i)
    by false i g rest = omega (arith, g, rest)

-- the greatest is that of the fullest hour
pub greatest_is_spent : (t : Shape) (band : Band) → IsWhole t → HasHours (entries t)
    → 128 * greatest_of t band ≡ most_spent (members_of t) band
greatest_is_spent t band w h =
    sym (ap (λ n. 128 * n) (greatest_is_most t band w)) ∙ most_of_all (members (entries t)) band (entries t) h
    ∙ ap (λ (l : List Reservation). most_spent l band) (entries-members t)

over_one : (l : List Reservation) (band : Band) (from to most : ℕ) (e : Entry) → 128 * e.own ≡ own_hour l e.reservation
    → is_over l band from to most e.reservation ≡ reaches band from to (most / 128 + 1) e
over_one l band from to most e h = by (is_in band e.reservation) refl
  where
    by : (t : Bool) → is_in band e.reservation ≡ t
        → (t && nat_le from e.reservation.start && nat_lt e.reservation.start to && nat_lt most
        (spent l band e.reservation.start))
        ≡ (t && nat_le from (key_of e) && nat_lt (key_of e) to && nat_le (most / 128 + 1) e.own)
    by true i =
        ap (λ (u : Bool). nat_le from (key_of e) && nat_lt (key_of e) to && u)
        (ap (nat_lt most) (sym (own_spent l band e h i)) ∙ above most e.own)
    by false i = refl

over_more : (p : Reservation → Bool) (q : Entry → Bool) (e : Entry) (es : List Entry) (t : Bool) → p e.reservation ≡ q e → q e ≡ t
    → find p (members es) ≡ option_map member_of (find q es)
    → find p (e.reservation ∷ members es) ≡ option_map member_of (cond t (Some e) (find q es))
over_more p q e es true s u rest = rw (s ∙ u) refl
over_more p q e es false s u rest = rw (s ∙ u) rest

over_all : (l : List Reservation) (band : Band) (from to most : ℕ) (es : List Entry)
    → Each (λ e. 128 * e.own ≡ own_hour l e.reservation) es
    → find (is_over l band from to most) (members es) ≡ first_reaching band from to (most / 128 + 1) es
over_all l band from to most [] h = refl
over_all l band from to most (e ∷ es) h =
    over_more (is_over l band from to most) (reaches band from to (most / 128 + 1)) e es (reaches band from to (most / 128 + 1) e)
    (over_one l band from to most e h.0) refl (over_all l band from to most es h.1)

-- the first entry that reaches more is the first member whose hour is over
pub first_reaching-over : (t : Shape) (band : Band) (from to most : ℕ) → HasHours (entries t)
    → first_reaching band from to (most / 128 + 1) (entries t) ≡ first_over band from to most (members_of t)
first_reaching-over t band from to most h =
    sym (over_all (members (entries t)) band from to most (entries t) h)
    ∙ ap (first_over band from to most) (entries-members t)

pub none_over : (t : Shape) (band : Band) (from to most : ℕ) → IsWhole t → HasHours (entries t)
    → most_spent (members_of t) band ≤ most → None ≡ first_over band from to most (members_of t)
none_over t band from to most w h m =
    low_none t band from to (most / 128 + 1) w (omega (arith, m, greatest_is_spent t band w h))
    ∙ first_reaching-over t band from to most h

-- One member more, or one less: what a tree does in a stretch against what its list does.

pub raised_by : (r : Reservation) (from : ℕ) (more less : Band → ℕ) (es : List Entry) → from ≡ reach r.start
    → ((band : Band) → more band ≡ airtimes r band) → ((band : Band) → less band ≡ 0)
    → map (moved_in from r.start more less) es ≡ map (raised r) es
raised_by r from more less es f a b =
    λ i. map (moved_in (f i) r.start (λ band. a band i) (λ band. b band i)) es

pub lowered_by : (r : Reservation) (from : ℕ) (more less : Band → ℕ) (es : List Entry) → from ≡ reach r.start
    → ((band : Band) → more band ≡ 0) → ((band : Band) → less band ≡ airtimes r band)
    → map (moved_in from r.start more less) es ≡ map (lowered r) es
lowered_by r from more less es f a b =
    λ i. map (moved_in (f i) r.start (λ band. a band i) (λ band. b band i)) es

pub lower_covered : (r : Reservation) (from : ℕ) (more less : Band → ℕ) (es : List Entry) → from ≡ reach r.start
    → ((band : Band) → more band ≡ 0) → ((band : Band) → less band ≡ airtimes r band) → Each (CountsIn r) es
    → Each (CanMoveIn from r.start more less) es
lower_covered r from more less es f a b c =
    subst (λ x. x) (λ i. Each (CanMoveIn (sym f i) r.start (λ band. sym (a band) i) (λ band. sym (b band) i)) es) c

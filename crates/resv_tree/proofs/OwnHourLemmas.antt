use Rattle.std.specs.Prelude.{ℕ, ◌≡◌, ◌≢◌, ◌+◌, ◌*◌, ◌≤◌, nat_le, ◌==◌, not, Bool, true, false}
use Rattle.std.specs.Prelude.{List, [], ◌∷◌, Some, None, map, cond}
use Rattle.std.proofs.Common.{refl, arith, sym, ap, ◌∙◌, subst}
use Rattle.std.proofs.lemmas.Bool.{leb-true}
use Rattle.std.proofs.lemmas.Bool.Decides.{nat_tests}
use Rattle.radio_bands.specs.declared.band.Band.{Band}
use Rattle.radio_bands.specs.Band.{hour, band_of}
use Rattle.resv_list.specs.declared.reservation.Reservation.{Reservation}
use Rattle.resv_list.specs.Sorted.{place_by, rest_from}
use Rattle.resv_list.specs.Hours.{reach}
use Rattle.resv_list.specs.Reservations.{start_of, is_in, airtime_in, airtime_us, share, begun, spent, place, member_at}
use Rattle.resv_list.specs.Reservations.{without, members_from}
use Rattle.resv_list.specs.Reservations.{IsByStart, IsFree}
use Rattle.resv_list.proofs.BegunLemmas.{share_within, begun-place}
use Rattle.resv_list.proofs.SortedLaws.{RisesFrom-filter}
use Rattle.resv_tree.specs.declared.entry.Entry.{Entry}
use Rattle.resv_tree.specs.Entries.{Each, key_of, IsByKey, members, entry_at, entries_without}
use Rattle.resv_tree.specs.OwnHours.{own_hour, HasHours, airtimes, nothing, raised, lowered, CountsIn}
use Rattle.resv_tree.specs.Shape.{Shape, entries, members_of, greatest_of, count_of, IsWhole}
use Rattle.resv_tree.proofs.EntryLemmas.{most_own, each-with, each-to-map, banded, amount_at, amount_of, entry_with}
use Rattle.resv_tree.proofs.EntryLemmas.{rises_entries}
use Rattle.resv_tree.proofs.OwedLemmas.{entries-members, greatest_is_most}
use Rattle.resv_tree.proofs.ShapeLemmas.{count_bounds_sum}
use Rattle.resv_tree.proofs.SumLemmas.{begun_difference, begun_le-total, kept_sum-total}
use Rattle.resv_tree.proofs.OwnLemmas.{begun-without, counted_hour, dropped_hour, each-filter, each-passed, each-place}
use Rattle.resv_tree.proofs.OwnLemmas.{each_free, lowered_hour, member_found, member_missing, members-from, members-moved_in}
use Rattle.resv_tree.proofs.OwnLemmas.{members-place, members-without, raised_hour, same_member}

-- The own hours of all.

abbrev HasHoursOf : List Reservation → Entry → Type 0
HasHoursOf l e = 128 * e.own ≡ own_hour l e.reservation

hours_with : (l : List Reservation) (es : List Entry) → members es ≡ l → Each (HasHoursOf l) es → HasHours es
hours_with l es same h = subst (λ m. Each (HasHoursOf m) es) (sym same) h

pub placed_hours : (r : Reservation) (own : ℕ) (es : List Entry) → IsFree r.start (members es)
    → 128 * own ≡ own_hour (place r (members es)) r → HasHours es
    → HasHours (place_by key_of (entry_with r own) (map (raised r) es))
placed_hours r own es free o h =
    let l = members es in
    let m = place r l in
    let same : members (place_by key_of (entry_with r own) (map (raised r) es)) ≡ m =
    members-place (entry_with r own) (map (raised r) es)
    ∙ ap (place r) (members-moved_in (reach r.start) r.start (airtimes r) nothing es) in
    let one : (e : Entry) → key_of e ≢ r.start → HasHoursOf l e → HasHoursOf m (raised r e) = λ e n own.
    raised_hour l m r e (λ band from to. begun-place band from to r l) n own
    ∙ ap (own_hour m) (sym (same_member (reach r.start) r.start (airtimes r) nothing e)) in
    hours_with m (place_by key_of (entry_with r own) (map (raised r) es)) same
    (each-place (HasHoursOf m) (entry_with r own) (map (raised r) es) o
    (each-to-map (HasHoursOf m) (raised r) es
    (each-with (λ e. key_of e ≢ r.start) (HasHoursOf l) (λ e. HasHoursOf m (raised r e)) one es (each_free r.start es free) h)))

others : (at : ℕ) (es : List Entry) → Each (λ e. key_of e ≢ at) (entries_without at es)
others at es =
    each-with (λ e. not (key_of e == at) ≡ true) (λ e. not (key_of e == at) ≡ true) (λ e. key_of e ≢ at)
    (λ e p q. other e (key_of e == at) refl p) (entries_without at es) (each-passed (λ e. not (key_of e == at)) es)
    (each-passed (λ e. not (key_of e == at)) es)
  where
    other : (e : Entry) (t : Bool) → (key_of e == at) ≡ t → not t ≡ true → key_of e ≢ at
    other e true u p = absurd (cc)
    other e false u p = λ same. absurd (grind (arith, nat_tests, u, same))

module _ (at : ℕ) (es : List Entry) (x : Entry) (b : IsByStart (members es)) (f : entry_at at es ≡ Some x) (h : HasHours es) where
  abbrev l : List Reservation
  l = members es

  abbrev r : Reservation
  r = x.reservation

  less : (band : Band) (from to : ℕ) → begun band from to l ≡ share band from to r + begun band from to (without at l)
  less band from to = begun-without band from to at 0 r l b (member_found at es x f).0

  others_of : Each (λ e. key_of e ≢ r.start) (entries_without at es)
  others_of = subst (λ k. Each (λ e. key_of e ≢ k) (entries_without at es)) (sym (member_found at es x f).1) (others at es)

  pub taken_counted : Each (CountsIn r) (entries_without at es)
  taken_counted =
      each-with (λ e. key_of e ≢ r.start) (HasHoursOf l) (CountsIn r) (λ e n own. counted_hour l (without at l) r e less n own)
      (entries_without at es) others_of (each-filter (HasHoursOf l) (λ e. not (key_of e == at)) es h)

  pub taken_hours : HasHours (map (lowered r) (entries_without at es))
  taken_hours =
      let m = without at l in
      let same : members (map (lowered r) (entries_without at es)) ≡ m =
      members-moved_in (reach r.start) r.start nothing (airtimes r) (entries_without at es) ∙ members-without at es in
      let one : (e : Entry) → key_of e ≢ r.start → HasHoursOf l e → HasHoursOf m (lowered r e) = λ e n own.
      lowered_hour l m r e less n own
      ∙ ap (own_hour m) (sym (same_member (reach r.start) r.start nothing (airtimes r) e)) in
      hours_with m (map (lowered r) (entries_without at es)) same
      (each-to-map (HasHoursOf m) (lowered r) (entries_without at es)
      (each-with (λ e. key_of e ≢ r.start) (HasHoursOf l) (λ e. HasHoursOf m (lowered r e)) one (entries_without at es) others_of
      (each-filter (HasHoursOf l) (λ e. not (key_of e == at)) es h)))

pub rest_hours : (at : ℕ) (es : List Entry) → HasHours es → HasHours (rest_from key_of at es)
rest_hours at es h =
    let l = members es in
    let one : (e : Entry) → nat_le at (key_of e) ≡ true → HasHoursOf l e → HasHoursOf (members_from at l) e = λ e p own.
    dropped_hour l at e (leb-true at (key_of e) p) own in
    hours_with (members_from at l) (rest_from key_of at es) (members-from at es)
    (each-with (λ e. nat_le at (key_of e) ≡ true) (HasHoursOf l) (HasHoursOf (members_from at l)) one (rest_from key_of at es)
    (each-passed (λ e. nat_le at (key_of e)) es) (each-filter (HasHoursOf l) (λ e. nat_le at (key_of e)) es h))

-- Bounds.

most_bounded : (band : Band) (n : ℕ) (es : List Entry) → Each (λ e. e.own ≤ n) es → most_own band es ≤ n
most_bounded band n [] h = omega arith
most_bounded band n (e ∷ es) h = omega (arith, one (is_in band e.reservation), most_bounded band n es h.1)
  where
    one : (t : Bool) → cond t e.own 0 ≤ n
    one true = h.0
    one false = omega arith

-- what begins in a stretch is bounded by the count
pub begun_short : (t : Shape) (band : Band) (from to : ℕ) → IsWhole t
    → begun band from to (members_of t) ≤ 4194304 * count_of t
begun_short t band from to w =
    omega (
      arith,
      begun_difference band from to (members_of t),
      begun_le-total band to (members_of t),
      kept_sum-total t band w,
      count_bounds_sum t band w,
    )

hours_bounded : (t : Shape) (n : ℕ) → IsWhole t → 4194304 * count_of t ≤ 128 * n → (es : List Entry)
    → Each (HasHoursOf (members_of t)) es → Each (λ e. e.own ≤ n) es
hours_bounded t n w c [] h = tt
hours_bounded t n w c (e ∷ es) h =
    let b = banded e.reservation in (
      omega (
        arith,
        h.0,
        amount_at (λ band. spent (members_of t) band (key_of e)) e.reservation b,
        begun_short t b.band (key_of e) (key_of e + hour) w,
        c,
      ),
      hours_bounded t n w c es h.1,
    )

pub all_bounded : (t : Shape) → IsWhole t → HasHours (entries t) → count_of t ≤ 65536
    → Each (λ e. e.own ≤ 2147483648) (entries t)
all_bounded t w h c =
    hours_bounded t 2147483648 w (omega (arith, c)) (entries t)
    (subst (λ l. Each (HasHoursOf l) (entries t)) (entries-members t) h)

greatest_bounded : (t : Shape) → IsWhole t → Each (λ e. e.own ≤ 2147483648) (entries t) → (band : Band)
    → greatest_of t band ≤ 2147483648
greatest_bounded t w h band =
    omega (arith, greatest_is_most t band w, most_bounded band 2147483648 (entries t) h)

-- The calls.

pub root_by_key : (s : Shape) → IsByStart (members_of s) → IsByKey (entries s)
root_by_key s b = rises_entries 0 (entries s) (subst IsByStart (sym (entries-members s)) b)

pub root_fits : (s : Shape) → IsWhole s → HasHours (entries s) → count_of s ≤ 65536 → (band : Band)
    → greatest_of s band ≤ 2147483648
root_fits s w h c = greatest_bounded s w (all_bounded s w h c)

raised_members : (s u : Shape) (r : Reservation) → entries u ≡ map (raised r) (entries s) → members (entries u) ≡ members_of s
raised_members s u r raise =
    ap members raise ∙ members-moved_in (reach r.start) r.start (airtimes r) nothing (entries s) ∙ entries-members s

pub raised_by_key : (s u : Shape) (r : Reservation) → IsByStart (members_of s) → entries u ≡ map (raised r) (entries s)
    → IsByKey (entries u)
raised_by_key s u r b raise = rises_entries 0 (entries u) (subst IsByStart (sym (raised_members s u r raise)) b)

module _ (s u t : Shape) (r : Reservation) (x : Entry) (own : ℕ) (is : x ≡ entry_with r own)
    (raise : entries u ≡ map (raised r) (entries s)) (insert : entries t ≡ place_by key_of x (entries u)) where
  pub inserted_members : members_of t ≡ place r (members_of s)
  inserted_members =
      sym (entries-members t) ∙ ap members insert ∙ members-place x (entries u)
      ∙ ap (λ (y : Entry). place y.reservation (members (entries u))) is ∙ ap (place r) (raised_members s u r raise)

  pub inserted_hours : IsFree r.start (members_of s) → 128 * own ≡ own_hour (place r (members_of s)) r → HasHours (entries s)
      → HasHours (entries t)
  inserted_hours free o h =
      let all = entries-members s in
      subst HasHours (sym (insert ∙ ap (place_by key_of x) raise ∙ ap (λ y. place_by key_of y (map (raised r) (entries s))) is))
      (placed_hours r own (entries s) (subst (IsFree r.start) (sym all) free)
      (subst (λ l. 128 * own ≡ own_hour (place r l) r) (sym all) o) h)

missing_same : (at : ℕ) (es : List Entry) → entry_at at es ≡ None → entries_without at es ≡ es
missing_same at [] h = refl
missing_same at (x ∷ xs) h = by (key_of x == at) h (missing_same at xs)
  where
    by : (t : Bool) → cond t (Some x) (entry_at at xs) ≡ None → (entry_at at xs ≡ None → entries_without at xs ≡ xs)
        → cond (not t) (x ∷ entries_without at xs) (entries_without at xs) ≡ x ∷ xs
    by true f rest = absurd (cc)
    by false f rest = ap (λ (es : List Entry). x ∷ es) (rest f)

module _ (s t : Shape) (at : ℕ) (b : IsByStart (members_of s)) (left : entries t ≡ entries_without at (entries s)) where
  pub left_members : members_of t ≡ without at (members_of s)
  left_members =
      sym (entries-members t) ∙ ap members left ∙ members-without at (entries s) ∙ ap (without at) (entries-members s)

  pub left_by_start : IsByStart (members_of t)
  left_by_start = subst IsByStart (sym left_members) (RisesFrom-filter start_of _ 0 (members_of s) b)

  pub left_fits : IsWhole s → HasHours (entries s) → count_of s ≤ 65536 → IsWhole t → (band : Band)
      → greatest_of t band ≤ 2147483648
  left_fits w h c v =
      greatest_bounded t v (subst (Each (λ e. e.own ≤ 2147483648)) (sym left)
      (each-filter (λ e. e.own ≤ 2147483648) (λ e. not (key_of e == at)) (entries s) (all_bounded s w h c)))

  pub missing_hours : entry_at at (entries s) ≡ None → HasHours (entries s) → HasHours (entries t)
  missing_hours f h = subst HasHours (sym (left ∙ missing_same at (entries s) f)) h

  pub no_member : entry_at at (entries s) ≡ None → None ≡ member_at at (members_of s)
  no_member f = sym (sym (ap (member_at at) (entries-members s)) ∙ member_missing at (entries s) f)

  module _ (x : Entry) (f : entry_at at (entries s) ≡ Some x) where
    pub the_member : Some x.reservation ≡ member_at at (members_of s)
    the_member = sym (sym (ap (member_at at) (entries-members s)) ∙ (member_found at (entries s) x f).0)

    all_by_start : IsByStart (members (entries s))
    all_by_start = subst IsByStart (sym (entries-members s)) b

    pub left_counted : HasHours (entries s) → Each (CountsIn x.reservation) (entries t)
    left_counted h = subst (Each (CountsIn x.reservation)) (sym left) (taken_counted at (entries s) x all_by_start f h)

    module _ (u : Shape) (lower : entries u ≡ map (lowered x.reservation) (entries t)) where
      pub lowered_members : members_of u ≡ without at (members_of s)
      lowered_members =
          sym (entries-members u) ∙ ap members lower
          ∙ members-moved_in (reach x.reservation.start) x.reservation.start nothing (airtimes x.reservation) (entries t)
          ∙ entries-members t ∙ left_members

      pub lowered_hours : HasHours (entries s) → HasHours (entries u)
      lowered_hours h =
          subst HasHours (sym (lower ∙ ap (map (lowered x.reservation)) left)) (taken_hours at (entries s) x all_by_start f h)

module _ (s t : Shape) (at : ℕ) (drop : entries t ≡ rest_from key_of at (entries s)) where
  pub dropped_members : members_of t ≡ members_from at (members_of s)
  dropped_members =
      sym (entries-members t) ∙ ap members drop ∙ members-from at (entries s) ∙ ap (members_from at) (entries-members s)

  pub dropped_hours : HasHours (entries s) → HasHours (entries t)
  dropped_hours h = subst HasHours (sym drop) (rest_hours at (entries s) h)

-- the own hour of a member that is placed
pub own_placed : (l : List Reservation) (r : Reservation) (band : Band) (n : ℕ) → band_of r.freq_hz r.rate ≡ Some band
    → n ≡ airtime_us r → n + begun band r.start (r.start + hour) l ≡ own_hour (place r l) r
own_placed l r band n e a =
    let in_it : airtime_in band r ≡ airtime_us r = let b = banded r in let same : b.band ≡ band = cc in
    rw (sym same) (rw b.holds refl) in
    omega (
      arith,
      a,
      in_it,
      amount_of (λ c. spent (place r l) c r.start) r band e,
      begun-place band r.start (r.start + hour) r l,
      share_within band r.start (r.start + hour) r (omega arith) (omega arith),
    )

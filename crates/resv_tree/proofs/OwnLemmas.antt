use Rattle.std.specs.Prelude.{ℕ, ◌≡◌, ◌≢◌, ◌+◌, ◌-◌, ◌*◌, ◌≤◌, nat_lt, nat_le, ◌==◌, not, Bool, true, false, ◌&&◌}
use Rattle.std.specs.Prelude.{List, [], ◌∷◌, Some, None, map, filter, cond}
use Rattle.std.proofs.Common.{refl, arith, zero, suc, sym, ap, ◌∙◌}
use Rattle.std.proofs.lemmas.Bool.{leb-true, leb-false, ltb-true, ltb-false}
use Rattle.std.proofs.lemmas.Bool.Decides.{nat_tests}
use Rattle.radio_bands.specs.declared.band.Band.{Band}
use Rattle.radio_bands.specs.Band.{hour}
use Rattle.resv_list.specs.declared.reservation.Reservation.{Reservation}
use Rattle.resv_list.specs.Begun.{begun-cons}
use Rattle.resv_list.specs.Sorted.{RisesFrom, place_by, rest_from}
use Rattle.resv_list.specs.Hours.{reach}
use Rattle.resv_list.specs.Reservations.{start_of, airtime_in, share, begun, spent, place, member_at}
use Rattle.resv_list.specs.Reservations.{without, members_from}
use Rattle.resv_list.specs.Reservations.{IsFree}
use Rattle.resv_list.proofs.BegunLemmas.{share_before, share_after, share_within}
use Rattle.resv_list.proofs.SortedLaws.{at_none}
use Rattle.resv_tree.specs.declared.entry.Entry.{Entry}
use Rattle.resv_tree.specs.Entries.{Each, key_of, members, moved_in, amount, entry_at, entries_without}
use Rattle.resv_tree.specs.OwnHours.{own_hour, airtimes, nothing, raised, lowered, CountsIn}
use Rattle.resv_tree.specs.Shape.{Shape, entries, kept_sum, IsWhole}
use Rattle.resv_tree.proofs.EntryLemmas.{Banded, banded, amount_at}
use Rattle.resv_tree.proofs.OwedLemmas.{entries-members}
use Rattle.resv_tree.proofs.QuarterLemmas.{airtime_in-whole}
use Rattle.resv_tree.proofs.SumLemmas.{kept_sum-total}
use Rattle.resv_tree.proofs.TotalLemmas.{total_in}

-- The own hours of all members once one is placed, taken out, or dropped.

-- What begins in a stretch, with one member more or less.

pub begun-without : (band : Band) (from to at low : ℕ) (r : Reservation) (l : List Reservation) → RisesFrom start_of low l
    → member_at at l ≡ Some r → begun band from to l ≡ share band from to r + begun band from to (without at l)
begun-without band from to at low r [] h e = absurd (cc)
begun-without band from to at low r (x ∷ xs) h e = by (x.start == at) refl e
    (begun-without band from to at (x.start + 1) r xs h.1)
  where
    by : (t : Bool) → (x.start == at) ≡ t → cond t (Some x) (member_at at xs) ≡ Some r
        → (member_at at xs ≡ Some r → begun band from to xs ≡ share band from to r + begun band from to (without at xs))
        → begun band from to (x ∷ xs) ≡ share band from to r + begun band from to
        (cond (not t) (x ∷ without at xs) (without at xs))
    by true u f rest =
        let same : x ≡ r = cc in
        let here : x.start ≡ at = grind (arith, nat_tests) in
        let gone : without at xs ≡ xs = (at_none start_of (x.start + 1) at xs (omega (arith, here)) h.1).1 in
        rw gone (omega (arith, begun-cons band from to x xs, ap (share band from to) same))
    by false u f rest = omega (arith, begun-cons band from to x xs, begun-cons band from to x (without at xs), rest f)

-- what begins from a moment on doesn't need those that begin before it
pub begun-from : (band : Band) (from to at : ℕ) (l : List Reservation) → at ≤ from
    → begun band from to (members_from at l) ≡ begun band from to l
begun-from band from to at [] h = refl
begun-from band from to at (x ∷ xs) h = by (nat_le at x.start) refl (begun-from band from to at xs h)
  where
    by : (t : Bool) → nat_le at x.start ≡ t → begun band from to (members_from at xs) ≡ begun band from to xs
        → begun band from to (cond t (x ∷ members_from at xs) (members_from at xs)) ≡ begun band from to (x ∷ xs)
    by true u rest = omega (arith, begun-cons band from to x (members_from at xs), begun-cons band from to x xs, rest)
    by false u rest =
        omega (arith, begun-cons band from to x xs, share_before band from to x (omega (arith, h, leb-false at x.start u)), rest)

-- the hour that opens at s has what a member has where it opens in the stretch before the member that reaches it
share_hour : (band : Band) (s : ℕ) (r : Reservation) → s ≢ r.start
    → share band s (s + hour) r ≡ cond (nat_le (reach r.start) s && nat_lt s r.start) (airtime_in band r) 0
share_hour band s r n = by (nat_le (reach r.start) s) (nat_lt s r.start) refl refl
  where
    by : (p q : Bool) → nat_le (reach r.start) s ≡ p → nat_lt s r.start ≡ q
        → share band s (s + hour) r ≡ cond (p && q) (airtime_in band r) 0
    by true true a b =
        let low = leb-true (reach r.start) s a in
        let high = ltb-true s r.start b in
        share_within band s (s + hour) r (omega (arith, high)) (omega (arith, low))
    by true false a b = share_before band s (s + hour) r (grind (arith, n, ltb-false s r.start b))
    by false true a b = share_after band s (s + hour) r (omega (arith, leb-false (reach r.start) s a))
    by false false a b = share_before band s (s + hour) r (grind (arith, n, ltb-false s r.start b))

-- Members of lists of entries.

pub members-place : (x : Entry) (es : List Entry) → members (place_by key_of x es) ≡ place x.reservation (members es)
members-place x [] = refl
members-place x (e ∷ es) = by (nat_lt (key_of e) (key_of x)) (members-place x es)
  where
    by : (t : Bool) → members (place_by key_of x es) ≡ place x.reservation (members es)
        → members (cond t (e ∷ place_by key_of x es) (x ∷ e ∷ es))
        ≡ cond t (e.reservation ∷ place x.reservation (members es)) (x.reservation ∷ e.reservation ∷ members es)
    by true rest = ap (λ (rs : List Reservation). e.reservation ∷ rs) rest
    by false rest = refl

pub members-without : (at : ℕ) (es : List Entry) → members (entries_without at es) ≡ without at (members es)
members-without at [] = refl
members-without at (e ∷ es) = by (key_of e == at) (members-without at es)
  where
    by : (t : Bool) → members (entries_without at es) ≡ without at (members es)
        → members (cond (not t) (e ∷ entries_without at es) (entries_without at es))
        ≡ cond (not t) (e.reservation ∷ without at (members es)) (without at (members es))
    by true rest = rest
    by false rest = ap (λ (rs : List Reservation). e.reservation ∷ rs) rest

pub members-from : (at : ℕ) (es : List Entry) → members (rest_from key_of at es) ≡ members_from at (members es)
members-from at [] = refl
members-from at (e ∷ es) = by (nat_le at (key_of e)) (members-from at es)
  where
    by : (t : Bool) → members (rest_from key_of at es) ≡ members_from at (members es)
        → members (cond t (e ∷ rest_from key_of at es) (rest_from key_of at es))
        ≡ cond t (e.reservation ∷ members_from at (members es)) (members_from at (members es))
    by true rest = ap (λ (rs : List Reservation). e.reservation ∷ rs) rest
    by false rest = rest

pub same_member : (from to : ℕ) (more less : Band → ℕ) (e : Entry) → (moved_in from to more less e).reservation ≡ e.reservation
same_member from to more less e = by (nat_le from (key_of e) && nat_lt (key_of e) to)
  where
    by : (t : Bool) → (cond t (record {
      reservation = e.reservation;
      own = e.own + amount more e.reservation - amount less e.reservation;
    }) e).reservation ≡ e.reservation
    by true = refl
    by false = refl

pub members-moved_in : (from to : ℕ) (more less : Band → ℕ) (es : List Entry)
    → members (map (moved_in from to more less) es) ≡ members es
members-moved_in from to more less [] = refl
members-moved_in from to more less (e ∷ es) =
    λ i. same_member from to more less e i ∷ members-moved_in from to more less es i

-- where own hours changed in a stretch, each sub-band's airtime is as before
pub shifted_sums : (from to : ℕ) (more less : Band → ℕ) (t s : Shape) → IsWhole t → IsWhole s
    → entries t ≡ map (moved_in from to more less) (entries s) → (band : Band) → kept_sum t band ≡ kept_sum s band
shifted_sums from to more less t s w v same band =
    kept_sum-total t band w
    ∙ ap (total_in band)
    (sym (entries-members t) ∙ ap members same ∙ members-moved_in from to more less (entries s) ∙ entries-members s)
    ∙ sym (kept_sum-total s band v)

pub member_found : (at : ℕ) (es : List Entry) (e : Entry) → entry_at at es ≡ Some e
    → (member_at at (members es) ≡ Some e.reservation) × (key_of e ≡ at)
member_found at [] e h = absurd (cc)
member_found at (x ∷ xs) e h = by (key_of x == at) refl h (member_found at xs e)
  where
    by : (t : Bool) → (key_of x == at) ≡ t → cond t (Some x) (entry_at at xs) ≡ Some e
        → (entry_at at xs ≡ Some e → (member_at at (members xs) ≡ Some e.reservation) × (key_of e ≡ at))
        → (cond t (Some x.reservation) (member_at at (members xs)) ≡ Some e.reservation) × (key_of e ≡ at)
    by true u f rest =
        let same : x ≡ e = cc in
        let here : key_of x ≡ at = grind (arith, nat_tests) in
        (ap (λ (y : Entry). Some y.reservation) same, sym (ap key_of same) ∙ here)
    by false u f rest = rest f

pub member_missing : (at : ℕ) (es : List Entry) → entry_at at es ≡ None → member_at at (members es) ≡ None
member_missing at [] h = refl
member_missing at (x ∷ xs) h = by (key_of x == at) h (member_missing at xs)
  where
    by : (t : Bool) → cond t (Some x) (entry_at at xs) ≡ None → (entry_at at xs ≡ None → member_at at (members xs) ≡ None)
        → cond t (Some x.reservation) (member_at at (members xs)) ≡ None
    by true f rest = absurd (cc)
    by false f rest = rest f

-- Facts of each entry.

pub each-place : (P : Entry → Type 0) (x : Entry) (es : List Entry) → P x → Each P es → Each P (place_by key_of x es)
each-place P x [] p h = (p, tt)
each-place P x (e ∷ es) p h = by (nat_lt (key_of e) (key_of x)) (each-place P x es p h.1)
  where
    by : (t : Bool) → Each P (place_by key_of x es) → Each P (cond t (e ∷ place_by key_of x es) (x ∷ e ∷ es))
    by true rest = (h.0, rest)
    by false rest = (p, h)

pub each-filter : (P : Entry → Type 0) (test : Entry → Bool) (es : List Entry) → Each P es → Each P (filter test es)
each-filter P test [] h = tt
each-filter P test (e ∷ es) h = by (test e) (each-filter P test es h.1)
  where
    by : (t : Bool) → Each P (filter test es) → Each P (cond t (e ∷ filter test es) (filter test es))
    by true rest = (h.0, rest)
    by false rest = rest

pub each-passed : (test : Entry → Bool) (es : List Entry) → Each (λ e. test e ≡ true) (filter test es)
each-passed test [] = tt
each-passed test (e ∷ es) = by (test e) refl (each-passed test es)
  where
    by : (t : Bool) → test e ≡ t → Each (λ x. test x ≡ true) (filter test es)
        → Each (λ x. test x ≡ true) (cond t (e ∷ filter test es) (filter test es))
    by true u rest = (u, rest)
    by false u rest = rest

pub each_free : (at : ℕ) (es : List Entry) → IsFree at (members es) → Each (λ e. key_of e ≢ at) es
each_free at [] n = tt
each_free at (e ∷ es) n = (n zero 0 (omega arith), each_free at es (λ k d l. n (suc k) d (omega (arith, l))))

-- One entry's own hour, with one member more or less.

pub raised_hour : (l m : List Reservation) (r : Reservation) (e : Entry)
    → ((band : Band) (from to : ℕ) → begun band from to m ≡ share band from to r + begun band from to l) → key_of e ≢ r.start
    → 128 * e.own ≡ own_hour l e.reservation → 128 * (raised r e).own ≡ own_hour m e.reservation
raised_hour l m r e more n own = go (banded e.reservation)
  where
    by : (b : Banded e.reservation) (t : Bool) → share b.band (key_of e) (key_of e + hour) r ≡ cond t (airtime_in b.band r) 0
        → 128 * (cond t (record {
          reservation = e.reservation;
          own = e.own + amount (airtimes r) e.reservation - amount nothing e.reservation;
        }) e).own ≡ own_hour m e.reservation
    by b true s = omega (
      arith,
      own,
      s,
      more b.band (key_of e) (key_of e + hour),
      airtime_in-whole b.band r,
      amount_at (airtimes r) e.reservation b,
      amount_at nothing e.reservation b,
      amount_at (λ c. spent l c (key_of e)) e.reservation b,
      amount_at (λ c. spent m c (key_of e)) e.reservation b,
    )
    by b false s = omega (
      arith,
      own,
      s,
      more b.band (key_of e) (key_of e + hour),
      amount_at (λ c. spent l c (key_of e)) e.reservation b,
      amount_at (λ c. spent m c (key_of e)) e.reservation b,
    )

    go : Banded e.reservation → 128 * (raised r e).own ≡ own_hour m e.reservation
    go b = by b (nat_le (reach r.start) (key_of e) && nat_lt (key_of e) r.start) (share_hour b.band (key_of e) r n)

pub lowered_hour : (l m : List Reservation) (r : Reservation) (e : Entry)
    → ((band : Band) (from to : ℕ) → begun band from to l ≡ share band from to r + begun band from to m) → key_of e ≢ r.start
    → 128 * e.own ≡ own_hour l e.reservation → 128 * (lowered r e).own ≡ own_hour m e.reservation
lowered_hour l m r e less n own = go (banded e.reservation)
  where
    by : (b : Banded e.reservation) (t : Bool) → share b.band (key_of e) (key_of e + hour) r ≡ cond t (airtime_in b.band r) 0
        → 128 * (cond t (record {
          reservation = e.reservation;
          own = e.own + amount nothing e.reservation - amount (airtimes r) e.reservation;
        }) e).own ≡ own_hour m e.reservation
    by b true s = omega (
      arith,
      own,
      s,
      less b.band (key_of e) (key_of e + hour),
      airtime_in-whole b.band r,
      amount_at (airtimes r) e.reservation b,
      amount_at nothing e.reservation b,
      amount_at (λ c. spent l c (key_of e)) e.reservation b,
      amount_at (λ c. spent m c (key_of e)) e.reservation b,
    )
    by b false s = omega (
      arith,
      own,
      s,
      less b.band (key_of e) (key_of e + hour),
      amount_at (λ c. spent l c (key_of e)) e.reservation b,
      amount_at (λ c. spent m c (key_of e)) e.reservation b,
    )

    go : Banded e.reservation → 128 * (lowered r e).own ≡ own_hour m e.reservation
    go b = by b (nat_le (reach r.start) (key_of e) && nat_lt (key_of e) r.start) (share_hour b.band (key_of e) r n)

-- what is to be taken is there
pub counted_hour : (l m : List Reservation) (r : Reservation) (e : Entry)
    → ((band : Band) (from to : ℕ) → begun band from to l ≡ share band from to r + begun band from to m) → key_of e ≢ r.start
    → 128 * e.own ≡ own_hour l e.reservation → CountsIn r e
counted_hour l m r e less n own = λ low high.
    let b = banded e.reservation in
    let s : share b.band (key_of e) (key_of e + hour) r ≡ airtime_in b.band r =
    share_within b.band (key_of e) (key_of e + hour) r (omega (arith, high)) (omega (arith, low)) in
    omega (
      arith,
      own,
      s,
      less b.band (key_of e) (key_of e + hour),
      airtime_in-whole b.band r,
      amount_at (airtimes r) e.reservation b,
      amount_at nothing e.reservation b,
      amount_at (λ c. spent l c (key_of e)) e.reservation b,
    )

pub dropped_hour : (l : List Reservation) (at : ℕ) (e : Entry) → at ≤ key_of e → 128 * e.own ≡ own_hour l e.reservation
    → 128 * e.own ≡ own_hour (members_from at l) e.reservation
dropped_hour l at e h own =
    let b = banded e.reservation in
    omega (
      arith,
      own,
      begun-from b.band (key_of e) (key_of e + hour) at l h,
      amount_at (λ c. spent l c (key_of e)) e.reservation b,
      amount_at (λ c. spent (members_from at l) c (key_of e)) e.reservation b,
    )

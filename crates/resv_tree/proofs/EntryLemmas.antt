use Rattle.std.specs.Prelude.{ℕ, ◌≡◌, ◌≢◌, ◌+◌, ◌-◌, ◌<◌, ◌≤◌, max, Bool, true, false, List, [], ◌∷◌, ◌++◌, Option, Some, None}
use Rattle.std.specs.Prelude.{map, cond}
use Rattle.std.specs.Prelude.{is_some}
use Rattle.std.proofs.Common.{refl, arith, zero, suc, ap, ◌∙◌}
use Rattle.radio_airtime.specs.Bounds.{airtime_of-positive}
use Rattle.radio_bands.specs.declared.band.Band.{Band}
use Rattle.radio_bands.specs.Band.{band_of}
use Rattle.radio_bands.proofs.BandLaws.{LiesIn-band_of, lies_in-true}
use Rattle.resv_list.specs.declared.reservation.Reservation.{Reservation}
use Rattle.resv_list.specs.Sorted.{RisesFrom}
use Rattle.resv_list.specs.Reservations.{start_of, is_in, airtime_us, airtime_in}
use Rattle.resv_list.specs.Hours.{greatest}
use Rattle.resv_list.proofs.NetLemmas.{in_own}
use Rattle.resv_tree.specs.declared.entry.Entry.{Entry}
use Rattle.resv_tree.specs.Entries.{Each, amount, at_band, moved, own_in, members, key_of}
use Rattle.resv_tree.proofs.TotalLemmas.{total_in, total_in-nil, total_in-cons}

-- Lists of entries, and amounts by sub-bands.

-- the greatest own hour of the band
abbrev pub most_own : Band → List Entry → ℕ
most_own band es = greatest (map (own_in band) es)

module _ {X : Type 0} where
  pub each : (P : X → Type 0) → ((x : X) → P x) → (xs : List X) → Each P xs
  each P h [] = tt
  each P h (x ∷ xs) = (h x, each P h xs)

  pub each-with : (P Q R : X → Type 0) → ((x : X) → P x → Q x → R x) → (xs : List X) → Each P xs → Each Q xs → Each R xs
  each-with P Q R h [] p q = tt
  each-with P Q R h (x ∷ xs) p q = (h x p.0 q.0, each-with P Q R h xs p.1 q.1)

  pub each-left : (P : X → Type 0) (ls : List X) (x : X) (rs : List X) → Each P (ls ++ x ∷ rs) → Each P ls
  each-left P [] x rs h = tt
  each-left P (y ∷ ls) x rs h = (h.0, each-left P ls x rs h.1)

  pub each-right : (P : X → Type 0) (ls : List X) (x : X) (rs : List X) → Each P (ls ++ x ∷ rs) → P x × Each P rs
  each-right P [] x rs h = h
  each-right P (y ∷ ls) x rs h = each-right P ls x rs h.1

  pub each-of-map : (P : X → Type 0) (f : X → X) (xs : List X) → Each P (map f xs) → Each (λ x. P (f x)) xs
  each-of-map P f [] h = tt
  each-of-map P f (x ∷ xs) h = (h.0, each-of-map P f xs h.1)

  pub each-to-map : (P : X → Type 0) (f : X → X) (xs : List X) → Each (λ x. P (f x)) xs → Each P (map f xs)
  each-to-map P f [] h = tt
  each-to-map P f (x ∷ xs) h = (h.0, each-to-map P f xs h.1)

  pub map-same : (f g : X → X) (xs : List X) → Each (λ x. f x ≡ g x) xs → map f xs ≡ map g xs
  map-same f g [] h = refl
  map-same f g (x ∷ xs) h = λ i. h.0 i ∷ map-same f g xs h.1 i

  pub map-identity : (f : X → X) (xs : List X) → ((x : X) → f x ≡ x) → map f xs ≡ xs
  map-identity f [] h = refl
  map-identity f (x ∷ xs) h = λ i. h x i ∷ map-identity f xs h i

  pub map-parts : (f : X → X) (ls : List X) (x : X) (rs : List X) → map f (ls ++ x ∷ rs) ≡ map f ls ++ f x ∷ map f rs
  map-parts f [] x rs = refl
  map-parts f (y ∷ ls) x rs = ap (λ (zs : List X). f y ∷ zs) (map-parts f ls x rs)

  pub map-map : (f g : X → X) (xs : List X) → map f (map g xs) ≡ map (λ x. f (g x)) xs
  map-map f g [] = refl
  map-map f g (x ∷ xs) = ap (λ (zs : List X). f (g x) ∷ zs) (map-map f g xs)

-- the sub-band of a member
pub record Banded (r : Reservation) : Type 0 where
  pub band : Band
  pub is : band_of r.freq_hz r.rate ≡ Some band
  pub holds : is_in band r ≡ true

pub in_band : (r : Reservation) (band : Band) → is_in band r ≡ true → band_of r.freq_hz r.rate ≡ Some band
in_band r band e = LiesIn-band_of r.freq_hz r.rate band (lies_in-true r.freq_hz r.rate band e)

pub banded : (r : Reservation) → Banded r
banded r = by (band_of r.freq_hz r.rate) refl r.fit.banded
  where
    by : (o : Option Band) → band_of r.freq_hz r.rate ≡ o → is_some (band_of r.freq_hz r.rate) ≡ true → Banded r
    by None e h = absurd (cc)
    by (Some band) e h = record { band = band; is = e; holds = in_own r band e }

pub amount_of : (f : Band → ℕ) (r : Reservation) (band : Band) → band_of r.freq_hz r.rate ≡ Some band → amount f r ≡ f band
amount_of f r band e = ap (at_band f) e

pub amount_at : (f : Band → ℕ) (r : Reservation) (b : Banded r) → amount f r ≡ f b.band
amount_at f r b = amount_of f r b.band b.is

-- entries of one member differ by their own hours alone
abbrev pub entry_with : Reservation → ℕ → Entry
entry_with r own = record { reservation = r; own = own }

pub own_same : (e : Entry) (m n : ℕ) → m ≡ n → entry_with e.reservation m ≡ entry_with e.reservation n
own_same e m n p = ap (entry_with e.reservation) p

-- members have their keys, and stay as they are
pub members-moved : (more less : Band → ℕ) (es : List Entry) → members (map (moved more less) es) ≡ members es
members-moved more less [] = refl
members-moved more less (e ∷ es) = ap (λ (rs : List Reservation). e.reservation ∷ rs) (members-moved more less es)

pub members-parts : (ls : List Entry) (e : Entry) (rs : List Entry) → members (ls ++ e ∷ rs)
    ≡ members ls ++ e.reservation ∷ members rs
members-parts [] e rs = refl
members-parts (x ∷ ls) e rs = ap (λ (ms : List Reservation). x.reservation ∷ ms) (members-parts ls e rs)

pub rises_entries : (low : ℕ) (es : List Entry) → RisesFrom start_of low (members es) → RisesFrom key_of low es
rises_entries low [] r = tt
rises_entries low (e ∷ es) r = (r.0, rises_entries (key_of e + 1) es r.1)

-- The greatest own hour of a list.

pub own_here : (e : Entry) (band : Band) → is_in band e.reservation ≡ true → own_in band e ≡ e.own
own_here e band h = rw h refl

pub most-parts : (band : Band) (ls : List Entry) (e : Entry) (rs : List Entry)
    → most_own band (ls ++ e ∷ rs) ≡ max (own_in band e) (max (most_own band ls) (most_own band rs))
most-parts band [] e rs = omega arith
most-parts band (x ∷ ls) e rs = omega (arith, most-parts band ls e rs)

-- nothing is greatest where there is none
pub most_none : (band : Band) (es : List Entry) → total_in band (members es) ≡ 0 → most_own band es ≡ 0
most_none band [] h = refl
most_none band (e ∷ es) h =
    by (is_in band e.reservation) (total_in-cons band e.reservation (members es)) (λ z. most_none band es z)
  where
    by : (t : Bool) → total_in band (members (e ∷ es)) ≡ cond t (airtime_us e.reservation) 0 + total_in band (members es)
        → (total_in band (members es) ≡ 0 → most_own band es ≡ 0) → max (cond t e.own 0) (most_own band es) ≡ 0
    by true s f = absurd (omega (arith, h, s, airtime_of-positive e.reservation.rate e.reservation.len))
    by false s f = let rest = f (omega (arith, h, s)) in omega (arith, rest)

-- an entry of the sub-band gets and loses what is of that
pub own_moved : (more less : Band → ℕ) (band : Band) (e : Entry) → is_in band e.reservation ≡ true
    → (moved more less e).own ≡ e.own + more band - less band
own_moved more less band e h =
    let a = amount_of more e.reservation band (in_band e.reservation band h) in
    let b = amount_of less e.reservation band (in_band e.reservation band h) in
    omega (arith, a, b)

-- what every entry gets and loses, the greatest gets and loses
pub most_moved : (more less : Band → ℕ) (band : Band) (es : List Entry) → total_in band (members es) ≢ 0
    → most_own band (map (moved more less) es) ≡ most_own band es + more band - less band
most_moved more less band [] h = absurd (h (total_in-nil band))
most_moved more less band (e ∷ es) h =
    by (is_in band e.reservation) (total_in band (members es)) refl refl (total_in-cons band e.reservation (members es))
    (λ q. most_moved more less band es q)
  where
    by : (t : Bool) (n : ℕ) → is_in band e.reservation ≡ t → total_in band (members es) ≡ n
        → total_in band (members (e ∷ es)) ≡ cond t (airtime_us e.reservation) 0 + total_in band (members es)
        → (total_in band (members es) ≢ 0
        → most_own band (map (moved more less) es) ≡ most_own band es + more band - less band)
        → max (cond t (moved more less e).own 0) (most_own band (map (moved more less) es))
        ≡ max (cond t e.own 0) (most_own band es) + more band - less band
    by true zero i z s f =
        let all = most_none band es z in
        let new = most_none band (map (moved more less) es) (ap (total_in band) (members-moved more less es) ∙ z) in
        omega (arith, own_moved more less band e i, all, new)
    by true (suc n) i z s f =
        let rest = f (λ q. absurd (omega (arith, q, z))) in
        omega (arith, own_moved more less band e i, rest)
    by false zero i z s f = absurd (h (omega (arith, s, z)))
    by false (suc n) i z s f =
        let rest = f (λ q. absurd (omega (arith, q, z))) in
        omega (arith, rest)

-- no own hour is above a bound on the greatest
pub each_within : (f : Band → ℕ) (es : List Entry) → ((band : Band) → most_own band es ≤ f band)
    → Each (λ e. e.own ≤ amount f e.reservation) es
each_within f [] h = tt
each_within f (e ∷ es) h =
    let b = banded e.reservation in (
      omega (arith, h b.band, own_here e b.band b.holds, amount_at f e.reservation b),
      each_within f es (λ band. omega (arith, h band)),
    )

-- where there is an entry, there is airtime
pub each_there : (f : Band → ℕ) (es : List Entry) → ((band : Band) → total_in band (members es) ≤ f band)
    → Each (λ e. 0 < amount f e.reservation) es
each_there f [] h = tt
each_there f (e ∷ es) h =
    let b = banded e.reservation in
    let on_air : airtime_in b.band e.reservation ≡ airtime_us e.reservation = rw b.holds refl in (
      omega (
        arith,
        h b.band,
        total_in-cons b.band e.reservation (members es),
        on_air,
        airtime_of-positive e.reservation.rate e.reservation.len,
        amount_at f e.reservation b,
      ),
      each_there f es (λ band. omega (arith, h band, total_in-cons band e.reservation (members es))),
    )

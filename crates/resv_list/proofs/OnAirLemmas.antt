use Rattle.std.specs.Prelude.{ℕ, ◌≡◌, ◌+◌, ◌-◌, ◌<◌, ◌≤◌, min, max, nat_lt, nat_le, ◌&&◌, Bool, true, false, cond}
use Rattle.std.specs.Prelude.{List, [], ◌∷◌, ◌⊎◌}
use Rattle.std.proofs.Common.{refl, ap, arith, zero, suc, inl, inr}
use Rattle.std.proofs.lemmas.Bool.{ltb-true, ltb-false, leb-true, leb-false}
use Rattle.radio_airtime.specs.Bounds.{airtime_of-positive}
use Rattle.radio_bands.specs.declared.band.Band.{Band}
use Rattle.resv_list.specs.declared.reservation.Reservation.{Reservation}
use Rattle.resv_list.specs.OnAir.{on_air, on_air-cons, on_air-nil, senders_at, counted}
use Rattle.resv_list.specs.Reservations.{end_of, is_in}

-- What is on air in a stretch of time, and in its parts.

-- a stretch of time in two
split : (q : Bool) (s e from mid to : ℕ) → s ≤ e → from ≤ mid → mid ≤ to
    → cond q (min e to - max s from) 0 ≡ cond q (min e mid - max s from) 0 + cond q (min e to - max s mid) 0
split true s e from mid to f g h = omega arith
split false s e from mid to f g h = omega arith

-- what lies behind or before a stretch isn't in it
pub outside : (q : Bool) (s e from to : ℕ) → (to ≤ s) ⊎ (e ≤ from) → cond q (min e to - max s from) 0 ≡ 0
outside true s e from to (inl h) = omega (arith, h)
outside true s e from to (inr h) = omega (arith, h)
outside false s e from to h = refl

-- no part is longer than the whole
pub inside : (q : Bool) (s e from to : ℕ) → cond q (min e to - max s from) 0 ≤ min e to - max s from
inside true s e from to = omega arith
inside false s e from to = omega arith

-- of one microsecond
single : (q u v : Bool) (s e at : ℕ) → s < e → nat_le s at ≡ u → nat_lt at e ≡ v
    → cond q (min e (at + 1) - max s at) 0 ≡ cond (q && u && v) 1 0
single false u v s e at h f g = refl
single true true true s e at h f g =
    let k = leb-true s at f in let l = ltb-true at e g in omega (arith, k, l)
single true true false s e at h f g = let l = ltb-false at e g in omega (arith, l)
single true false v s e at h f g = let k = leb-false s at f in omega (arith, k)

module _ (band : Band) where
  pub on_air-split : (from mid to : ℕ) (l : List Reservation) → from ≤ mid → mid ≤ to
      → on_air band from to l ≡ on_air band from mid l + on_air band mid to l
  on_air-split from mid to [] g h = omega (arith, on_air-nil band from to, on_air-nil band from mid, on_air-nil band mid to)
  on_air-split from mid to (r ∷ rs) g h =
      let f = airtime_of-positive r.rate r.len in
      let k = split (is_in band r) r.start (end_of r) from mid to (omega (arith, f)) g h in
      let rest = on_air-split from mid to rs g h in
      omega
      (arith, k, rest, on_air-cons band from to r rs, on_air-cons band from mid r rs, on_air-cons band mid to r rs)

  never : (at to : ℕ) (l : List Reservation) → to ≡ at → on_air band at to l ≡ 0
  never at to [] e = on_air-nil band at to
  never at to (r ∷ rs) e =
      let f = airtime_of-positive r.rate r.len in
      let k = inside (is_in band r) r.start (end_of r) at to in
      omega (arith, e, f, k, never at to rs e, on_air-cons band at to r rs)

  microsecond : (at : ℕ) (l : List Reservation) → on_air band at (at + 1) l ≡ senders_at band at l
  microsecond at [] = on_air-nil band at (at + 1)
  microsecond at (r ∷ rs) =
      let f = airtime_of-positive r.rate r.len in
      let k = single (is_in band r) (nat_le r.start at) (nat_lt at (end_of r)) r.start (end_of r) at (omega (arith, f)) refl refl in
      omega (arith, k, microsecond at rs, on_air-cons band at (at + 1) r rs)

  pub on_air_is_counted : (from n : ℕ) (l : List Reservation) → on_air band from (from + n) l ≡ counted band from n l
  on_air_is_counted from zero l = never from (from + zero) l (omega arith)
  on_air_is_counted from (suc n) l =
      let first = microsecond from l in
      let same : on_air band (from + 1) (from + suc n) l ≡ on_air band (from + 1) (from + 1 + n) l =
      ap (λ (to : ℕ). on_air band (from + 1) to l) (omega arith) in
      let rest = on_air_is_counted (from + 1) n l in
      let both = on_air-split from (from + 1) (from + suc n) l (omega arith) (omega arith) in
      omega (arith, first, same, rest, both)

use Rattle.std.specs.Prelude.{ℕ, ◌≡◌, ◌+◌, ◌-◌, ◌<◌, ◌≤◌, min, max, nat_lt, nat_le, ◌&&◌, Bool, true, false, cond}
use Rattle.std.specs.Prelude.{List, [], ◌∷◌, Some, slice_get, get_or, unwrap_or, ◌⊎◌}
use Rattle.std.proofs.Common.{refl, sym, ap, subst, ◌∙◌, arith, zero, suc, inl, inr}
use Rattle.std.proofs.lemmas.Option.{slice_get_within, unwrap_or-slice_get}
use Rattle.std.proofs.lemmas.Bool.{ltb-false, leb-false, cases_lt}
use Rattle.radio_airtime.specs.Bounds.{airtime_of-short}
use Rattle.radio_bands.specs.declared.band.Band.{Band}
use Rattle.radio_bands.specs.Band.{hour, limit_of}
use Rattle.resv_list.specs.declared.reservation.Reservation.{Reservation}
use Rattle.resv_list.specs.Begun.{begun-cons, begun-nil}
use Rattle.resv_list.specs.Fit.{IsFit}
use Rattle.resv_list.specs.OnAir.{part_within, on_air, on_air-cons, on_air-nil}
use Rattle.resv_list.specs.Reservations.{end_of, airtime_us, is_in, share, begun}
use Rattle.resv_list.proofs.OnAirLemmas.{inside, outside, on_air-split}
use Rattle.gateway_book.specs.Disjoint.{AreDisjoint}
use Rattle.gateway_book.specs.Lawful.{AreApart, IsLawful}
use Rattle.gateway_book.proofs.ApartLaws.{ends_later, one_after_another}

-- What is on air within an hour keeps the limit where what begins within each hour does. At most one transmission began before
-- the hour and is on air when it opens. What begins from then on, until an hour after that one began, keeps the limit together
-- with it. What is on air after that fits into as much time as had passed since that one began, for nothing overlaps.

module _ (band : Band) where
  -- nothing else is on air while a transmission is
  none_beside : (gap from to : ℕ) (r : Reservation) (l : List Reservation) → r.start ≤ from → to ≤ end_of r
      → ((j : ℕ) (s : Reservation) → slice_get l j ≡ Some s → AreDisjoint gap r s) → on_air band from to l ≡ 0
  none_beside gap from to r [] g h apart = on_air-nil band from to
  none_beside gap from to r (s ∷ ss) g h apart =
      let k : part_within band from to s ≡ 0 = beside (one_after_another gap r s (apart zero s refl)) in
      let rest = none_beside gap from to r ss g h (λ j q e. apart (suc j) q e) in
      omega (arith, k, rest, on_air-cons band from to s ss)
    where
      beside : (end_of r ≤ s.start) ⊎ (end_of s ≤ r.start) → part_within band from to s ≡ 0
      beside (inl a) = outside (is_in band s) s.start (end_of s) from to (inl (omega (arith, a)))
      beside (inr b) = outside (is_in band s) s.start (end_of s) from to (inr (omega (arith, b)))

  tail_apart : (gap : ℕ) (r : Reservation) (rs : List Reservation) → AreApart gap (r ∷ rs) → AreApart gap rs
  tail_apart gap r rs apart = λ i j q s e f n. apart (suc i) (suc j) q s e f (λ m. n (omega arith))

  head_apart : (gap : ℕ) (r : Reservation) (rs : List Reservation) → AreApart gap (r ∷ rs) → (j : ℕ) (s : Reservation)
      → slice_get rs j ≡ Some s → AreDisjoint gap r s
  head_apart gap r rs apart j s e = apart zero (suc j) r s refl e (λ m. absurd (omega arith))

  -- no more is on air in a stretch than there is time in it
  fits_with : (gap from to : ℕ) (r : Reservation) (rs : List Reservation) → from ≤ to → AreApart gap (r ∷ rs)
      → ((a b : ℕ) → a ≤ b → on_air band a b rs + a ≤ b) → on_air band from to (r ∷ rs) + from ≤ to
  fits_with gap from to r rs h apart rest =
      elim (cases_lt r.start to) [
        | inl begins ↦
            elim (cases_lt from (end_of r)) [
              | inl ends ↦ within (max r.start from) (min (end_of r) to) refl refl (omega (arith, ends_later r, begins, ends))
              | inr ends ↦ beside (outside (is_in band r) r.start (end_of r) from to (inr (omega (arith, ends))))
            ]
        | inr begins ↦ beside (outside (is_in band r) r.start (end_of r) from to (inl (omega (arith, begins))))
      ]
    where
      beside : part_within band from to r ≡ 0 → on_air band from to (r ∷ rs) + from ≤ to
      beside none = omega (arith, none, rest from to h, on_air-cons band from to r rs)

      within : (a b : ℕ) → a ≡ max r.start from → b ≡ min (end_of r) to → a ≤ b → on_air band from to (r ∷ rs) + from ≤ to
      within a b e f g =
          let own = inside (is_in band r) r.start (end_of r) from to in
          let own_time : part_within band from to r ≤ b - a = omega (arith, own, e, f) in
          let none = none_beside gap a b r rs (omega (arith, e)) (omega (arith, f)) (head_apart gap r rs apart) in
          let first = on_air-split band from a to rs (omega (arith, e)) (omega (arith, f, g)) in
          let second = on_air-split band a b to rs g (omega (arith, f)) in
          let before = rest from a (omega (arith, e)) in
          let behind = rest b to (omega (arith, f)) in
          omega (arith, own_time, before, behind, none, first, second, g, on_air-cons band from to r rs)

  fits : (gap from to : ℕ) (l : List Reservation) → from ≤ to → AreApart gap l → on_air band from to l + from ≤ to
  fits gap from to [] h apart = omega (arith, on_air-nil band from to)
  fits gap from to (r ∷ rs) h apart =
      fits_with gap from to r rs h apart (λ a b g. fits gap a b rs g (tail_apart gap r rs apart))

  -- a transmission that isn't on air at t, or begins from some moment on, is on air no longer than it counts where it begins
  part_begun : (q u v : Bool) (begin t mid s air : ℕ) → nat_le begin s ≡ u → nat_lt s mid ≡ v → (s < begin → s + air ≤ t)
      → cond q (min (s + air) mid - max s t) 0 ≤ cond (q && u && v) air 0
  part_begun false u v begin t mid s air e f g = omega arith
  part_begun true true true begin t mid s air e f g = omega arith
  part_begun true true false begin t mid s air e f g = let k : mid ≤ s = ltb-false s mid f in omega (arith, k)
  part_begun true false v begin t mid s air e f g =
      let k : s < begin = leb-false begin s e in let h = g k in omega (arith, h)

  -- either one of the band began before t and is on air then, or no more is on air from t on than begins
  record Reaches (t : ℕ) (l : List Reservation) : Type 0 where
    place : ℕ
    one : Reservation
    stands : slice_get l place ≡ Some one
    banded : is_in band one ≡ true
    before : one.start < t
    behind : t < end_of one

  found_at : (t to : ℕ) (r : Reservation) (rs : List Reservation)
      → Reaches t rs ⊎ (on_air band t to rs ≤ begun band t to rs)
      → Reaches t (r ∷ rs) ⊎ (on_air band t to (r ∷ rs) ≤ begun band t to (r ∷ rs))
  found_at t to r rs (inl one) =
      inl
      (record {
        place = suc one.place;
        one = one.one;
        stands = one.stands;
        banded = one.banded;
        before = one.before;
        behind = one.behind;
      })
  found_at t to r rs (inr rest) = by_band (is_in band r) refl
    where
      counted : (r.start < t → end_of r ≤ t) → on_air band t to (r ∷ rs) ≤ begun band t to (r ∷ rs)
      counted h =
          let k = part_begun (is_in band r) (nat_le t r.start) (nat_lt r.start to) t t to r.start (airtime_us r) refl refl h in
          omega (arith, k, rest, on_air-cons band t to r rs, begun-cons band t to r rs)

      uncounted : is_in band r ≡ false → on_air band t to (r ∷ rs) ≤ begun band t to (r ∷ rs)
      uncounted e =
          let k : part_within band t to r ≡ 0 = ap (λ (q : Bool). cond q (min (end_of r) to - max r.start t) 0) e in
          omega (arith, k, rest, on_air-cons band t to r rs, begun-cons band t to r rs)

      by_band : (q : Bool) → is_in band r ≡ q
          → Reaches t (r ∷ rs) ⊎ (on_air band t to (r ∷ rs) ≤ begun band t to (r ∷ rs))
      by_band false e = inr (uncounted e)
      by_band true e =
          elim (cases_lt r.start t) [
            | inl begins ↦
                elim (cases_lt t (end_of r)) [
                  | inl ends ↦
                      inl
                      (record { place = zero; one = r; stands = refl; banded = e; before = begins; behind = ends })
                  | inr ends ↦ inr (counted (λ _. omega (arith, ends)))
                ]
            | inr begins ↦ inr (counted (λ b. absurd (omega (arith, begins, b))))
          ]

  found : (t to : ℕ) (l : List Reservation) → Reaches t l ⊎ (on_air band t to l ≤ begun band t to l)
  found t to [] = inr (omega (arith, on_air-nil band t to, begun-nil band t to))
  found t to (r ∷ rs) = found_at t to r rs (found t to rs)

  -- beside one that is on air at t, no more is on air from t on, until an hour after that one began, than begins in its hour
  counts : (gap t : ℕ) (a s : Reservation) → a.start < t → t < end_of a → AreDisjoint gap a s
      → part_within band t (a.start + hour) s ≤ share band a.start (a.start + hour) s
  counts gap t a s f g apart =
      part_begun (is_in band s) (nat_le a.start s.start) (nat_lt s.start (a.start + hour)) a.start t (a.start + hour) s.start
      (airtime_us s) refl refl (ends (one_after_another gap a s apart))
    where
      ends : (end_of a ≤ s.start) ⊎ (end_of s ≤ a.start) → s.start < a.start → end_of s ≤ t
      ends (inl b) h = absurd (omega (arith, b, h))
      ends (inr b) h = omega (arith, b)

  count : (gap t : ℕ) (a : Reservation) (l : List Reservation) → a.start < t → t < end_of a
      → ((j : ℕ) (s : Reservation) → slice_get l j ≡ Some s → AreDisjoint gap a s)
      → on_air band t (a.start + hour) l ≤ begun band a.start (a.start + hour) l
  count gap t a [] f g apart =
      omega (arith, on_air-nil band t (a.start + hour), begun-nil band a.start (a.start + hour))
  count gap t a (s ∷ ss) f g apart =
      let k = counts gap t a s f g (apart zero s refl) in
      let rest = count gap t a ss f g (λ j q e. apart (suc j) q e) in
      omega
      (arith, k, rest, on_air-cons band t (a.start + hour) s ss, begun-cons band a.start (a.start + hour) s ss)

  -- that one counts whole in its own hour, and from t on it is on air until it ends
  own_share : (q u v : Bool) (s air : ℕ) → q ≡ true → nat_le s s ≡ u → nat_lt s (s + hour) ≡ v → cond (q && u && v) air 0 ≡ air
  own_share true true true s air e f g = refl
  own_share true true false s air e f g = let k : s + hour ≤ s = ltb-false s (s + hour) g in absurd (omega (arith, k))
  own_share true false v s air e f g = let k : s < s = leb-false s s f in absurd (omega (arith, k))
  own_share false u v s air e f g = absurd (cc)

  own_part : (q : Bool) (t s air : ℕ) → q ≡ true → s < t → t < s + air → air < hour
      → cond q (min (s + air) (s + hour) - max s t) 0 + t ≡ s + air
  own_part true t s air e f g h = omega arith
  own_part false t s air e f g h = absurd (cc)

  with_one : (gap t i : ℕ) (a : Reservation) (l : List Reservation) → slice_get l i ≡ Some a → is_in band a ≡ true
      → a.start < t → t < end_of a → airtime_us a < hour → AreApart gap l
      → on_air band t (a.start + hour) l + t ≤ a.start + begun band a.start (a.start + hour) l
  with_one gap t i a [] e q f g h apart = absurd (cc)
  with_one gap t zero a (r ∷ rs) e q f g h apart =
      let same : r ≡ a = cc in
      let part : part_within band t (a.start + hour) r + t ≡ end_of a =
      subst (λ (x : Reservation). part_within band t (a.start + hour) x + t ≡ end_of a) (sym same)
      (own_part (is_in band a) t a.start (airtime_us a) q f g h) in
      let whole : share band a.start (a.start + hour) r ≡ airtime_us a =
      subst (λ (x : Reservation). share band a.start (a.start + hour) x ≡ airtime_us a) (sym same)
      (own_share (is_in band a) (nat_le a.start a.start) (nat_lt a.start (a.start + hour)) a.start (airtime_us a) q refl refl) in
      let rest = count gap t a rs f g
      (λ j s d. apart zero (suc j) a s (cc) d (λ m. absurd (omega arith))) in
      omega
      (arith, part, whole, rest, on_air-cons band t (a.start + hour) r rs, begun-cons band a.start (a.start + hour) r rs)
  with_one gap t (suc i) a (r ∷ rs) e q f g h apart =
      let k = counts gap t a r f g (apart (suc i) zero a r e refl (λ m. absurd (omega arith))) in
      let rest = with_one gap t i a rs e q f g h (tail_apart gap r rs apart) in
      omega
      (arith, k, rest, on_air-cons band t (a.start + hour) r rs, begun-cons band a.start (a.start + hour) r rs)

  on_air_with : (gap : ℕ) (l : List Reservation) (t : ℕ) → IsLawful gap l
      → Reaches t l ⊎ (on_air band t (t + hour) l ≤ begun band t (t + hour) l) → on_air band t (t + hour) l ≤ limit_of band
  on_air_with gap l t w (inr h) = omega (arith, h, w.duty band t)
  on_air_with gap l t w (inl r) =
      let a = r.one in
      let same : get_or l r.place a ≡ a = sym (unwrap_or-slice_get l r.place a) ∙ ap (λ o. unwrap_or o a) r.stands in
      let fit : IsFit a.start a.freq_hz a.rate a.len = subst (λ (x : Reservation). IsFit x.start x.freq_hz x.rate x.len) same
      (w.fit r.place a (slice_get_within l r.place a r.stands)) in
      let short = airtime_of-short a.rate a.len fit.sized in
      let mid = a.start + hour in
      let first = with_one gap t r.place a l r.stands r.banded r.before r.behind (omega (arith, short)) w.apart in
      let reaches : t ≤ mid = omega (arith, short, r.behind) in
      let second = fits gap mid (t + hour) l (omega (arith, r.before)) w.apart in
      let both = on_air-split band t mid (t + hour) l reaches (omega (arith, r.before)) in
      omega (arith, first, second, both, w.duty band a.start)

pub on_air_keeps_limit : (gap : ℕ) (l : List Reservation) → IsLawful gap l → (band : Band) (t : ℕ)
    → on_air band t (t + hour) l ≤ limit_of band
on_air_keeps_limit gap l w band t = on_air_with band gap l t w (found band t (t + hour) l)

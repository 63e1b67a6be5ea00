use Rattle.std.specs.Prelude.{ℕ, ◌≡◌, ◌+◌, ◌<◌, ◌≤◌, nat_lt, nat_le, Bool, true, false, ◌&&◌, List, [], ◌∷◌, Option, Some, None}
use Rattle.std.specs.Prelude.{cond, refl, ◌↔◌}
use Rattle.std.proofs.Common.{sym, ap, arith, subst, inl, inr}
use Rattle.std.proofs.lemmas.Bool.Decides.{nat_tests}
use Rattle.radio_bands.specs.declared.band.Band.{Band}
use Rattle.radio_bands.specs.Band.{hour, limit_of}
use Rattle.resv_list.specs.declared.reservation.Reservation.{Reservation}
use Rattle.resv_list.specs.Reservations.{airtime_us, is_in, begun, spent, net}
use Rattle.resv_list.specs.Begun.{begun-cons, begun-nil}
use Rattle.gateway_book.specs.Duty.{is_overfull, full_hour}
use Rattle.gateway_book.proofs.DutyLaws.{OfStarts, next_is, next_between, none_before_next, spent_later, few_hours, OfStarts-from}
use Rattle.gateway_book.proofs.DutyLaws.{within_limit, full_hour_answers}
use Rattle.gateway_book.specs.Laws.{IsOpening, IsDutyAnswer}

-- What the row of the duty cycle says, for every list and every natural moment.

-- a longer stretch holds no less
wider_by : (p : Bool) (from to low high s air : ℕ) → low ≤ from → to ≤ high
    → cond (p && nat_le from s && nat_lt s to) air 0 ≤ cond (p && nat_le low s && nat_lt s high) air 0
wider_by true from to low high s air h g = grind (arith, nat_tests)
wider_by false from to low high s air h g = omega arith

pub begun_wider : (band : Band) (from to low high : ℕ) (l : List Reservation) → low ≤ from → to ≤ high
    → begun band from to l ≤ begun band low high l
begun_wider band from to low high [] h g = omega (arith, begun-nil band from to, begun-nil band low high)
begun_wider band from to low high (r ∷ rs) h g =
    let i = begun_wider band from to low high rs h g in
    let s = wider_by (is_in band r) from to low high r.start (airtime_us r) h g in
    omega (arith, begun-cons band from to r rs, begun-cons band low high r rs, i, s)

-- no stretch holds more than all members together
part_by : (p : Bool) (air : ℕ) → cond p air 0 ≤ air
part_by true air = omega arith
part_by false air = omega arith

pub begun_net : (band : Band) (from to : ℕ) (l : List Reservation) → begun band from to l ≤ net l
unfolding net
begun_net band from to [] = omega (arith, begun-nil band from to)
begun_net band from to (r ∷ rs) =
    omega (
      arith,
      begun-cons band from to r rs,
      begun_net band from to rs,
      part_by (is_in band r && nat_le from r.start && nat_lt r.start to) (airtime_us r),
    )

pub OfStarts-map : (P Q : ℕ → Type 0) (band : Band) (l : List Reservation) → ((s : ℕ) → P s → Q s) → OfStarts band P l
    → OfStarts band Q l
OfStarts-map P Q band [] f o = tt
OfStarts-map P Q band (r ∷ rs) f o = (λ p. f r.start (o.0 p), OfStarts-map P Q band rs f o.1)

-- an hour in which no member of the band begins holds nothing
nothing_by : (p : Bool) (t s air : ℕ) → (p ≡ true → t ≤ s → t + hour ≤ s)
    → cond (p && nat_le t s && nat_lt s (t + hour)) air 0 ≡ 0
nothing_by true t s air g = let k : t ≤ s → t + hour ≤ s = g refl in grind (arith, nat_tests)
nothing_by false t s air g = refl

pub spent_nothing : (band : Band) (t : ℕ) (l : List Reservation) → OfStarts band (λ s. t ≤ s → t + hour ≤ s) l → spent l band t
    ≡ 0
spent_nothing band t [] o = begun-nil band t (t + hour)
spent_nothing band t (r ∷ rs) o =
    omega (
      arith,
      begun-cons band t (t + hour) r rs,
      nothing_by (is_in band r) t r.start (airtime_us r) o.0,
      spent_nothing band t rs o.1,
    )

-- Where no hour that opens at a start of a member of the band has more than so much, no hour has.
pub none_more : (l : List Reservation) (band : Band) (most : ℕ) → OfStarts band (λ s. spent l band s ≤ most) l → (t : ℕ)
    → spent l band t ≤ most
none_more l band most o t =
    let between = next_between band t (t + hour) l (omega arith) in
    let P : ℕ → Type 0 = λ n. t ≤ n → OfStarts band (λ s. t ≤ s → n ≤ s) l → spent l band t ≤ most in
    next_is
    P
    band
    t
    (t + hour)
    l
    (λ h g. omega (arith, spent_nothing band t l g))
    (OfStarts-map (λ s. spent l band s ≤ most) P band l (λ s h g k. omega (arith, spent_later band t s l g k)) o)
    between.0
    (none_before_next band t (t + hour) l)

one_answer : (l : List Reservation) (band : Band) (start airtime : ℕ) (o u : Option ℕ) → IsDutyAnswer l band start airtime o
    → IsDutyAnswer l band start airtime u → o ≡ u
one_answer l band start airtime None None a b = refl
one_answer l band start airtime None (Some m) a b = absurd (let h = a m b.begins b.lasts in let p = b.passes in omega arith)
one_answer l band start airtime (Some m) None a b = absurd (let h = b m a.begins a.lasts in let p = a.passes in omega arith)
one_answer l band start airtime (Some m) (Some n) a b =
    let h = a.first n b.opens b.begins b.lasts b.passes in
    let g = b.first m a.opens a.begins a.lasts a.passes in
    let e : m ≡ n = omega arith in
    ap Some e

pub duty_row_is_exact : (l : List Reservation) (band : Band) (start airtime : ℕ) (o : Option ℕ)
    → IsDutyAnswer l band start airtime o ↔ (o ≡ full_hour l band start airtime)
duty_row_is_exact l band start airtime o = (
  λ a. one_answer l band start airtime o (full_hour l band start airtime) a (full_hour_answers l band start airtime),
  λ e. let P : Option ℕ → Type 0 = λ u. IsDutyAnswer l band start airtime u in
      subst P (sym e) (full_hour_answers l band start airtime),
)

not_overfull : (start airtime t at_t limit : ℕ) → (t ≤ start → start < t + hour → at_t + airtime ≤ limit)
    → (nat_le t start && nat_lt start (t + hour) && nat_lt limit (at_t + airtime)) ≡ false
not_overfull start airtime t at_t limit h = grind (arith, nat_tests)

pub few_hours_suffice : (l : List Reservation) (band : Band) (start airtime : ℕ)
    → ((t : ℕ) → IsOpening l band start t → t ≤ start → start < t + hour → spent l band t + airtime ≤ limit_of band) → (t : ℕ)
    → t ≤ start → start < t + hour → spent l band t + airtime ≤ limit_of band
few_hours_suffice l band start airtime h t a b =
    let own = not_overfull start airtime start (spent l band start) (limit_of band) (h start (inl refl)) in
    let others = OfStarts-from (λ s. is_overfull l band start airtime s ≡ false) band l
    (λ s c. not_overfull start airtime s (spent l band s) (limit_of band) (h s (inr c))) in
    within_limit start airtime t (spent l band t) (limit_of band) (few_hours l band start airtime own others t) a b

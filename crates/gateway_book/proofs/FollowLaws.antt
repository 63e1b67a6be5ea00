use Rattle.std.specs.Prelude.{ℕ, ◌≡◌, ◌+◌, ◌*◌, ◌<◌, ◌≤◌, nat_lt, nat_le, Bool, true, false, not, ◌&&◌, ◌||◌, is_some, List, []}
use Rattle.std.specs.Prelude.{◌∷◌}
use Rattle.std.specs.Prelude.{◌++◌, length, Option, Some, None, cond}
use Rattle.std.specs.Option.{option_map, option_and_then}
use Rattle.std.proofs.Common.{refl, ap, ◌∙◌, arith}
use Rattle.std.proofs.lemmas.Bool.{leb-false, le-leb, lt-ltb, and_from}
use Rattle.radio_airtime.specs.DataRate.{max_phy_of}
use Rattle.radio_airtime.specs.Bounds.{airtime_of-short}
use Rattle.radio_bands.specs.Band.{hour, band_of}
use Rattle.resv_list.specs.declared.reservation.Reservation.{Reservation}
use Rattle.resv_list.specs.Reservations.{end_of, airtime_us, place, net, member_from}
use Rattle.resv_list.specs.Fit.{last_end}
use Rattle.gateway_book.specs.declared.ask.Ask.{Ask}
use Rattle.gateway_book.specs.declared.refusal.Refusal.{Refusal}
use Rattle.gateway_book.specs.declared.refusal.Refusal.TheVariants.{Taken}
use Rattle.gateway_book.specs.Answer.{Terms, ask_end, IsAsked, no_band, too_long, past_end, taken, duty_full}
use Rattle.gateway_book.specs.Answer.{overlap, overfull, first_some}
use Rattle.gateway_book.specs.Loading.{is_behind, may_follow}
use Rattle.gateway_book.specs.Saved.{Saved}
use Rattle.gateway_book.specs.Step.{is_fit, reservation_of}
use Rattle.gateway_book.proofs.AnswerLaws.{reservation_of-asked}

-- A member that follows those before it.

pub none_of : {X : Type 0} (o : Option X) → is_some o ≡ false → o ≡ None
none_of None e = refl
none_of (Some x) e = absurd (cc)

-- a list has a member from this start on, or none
behind_by : (t u : Bool) (r : Reservation) (o : Option Reservation) → u ≡ is_some o → (t || u) ≡ is_some (cond t (Some r) o)
behind_by true u r o e = refl
behind_by false u r o e = e

pub is_behind-from : (start : ℕ) (l : List Reservation) → is_behind start l ≡ is_some (member_from start l)
is_behind-from start [] = refl
is_behind-from start (r ∷ rs) =
    behind_by (nat_le start r.start) (is_behind start rs) r (member_from start rs) (is_behind-from start rs)

or_false : (s t : Bool) → (s || t) ≡ false → (s ≡ false) × (t ≡ false)
or_false true t e = absurd (cc)
or_false false t e = (refl, e)

-- what begins after all others stands behind them
pub place-last : (r : Reservation) (l : List Reservation) → is_behind r.start l ≡ false → place r l ≡ l ++ r ∷ []
place-last r [] e = refl
place-last r (s ∷ ss) e =
    let parts = or_false (nat_le r.start s.start) (is_behind r.start ss) e in
    let before : nat_lt s.start r.start ≡ true = lt-ltb s.start r.start (leb-false r.start s.start parts.0) in
    rw before (ap (λ l. s ∷ l) (place-last r ss parts.1))

pub net-behind : (l : List Reservation) (r : Reservation) → net (l ++ r ∷ []) ≡ net l + airtime_us r
unfolding net
net-behind [] r = omega arith
net-behind (s ∷ ss) r = omega (arith, net-behind ss r)

-- no airtime is ten seconds or more
pub net-short : (l : List Reservation) → net l ≤ 10000000 * length l
unfolding net
net-short [] = omega arith
net-short (r ∷ rs) = omega (arith, airtime_of-short r.rate r.len r.fit.sized, net-short rs)

abbrev pub fit_rows : Ask → List (Option Refusal)
fit_rows ask = no_band ask ∷ too_long ask ∷ past_end ask ∷ []

fit_passed : {X : Type 0} (a b c d e : Option X) → first_some (a ∷ b ∷ c ∷ []) ≡ None
    → first_some (a ∷ b ∷ c ∷ d ∷ e ∷ []) ≡ first_some (d ∷ e ∷ [])
fit_passed None None None d e h = refl
fit_passed None None (Some y) d e h = absurd (cc)
fit_passed None (Some y) c d e h = absurd (cc)
fit_passed (Some y) b c d e h = absurd (cc)

fourth : (a b c d : Bool) → d ≡ false → (a && b && c && d) ≡ false
fourth true true true d e = e
fourth true true false d e = refl
fourth true false c d e = refl
fourth false b c d e = refl

-- the reservation has the asked fields, so the ask is fit
pub asked_fit : (ask : Ask) (r : Reservation) → IsAsked ask r → is_fit ask ≡ true
asked_fit ask r a =
    let banded : is_some (band_of ask.freq_hz ask.rate) ≡ true = rw (a.freq_hz, a.rate) at r.fit.banded in
    let sized : ask.len ≤ max_phy_of ask.rate = rw (a.len, a.rate) at r.fit.sized in
    let timely : ask_end ask ≤ last_end = rw (a.start, a.rate, a.len) at r.fit.timely in
    and_from (is_some (band_of ask.freq_hz ask.rate) && nat_le ask.len (max_phy_of ask.rate)) (nat_le (ask_end ask) last_end)
    (and_from (is_some (band_of ask.freq_hz ask.rate)) (nat_le ask.len (max_phy_of ask.rate)) banded
    (le-leb ask.len (max_phy_of ask.rate) sized)) (le-leb (ask_end ask) last_end timely)

-- it is the reservation that the ask becomes
pub asked_becomes : (ask : Ask) (r : Reservation) → IsAsked ask r → reservation_of ask ≡ Some r
asked_becomes ask r a = reservation_of-asked ask r (asked_fit ask r a) a

-- the rows that look at the members before it, of an ask and of the reservation with its fields
pub taken_asked : (terms : Terms) (l : List Reservation) (ask : Ask) (r : Reservation) → IsAsked ask r
    → taken terms l ask ≡ option_map Taken (overlap terms.rules.gap l r.start (end_of r))
taken_asked terms l ask r a = rw (a.start, a.rate, a.len) refl

pub duty_full_asked : (l : List Reservation) (ask : Ask) (r : Reservation) → IsAsked ask r
    → duty_full l ask ≡ option_and_then (overfull l r.start (airtime_us r)) (band_of r.freq_hz r.rate)
duty_full_asked l ask r a = rw (a.start, a.freq_hz, a.rate, a.len) refl

one_row : (o : Option Refusal) → is_some o ≡ true → not (is_some (first_some (None ∷ o ∷ []))) ≡ false
one_row None e = absurd (cc)
one_row (Some x) e = refl

module _ (s : Saved) (ask : Ask) where
  abbrev pub follow_terms : Terms
  follow_terms = record { floor = s.floor; rules = s.rules; booked = 0 }

  abbrev row_none : Option Refusal → Bool
  row_none o = not (is_some o)

  abbrev pub follow_rows : List (Option Refusal)
  follow_rows =
      no_band ask ∷ too_long ask ∷ past_end ask ∷ taken follow_terms s.list ask ∷ duty_full s.list ask ∷ []

  -- what keeps it from following
  pub behind_not : is_behind ask.start s.list ≡ true → may_follow s ask ≡ false
  behind_not e =
      ap (λ t. not t && nat_le s.floor (ask.start + hour) && nat_lt (length s.list) s.rules.cap
      && row_none (first_some follow_rows)) e

  module _ (fit : first_some (fit_rows ask) ≡ None) (r : Reservation) (a : IsAsked ask r) where
    rows_left : (o u : Option Refusal) → taken follow_terms s.list ask ≡ o → duty_full s.list ask ≡ u
        → first_some follow_rows ≡ first_some (o ∷ u ∷ [])
    rows_left o u e f =
        fit_passed (no_band ask) (too_long ask) (past_end ask) (taken follow_terms s.list ask) (duty_full s.list ask) fit
        ∙ (rw (e, f) refl)

    abbrev duty_of : Option Refusal
    duty_of = option_and_then (overfull s.list r.start (airtime_us r)) (band_of r.freq_hz r.rate)

    pub duty_not : overlap s.rules.gap s.list r.start (end_of r) ≡ None → is_some duty_of ≡ true → may_follow s ask ≡ false
    duty_not e f =
        fourth (not (is_behind ask.start s.list)) (nat_le s.floor (ask.start + hour)) (nat_lt (length s.list) s.rules.cap)
        (row_none (first_some follow_rows))
        (ap row_none (rows_left None duty_of (taken_asked follow_terms s.list ask r a ∙ ap (option_map Taken) e)
        (duty_full_asked s.list ask r a))
        ∙ one_row duty_of f)

    pub follows : is_behind ask.start s.list ≡ false → s.floor ≤ ask.start + hour → length s.list < s.rules.cap
        → overlap s.rules.gap s.list r.start (end_of r) ≡ None → duty_of ≡ None → may_follow s ask ≡ true
    follows b h g e f =
        let rows : first_some follow_rows ≡ None =
        rows_left None None (taken_asked follow_terms s.list ask r a ∙ ap (option_map Taken) e)
        (duty_full_asked s.list ask r a ∙ f) in
        rw (b, rows, le-leb s.floor (ask.start + hour) h, lt-ltb (length s.list) s.rules.cap g) refl

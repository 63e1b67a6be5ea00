use Rattle.std.specs.Prelude.{length, ◌==◌, is_some}
use Rattle.radio_airtime.specs.DataRate.{max_phy_of}
use Rattle.gateway_book.specs.Kept.{kept}
use Rattle.gateway_book.specs.Answer.{total_limit}
use Rattle.std.specs.Prelude.{ℕ, ◌≡◌, ◌+◌, ◌≤◌, nat_lt, Bool, true, false, not, List, [], ◌∷◌, Option}
use Rattle.std.specs.Prelude.{Some, None, refl, ⊤}
use Rattle.std.specs.Option.{option_map, option_and_then}
use Rattle.std.proofs.Common.{sym, ap, ◌∙◌, arith, subst}
use Rattle.std.proofs.lemmas.Bool.{le-ltb}
use Rattle.std.proofs.lemmas.Bool.Decides.{nat_tests}
use Rattle.radio_bands.specs.declared.band.Band.{Band}
use Rattle.radio_bands.specs.Band.{band_of}
use Rattle.resv_list.specs.declared.reservation.Reservation.{Reservation}
use Rattle.resv_list.specs.Fit.{last_end}
use Rattle.resv_list.specs.Reservations.{spent}
use Rattle.gateway_book.specs.declared.ask.Ask.{Ask}
use Rattle.gateway_book.specs.declared.refusal.Refusal.{Refusal}
use Rattle.gateway_book.specs.declared.refusal.Refusal.TheVariants.{NoBand, TooLong, PastEnd, Passed, Taken, DutyFull, Full}
use Rattle.gateway_book.specs.declared.refusal.Refusal.TheVariants.{TotalsFull, NoMemory}
use Rattle.gateway_book.specs.Duty.{full_hour}
use Rattle.gateway_book.specs.Answer.{Terms, ask_airtime, ask_end, refused_if, no_band, too_long, past_end, passed, overlap}
use Rattle.gateway_book.specs.Answer.{taken, duty_full, full, totals_full, first_some, refusal_of}
use Rattle.gateway_book.specs.Earliest.{at_start, Accepts}
use Rattle.gateway_book.proofs.AnswerLaws.{first_none}

-- Refusals that pass with time.

-- a refusal of what overlaps a member, or lies in a full hour
abbrev pub IsBusyBy : Option ℕ → Option Band → (Band → Option ℕ) → Refusal → Type 0
IsBusyBy o b h (Taken start) = o ≡ Some start
IsBusyBy o b h (DutyFull band from sum) = (b ≡ Some band) × (h band ≡ Some from)
IsBusyBy o b h NoBand = ⊥
IsBusyBy o b h TooLong = ⊥
IsBusyBy o b h PastEnd = ⊥
IsBusyBy o b h Passed = ⊥
IsBusyBy o b h Full = ⊥
IsBusyBy o b h TotalsFull = ⊥
IsBusyBy o b h NoMemory = ⊥

abbrev pub IsBusy : Terms → List Reservation → Ask → Refusal → Type 0
IsBusy terms l ask refusal =
    IsBusyBy (overlap terms.rules.gap l ask.start (ask_end ask)) (band_of ask.freq_hz ask.rate)
    (λ band. full_hour l band ask.start (ask_airtime ask)) refusal

in_hour : (l : List Reservation) (band : Band) (h : Band → Option ℕ) (r : Refusal) (u : Option ℕ) → h band ≡ u
    → first_some (None ∷ option_map (λ from. DutyFull band from (spent l band from)) u ∷ []) ≡ Some r
    → IsBusyBy None (Some band) h r
in_hour l band h r None q e = absurd (cc)
in_hour l band h r (Some from) q e =
    let same : DutyFull band from (spent l band from) ≡ r = cc in
    subst (λ x. IsBusyBy None (Some band) h x) same (refl, q)

busy_by : (l : List Reservation) (o : Option ℕ) (b : Option Band) (h : Band → Option ℕ) (r : Refusal)
    → first_some (option_map Taken o
    ∷ option_and_then (λ band. option_map (λ from. DutyFull band from (spent l band from)) (h band)) b ∷ []) ≡ Some r
    → IsBusyBy o b h r
busy_by l (Some s) b h r e =
    let same : Taken s ≡ r = cc in
    subst (λ x. IsBusyBy (Some s) b h x) same refl
busy_by l None None h r e = absurd (cc)
busy_by l None (Some band) h r e = in_hour l band h r (h band) refl e

two_rows : {X : Type 0} (o u : Option X) → first_some (o ∷ u ∷ None ∷ None ∷ []) ≡ first_some (o ∷ u ∷ [])
two_rows (Some x) u = refl
two_rows None (Some x) = refl
two_rows None None = refl

rows_left : {X : Type 0} (n t p q o u f v : Option X) → n ≡ None → t ≡ None → p ≡ None → q ≡ None → f ≡ None → v ≡ None
    → first_some (n ∷ t ∷ p ∷ q ∷ o ∷ u ∷ f ∷ v ∷ []) ≡ first_some (o ∷ u ∷ [])
rows_left n t p q o u f v a b c d e g = rw (a, b, c, d, e, g) (two_rows o u)

not_past : (refusal : Refusal) (m n k : ℕ) → m ≤ n → refused_if (nat_lt k n) refusal ≡ None → refused_if (nat_lt k m) refusal
    ≡ None
not_past refusal m n k h e = grind (arith, nat_tests)

-- where a later start is accepted, the refusal is one of what overlaps, or of a full hour
pub busy : (terms : Terms) (l : List Reservation) (ask : Ask) (s : ℕ) (refusal : Refusal) → terms.floor ≤ ask.start
    → ask.start ≤ s
    → Accepts terms l ask s → refusal_of terms l ask ≡ Some refusal → IsBusy terms l ask refusal
busy terms l ask s refusal fl h acc e =
    let later : Ask = at_start ask s in
    let a = first_none (no_band later) (too_long later ∷ past_end later ∷ passed terms later ∷ taken terms l later
    ∷ duty_full l later ∷ full terms l ∷ totals_full terms later ∷ []) acc in
    let b = first_none (too_long later)
    (past_end later ∷ passed terms later ∷ taken terms l later ∷ duty_full l later ∷ full terms l
    ∷ totals_full terms later ∷ []) a.1 in
    let c = first_none (past_end later) (passed terms later ∷ taken terms l later ∷ duty_full l later ∷ full terms l
    ∷ totals_full terms later ∷ []) b.1 in
    let d = first_none (passed terms later)
    (taken terms l later ∷ duty_full l later ∷ full terms l ∷ totals_full terms later ∷ [])
    c.1 in
    let f = first_none (taken terms l later) (duty_full l later ∷ full terms l ∷ totals_full terms later ∷ []) d.1 in
    let g = first_none (duty_full l later) (full terms l ∷ totals_full terms later ∷ []) f.1 in
    let i = first_none (full terms l) (totals_full terms later ∷ []) g.1 in
    let j = first_none (totals_full terms later) [] i.1 in
    let in_time : past_end ask ≡ None = not_past PastEnd (ask_end ask) (ask_end later) last_end (omega (arith, h)) c.0 in
    let ahead : passed terms ask ≡ None = ap (λ (t : Bool). refused_if t Passed) (le-ltb ask.start terms.floor fl) in
    let left = rows_left (no_band ask) (too_long ask) (past_end ask) (passed terms ask) (taken terms l ask) (duty_full l ask)
    (full terms l) (totals_full terms ask) a.0 b.0 in_time ahead i.0 j.0 in
    busy_by l (overlap terms.rules.gap l ask.start (ask_end ask)) (band_of ask.freq_hz ask.rate)
    (λ band. full_hour l band ask.start (ask_airtime ask)) refusal (sym left ∙ e)

-- What a refusal tells of what overlaps, or of the full hour.

abbrev pub IsTold : Bool → Option ℕ → Option Band → (Band → Option ℕ) → Refusal → Type 0
IsTold c o b h (Taken start) = o ≡ Some start
IsTold c o b h (DutyFull band from sum) = (c ≡ false) × (b ≡ Some band) × (h band ≡ Some from)
IsTold c o b h NoBand = ⊤
IsTold c o b h TooLong = ⊤
IsTold c o b h PastEnd = ⊤
IsTold c o b h Passed = ⊤
IsTold c o b h Full = ⊤
IsTold c o b h TotalsFull = ⊤
IsTold c o b h NoMemory = ⊤

told_last : (c : Bool) (o : Option ℕ) (b : Option Band) (h : Band → Option ℕ) (r : Refusal) (f g : Bool)
    → first_some (refused_if f Full ∷ refused_if g TotalsFull ∷ []) ≡ Some r → IsTold c o b h r
told_last c o b h r true g e = let same : Full ≡ r = cc in subst (λ x. IsTold c o b h x) same tt
told_last c o b h r false true e = let same : TotalsFull ≡ r = cc in subst (λ x. IsTold c o b h x) same tt
told_last c o b h r false false e = absurd (cc)

told_hour : (l : List Reservation) (band : Band) (h : Band → Option ℕ) (r : Refusal) (u : Option ℕ) (f g : Bool) → h band ≡ u
    → first_some (option_map (λ from. DutyFull band from (spent l band from)) u ∷ refused_if f Full
    ∷ refused_if g TotalsFull ∷ []) ≡ Some r → IsTold false None (Some band) h r
told_hour l band h r None f g q e = told_last false None (Some band) h r f g e
told_hour l band h r (Some from) f g q e =
    let same : DutyFull band from (spent l band from) ≡ r = cc in
    subst (λ x. IsTold false None (Some band) h x) same (refl, refl, q)

told_by : (l : List Reservation) (a b c d f g : Bool) (o : Option ℕ) (w : Option Band) (h : Band → Option ℕ) (r : Refusal)
    → first_some (refused_if a NoBand ∷ refused_if b TooLong ∷ refused_if c PastEnd ∷ refused_if d Passed ∷ option_map Taken o
    ∷ option_and_then (λ band. option_map (λ from. DutyFull band from (spent l band from)) (h band)) w
    ∷ refused_if f Full ∷ refused_if g TotalsFull ∷ []) ≡ Some r → IsTold c o w h r
told_by l true b c d f g o w h r e = let same : NoBand ≡ r = cc in subst (λ x. IsTold c o w h x) same tt
told_by l false true c d f g o w h r e = let same : TooLong ≡ r = cc in subst (λ x. IsTold c o w h x) same tt
told_by l false false true d f g o w h r e = let same : PastEnd ≡ r = cc in subst (λ x. IsTold true o w h x) same tt
told_by l false false false true f g o w h r e = let same : Passed ≡ r = cc in subst (λ x. IsTold false o w h x) same tt
told_by l false false false false f g (Some s) w h r e =
    let same : Taken s ≡ r = cc in subst (λ x. IsTold false (Some s) w h x) same refl
told_by l false false false false f g None None h r e = told_last false None None h r f g e
told_by l false false false false f g None (Some band) h r e = told_hour l band h r (h band) f g refl e

pub told : (terms : Terms) (l : List Reservation) (ask : Ask) (r : Refusal) → refusal_of terms l ask ≡ Some r
    → IsTold (nat_lt last_end (ask_end ask)) (overlap terms.rules.gap l ask.start (ask_end ask)) (band_of ask.freq_hz ask.rate)
    (λ band. full_hour l band ask.start (ask_airtime ask)) r
told terms l ask r e =
    told_by l (not (is_some (band_of ask.freq_hz ask.rate))) (nat_lt (max_phy_of ask.rate) ask.len)
    (nat_lt last_end (ask_end ask)) (nat_lt ask.start terms.floor) (length (kept l terms.floor) == terms.rules.cap)
    (nat_lt total_limit (terms.booked + ask_airtime ask)) (overlap terms.rules.gap l ask.start (ask_end ask))
    (band_of ask.freq_hz ask.rate) (λ band. full_hour l band ask.start (ask_airtime ask)) r e

use Rattle.std.proofs.Common.{◌≡◌, ◌≢◌, ℕ, List, [], ◌∷◌, Some, None, find, get_or, AllPairs, ap, refl, arith}
use Rattle.std.proofs.lemmas.List.Elements.{All-nil, All-cons}
use Rattle.std.proofs.lemmas.List.Kept.{AllPairs-cons}
use Rattle.radio_airtime.specs.declared.data_rate.DataRate.TheVariants.{Dr5}
use Rattle.radio_airtime.specs.TimeOnAir.{airtime_of}
use Rattle.resv_list.specs.declared.reservation.Reservation.{Reservation}
use Rattle.gateway_book.specs.Answer.{Rules}
use Rattle.server_desk.specs.declared.setting.GatewaySetting.{GatewaySetting}
use Rattle.serve_journal.specs.Journal.{Mast, empty_book}
use Rattle.serve_settings.specs.declared.forwarder.Forwarder.{Forwarder}
use Rattle.serve_opening.specs.declared.note.Note.TheVariants.{RulesStay, GatewayForgotten}
use Rattle.serve_opening.specs.Gateways.{has_eui, matched, unmatched, highs, renumbered}
use Rattle.serve_opening.specs.Notes.{notes_of}
use Rattle.serve_opening.specs.OwnLaw.{EachTakesItsOwn}
use Rattle.serve_opening.specs.Silence.{silent_until}

-- Three gateways of the settings and three of a journal, which has them in another order: the first one's EUI under another
-- number, the second one's EUI, and an EUI that isn't in the settings. The third gateway is new.

abbrev eui : ℕ → List ℕ
eui n = 170 ∷ 85 ∷ 90 ∷ 0 ∷ 0 ∷ 0 ∷ 0 ∷ n ∷ []

abbrev rules : Rules
rules = record { cap = 16; gap = 45000 }

abbrev gateway : ℕ → GatewaySetting
gateway id = record { id = id; cap = 16; gap = 45000 }

abbrev forwarder : ℕ → Forwarder
forwarder n = record { eui = eui n; from = None; power_dbm = 14; lead_us = 400000 }

abbrev mast : ℕ → ℕ → ℕ → Mast
mast id n high = record { id = id; eui = eui n; high = high; book = empty_book id rules }

abbrev gateways : List GatewaySetting
gateways = gateway 1 ∷ gateway 2 ∷ gateway 3 ∷ []

abbrev forwarders : List Forwarder
forwarders = forwarder 1 ∷ forwarder 2 ∷ forwarder 3 ∷ []

abbrev masts : List Mast
masts = mast 7 9 9000000 ∷ mast 2 2 5000000 ∷ mast 4 1 7000000 ∷ []

-- each one has what the journal has of its EUI, whatever the numbers
pub each_by_eui : matched gateways forwarders masts
    ≡ (gateway 1, Some (mast 4 1 7000000)) ∷ (gateway 2, Some (mast 2 2 5000000)) ∷ (gateway 3, None) ∷ []
each_by_eui = refl

pub one_is_left : unmatched gateways forwarders masts ≡ mast 7 9 9000000 ∷ []
one_is_left = refl

pub clocks_shown : highs gateways forwarders masts ≡ 7000000 ∷ 5000000 ∷ 2000000 ∷ []
clocks_shown = refl

-- the first one's book is another gateway's no longer
pub first_renumbered : (renumbered 1 (empty_book 4 rules)).id ≡ 1
first_renumbered = refl

pub second_as_it_was : renumbered 2 (empty_book 2 rules) ≡ empty_book 2 rules
second_as_it_was = refl

-- the second one keeps another cap, and one is forgotten
pub two_are_told : notes_of gateways (gateway 1 ∷ record (gateway 2) { cap = 8 } ∷ gateway 3 ∷ []) (mast 7 9 9000000 ∷ []) [] []
    ≡ RulesStay 2 8 45000 ∷ GatewayForgotten 7 (eui 9) ∷ []
two_are_told = refl

-- from the law alone

differ : (m n : ℕ) → m ≢ n → (forwarder m).eui ≢ (forwarder n).eui
differ m n h e = h (ap (λ l. get_or l 7 0) e)

abbrev Differ : Forwarder → Forwarder → Type 0
Differ f e = f.eui ≢ e.eui

apart : AllPairs Differ forwarders
apart =
    AllPairs-cons Differ (forwarder 1) (forwarder 2 ∷ forwarder 3 ∷ [])
    (All-cons (Differ (forwarder 1)) (forwarder 2) (forwarder 3 ∷ []) (differ 1 2 (λ e. absurd (omega arith)))
    (All-cons (Differ (forwarder 1)) (forwarder 3) [] (differ 1 3 (λ e. absurd (omega arith))) (All-nil (Differ (forwarder 1)))))
    (AllPairs-cons Differ (forwarder 2) (forwarder 3 ∷ [])
    (All-cons (Differ (forwarder 2)) (forwarder 3) [] (differ 2 3 (λ e. absurd (omega arith))) (All-nil (Differ (forwarder 2))))
    (AllPairs-cons Differ (forwarder 3) [] (All-nil (Differ (forwarder 3))) (λ i j d l h. absurd (omega arith))))

-- of every journal
pub each_has_its_own : EachTakesItsOwn → (ms : List Mast) → matched gateways forwarders ms
    ≡ (gateway 1, find (has_eui (eui 1)) ms) ∷ (gateway 2, find (has_eui (eui 2)) ms) ∷ (gateway 3, find (has_eui (eui 3)) ms) ∷ []
each_has_its_own law ms = law gateways forwarders ms apart

-- the end of one transmission, a gap, and two seconds; and of two the later one
abbrev IsAt : ℕ → Reservation → Type 0
IsAt start r = (r.start ≡ start) × (r.rate ≡ Dr5) × (r.len ≡ 12)

pub silent_behind_one : (r : Reservation) → IsAt 1001100 r → silent_until 45000 (r ∷ []) ≡ 3087316
unfolding airtime_of
silent_behind_one r at = rw (at.0, at.1, at.2) refl

pub silent_behind_two : (r s : Reservation) → IsAt 1001100 r → IsAt 5001100 s → silent_until 45000 (r ∷ s ∷ []) ≡ 7087316
unfolding airtime_of
silent_behind_two r s at then = rw (at.0, at.1, at.2, then.0, then.1, then.2) refl

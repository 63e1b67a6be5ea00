-- Lemmas on what an event line says.
use Rattle.std.proofs.Common.{◌≡◌, ◌≢◌, ℕ, List, [], ◌∷◌, length, map, get_or, Option, None, refl, sym, ap, ◌∙◌, arith}
use Rattle.server_core.specs.declared.event.Event.{Event}
use Rattle.text_lines.specs.Number.{number_signed}
use Rattle.server_desk.specs.declared.setting.DeviceSetting.{DeviceSetting}
use Rattle.run_lines.specs.RunWords.{uplink_word}
use Rattle.run_lines.specs.RunEvents.{number_of, heard_with, hear_with, hear_event}
use Rattle.server_desk.specs.declared.heard.Heard1.{Heard1}

-- a copy has just eight words after its name
pub hear_event-other : {A X : Type 0} (f : X → List ℕ) (devices : List DeviceSetting) (words : List X) → length words ≢ 8
    → hear_event {A = A} devices (map f words) ≡ None
hear_event-other f devices [] h = refl
hear_event-other f devices (a ∷ []) h = refl
hear_event-other f devices (a ∷ b ∷ []) h = refl
hear_event-other f devices (a ∷ b ∷ c ∷ []) h = refl
hear_event-other f devices (a ∷ b ∷ c ∷ d ∷ []) h = refl
hear_event-other f devices (a ∷ b ∷ c ∷ d ∷ e ∷ []) h = refl
hear_event-other f devices (a ∷ b ∷ c ∷ d ∷ e ∷ g ∷ []) h = refl
hear_event-other f devices (a ∷ b ∷ c ∷ d ∷ e ∷ g ∷ i ∷ []) h = refl
hear_event-other f devices (a ∷ b ∷ c ∷ d ∷ e ∷ g ∷ i ∷ j ∷ []) h = absurd (h refl)
hear_event-other f devices (a ∷ b ∷ c ∷ d ∷ e ∷ g ∷ i ∷ j ∷ k ∷ more) h = refl

-- the eight words by their places
pub hear_event-eight : {A X : Type 0} (f : X → List ℕ) (devices : List DeviceSetting) (words : List X) (x : X) → length words ≡ 8
    → hear_event {A = A} devices (map f words) ≡ hear_with (heard_with (number_of 16 (f (get_or words 0 x)))
    (number_of 64 (f (get_or words 1 x))) (number_of 32 (f (get_or words 2 x))) (number_of 8 (f (get_or words 3 x)))
    (number_signed (f (get_or words 4 x))) (number_signed (f (get_or words 5 x)))) (number_of 64 (f (get_or words 6 x)))
    (uplink_word devices (f (get_or words 7 x)))
hear_event-eight f devices [] x h = absurd (omega (arith, h))
hear_event-eight f devices (a ∷ []) x h = absurd (omega (arith, h))
hear_event-eight f devices (a ∷ b ∷ []) x h = absurd (omega (arith, h))
hear_event-eight f devices (a ∷ b ∷ c ∷ []) x h = absurd (omega (arith, h))
hear_event-eight f devices (a ∷ b ∷ c ∷ d ∷ []) x h = absurd (omega (arith, h))
hear_event-eight f devices (a ∷ b ∷ c ∷ d ∷ e ∷ []) x h = absurd (omega (arith, h))
hear_event-eight f devices (a ∷ b ∷ c ∷ d ∷ e ∷ g ∷ []) x h = absurd (omega (arith, h))
hear_event-eight f devices (a ∷ b ∷ c ∷ d ∷ e ∷ g ∷ i ∷ []) x h = absurd (omega (arith, h))
hear_event-eight f devices (a ∷ b ∷ c ∷ d ∷ e ∷ g ∷ i ∷ j ∷ []) x h = refl
hear_event-eight f devices (a ∷ b ∷ c ∷ d ∷ e ∷ g ∷ i ∷ j ∷ k ∷ more) x h = absurd (omega (arith, h))

-- an event that is that of the eight words
pub hear_event-by : {A X : Type 0} (f : X → List ℕ) (devices : List DeviceSetting) (words : List X) (x : X)
    (heard : Option Heard1) (arrived : Option ℕ) (event : Option (Event A)) → length words ≡ 8
    → heard ≡ heard_with (number_of 16 (f (get_or words 0 x))) (number_of 64 (f (get_or words 1 x)))
    (number_of 32 (f (get_or words 2 x))) (number_of 8 (f (get_or words 3 x))) (number_signed (f (get_or words 4 x)))
    (number_signed (f (get_or words 5 x)))
    → arrived ≡ number_of 64 (f (get_or words 6 x))
    → event ≡ hear_with heard arrived (uplink_word devices (f (get_or words 7 x)))
    → event ≡ hear_event devices (map f words)
hear_event-by {A = A} f devices words x heard arrived event eight h a e =
    e ∙ ap (λ k. hear_with k arrived (uplink_word devices (f (get_or words 7 x)))) h
    ∙ ap (λ k. hear_with (heard_with (number_of 16 (f (get_or words 0 x))) (number_of 64 (f (get_or words 1 x)))
    (number_of 32 (f (get_or words 2 x))) (number_of 8 (f (get_or words 3 x))) (number_signed (f (get_or words 4 x)))
    (number_signed (f (get_or words 5 x)))) k (uplink_word devices (f (get_or words 7 x)))) a
    ∙ sym (hear_event-eight {A = A} f devices words x eight)

use Rattle.std.specs.Prelude.{ℕ, nat_lt, if◌then◌else◌, List, [], ◌∷◌, Option, Some, None, codes, decimal}
use Rattle.radio_airtime.specs.declared.data_rate.DataRate.{DataRate}
use Rattle.radio_airtime.specs.DataRate.{max_phy_of, known_rate}
use Rattle.radio_airtime.specs.TimeOnAir.{airtime_of}
use Rattle.text_words.specs.Words.{spaced}

-- The line of `airbook toa`: how long a PHYPayload is on air.

abbrev pub toa_words : Option DataRate → ℕ → List (List ℕ)
toa_words None len = codes "no" ∷ codes "NoRate" ∷ []
toa_words (Some rate) len =
    if nat_lt (max_phy_of rate) len then codes "no" ∷ codes "TooLong" ∷ [] else decimal (airtime_of rate len) ∷ []

-- the airtime in microseconds, or why there is none
abbrev pub toa_line : ℕ → ℕ → List ℕ
toa_line rate len = spaced (toa_words (known_rate rate) len)

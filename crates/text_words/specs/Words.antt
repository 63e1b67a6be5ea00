use Rattle.std.specs.Prelude.{ℕ, List, [], ◌∷◌, codes, decimal}
use Rattle.radio_bands.specs.declared.band.Band.{Band}
use Rattle.radio_bands.specs.declared.band.Band.TheVariants.{K, L, M, N, P, Q}
use Rattle.gateway_book.specs.declared.cancel.CancelFault.{CancelFault}
use Rattle.gateway_book.specs.declared.cancel.CancelFault.TheVariants.{Begun, NotHere}
use Rattle.gateway_book.specs.declared.refusal.Refusal.{Refusal}
use Rattle.gateway_book.specs.declared.refusal.Refusal.TheVariants.{NoBand, TooLong, PastEnd, Passed, Taken, DutyFull, Full}
use Rattle.gateway_book.specs.declared.refusal.Refusal.TheVariants.{TotalsFull, NoMemory}
pub use Rattle.text_lines.specs.Turns.{is_refusal, has_refusal}
pub use Rattle.text_lines.specs.Words.{is_named, spaced}

-- The words of lines: of those that are read, and of those that answer and report.

-- the letter of a sub-band
abbrev pub band_word : Band → List ℕ
band_word K = codes "K"
band_word L = codes "L"
band_word M = codes "M"
band_word N = codes "N"
band_word P = codes "P"
band_word Q = codes "Q"

-- why nothing was cancelled
abbrev pub fault_word : CancelFault → List ℕ
fault_word Begun = codes "Begun"
fault_word NotHere = codes "NotHere"

-- why a reservation was refused, without the refusal's numbers
abbrev pub refusal_name : Refusal → List ℕ
refusal_name NoBand = codes "NoBand"
refusal_name TooLong = codes "TooLong"
refusal_name PastEnd = codes "PastEnd"
refusal_name Passed = codes "Passed"
refusal_name (Taken start) = codes "Taken"
refusal_name (DutyFull band from spent) = codes "DutyFull"
refusal_name Full = codes "Full"
refusal_name TotalsFull = codes "TotalsFull"
refusal_name NoMemory = codes "NoMemory"

-- what a refusal says beside its name
abbrev pub refusal_numbers : Refusal → List (List ℕ)
refusal_numbers (Taken start) = decimal start ∷ []
refusal_numbers (DutyFull band from spent) = band_word band ∷ decimal from ∷ decimal spent ∷ []
refusal_numbers refusal = []

-- the words of a refusal
abbrev pub refusal_words : Refusal → List (List ℕ)
refusal_words refusal = refusal_name refusal ∷ refusal_numbers refusal

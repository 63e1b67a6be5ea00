use Rattle.std.specs.Prelude.{ℕ, ◌≡◌, ◌==◌, Bool, if◌then◌else◌, List, [], ◌∷◌, find, map, drop, slice_get, Option, Some, None}
use Rattle.std.specs.List.{AllZip}
use Rattle.std.specs.Str.{bytes_eq}
use Rattle.gateway_book.specs.Answer.{Rules}
use Rattle.gateway_book.specs.Book.{Book, IsBookList, trial_book, with_rules}
use Rattle.server_desk.specs.declared.setting.GatewaySetting.{GatewaySetting}
use Rattle.server_desk.specs.World.{rules_of}
use Rattle.serve_journal.specs.Journal.{Mast, empty_book, first_high}
use Rattle.serve_settings.specs.declared.forwarder.Forwarder.{Forwarder}
use Rattle.serve_opening.specs.Silence.{silenced}

-- What the gateways of a server open with, out of what its journal says of gateways.

-- the journal's gateway has this EUI
abbrev pub has_eui : List ℕ → Mast → Bool
has_eui eui m = bytes_eq m.eui eui

-- the list without the first that passes the test
abbrev pub without_first : {X : Type 0} → (X → Bool) → List X → List X
without_first test [] = []
without_first test (x ∷ xs) = if test x then xs else x ∷ without_first test xs

-- what the journal has of the gateway of a packet forwarder: the first with its EUI
abbrev pub known_by : Option Forwarder → List Mast → Option Mast
known_by None ms = None
known_by (Some f) ms = find (has_eui f.eui) ms

-- the others
abbrev pub others : Option Forwarder → List Mast → List Mast
others None ms = ms
others (Some f) ms = without_first (has_eui f.eui) ms

-- a gateway of the settings, and what the journal has of it
abbrev pub Matched : Type 0
Matched = GatewaySetting × Option Mast

-- the gateways of the settings, each with what the journal has of the EUI at its place; what one has no later one has
abbrev pub matched : List GatewaySetting → List Forwarder → List Mast → List Matched
matched [] fs ms = []
matched (g ∷ gs) fs ms = (g, known_by (slice_get fs 0) ms) ∷ matched gs (drop 1 fs) (others (slice_get fs 0) ms)

-- what the journal has of no gateway of the settings
abbrev pub unmatched : List GatewaySetting → List Forwarder → List Mast → List Mast
unmatched [] fs ms = ms
unmatched (g ∷ gs) fs ms = unmatched gs (drop 1 fs) (others (slice_get fs 0) ms)

-- the book under the number that its gateway has in the settings
abbrev pub renumbered : ℕ → Book → Book
renumbered id b = if b.id == id then b else trial_book id b.rules b.floor b.booked b.list

-- the book has the rules of the settings where it may have them, else it keeps its own
pub data IsRuled (rules : Rules) (b opened : Book) : Type 0 where
  Ruled : IsBookList rules b.floor b.booked b.list → opened ≡ with_rules b rules → IsRuled rules b opened
  Kept : ¬ (IsBookList rules b.floor b.booked b.list) → opened ≡ b → IsRuled rules b opened

-- the book goes on with what the journal has of the gateway, and is silent till all of that has ended
pub record GoesOn (g : GatewaySetting) (m : Mast) (opened : Book) : Type 0 where
  pub book : Book
  pub ruled : IsRuled (rules_of g) (renumbered g.id m.book) book
  pub silent : opened ≡ silenced book

-- the book that a gateway opens with: an empty one, or what the journal has
abbrev pub IsOpenedAs : GatewaySetting → Option Mast → Book → Type 0
IsOpenedAs g None opened = opened ≡ empty_book g.id (rules_of g)
IsOpenedAs g (Some m) opened = GoesOn g m opened

abbrev pub IsOpened : Matched → Book → Type 0
IsOpened known opened = IsOpenedAs known.0 known.1 opened

-- there is such a book for each gateway of the settings, in their order
abbrev pub AreOpened : List GatewaySetting → List Forwarder → List Mast → List Book → Type 0
AreOpened gs fs ms books = AllZip IsOpened (matched gs fs ms) books

-- what a gateway's clock shows at least, in microseconds
abbrev pub high_as : Option Mast → ℕ
high_as None = first_high
high_as (Some m) = m.high

abbrev pub high_of : Matched → ℕ
high_of known = high_as known.1

abbrev pub highs : List GatewaySetting → List Forwarder → List Mast → List ℕ
highs gs fs ms = map high_of (matched gs fs ms)

-- a gateway as it is set, with the cap and the gap that its book has
abbrev pub setting_of : Book → GatewaySetting
setting_of b = record { id = b.id; cap = b.rules.cap; gap = b.rules.gap }

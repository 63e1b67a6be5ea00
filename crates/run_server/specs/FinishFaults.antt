use Rattle.std.specs.Prelude.{◌≡◌, ◌⊎◌, ℕ, List, ⊤, codes}
use Rattle.book_audit.specs.declared.cause.FinishCause.{FinishCause}
use Rattle.book_audit.specs.declared.cause.FinishCause.TheVariants as causes
use Rattle.text_words.specs.declared.fault.TextFault.{TextFault}
use Rattle.text_words.specs.declared.fault.TextFault.TheVariants.{Settings, NoMemory}

-- The faults of books at the end of a run.

-- why a station could not be closed, as a text call answers it: by its own name, but for want of memory
abbrev pub IsFinishFault : FinishCause → TextFault → Type 0
IsFinishFault causes.TillMissing (Settings name) = name.now ≡ codes "TillMissing"
IsFinishFault (causes.Apart gateway booked answered) (Settings name) = name.now ≡ codes "Apart"
IsFinishFault (causes.Doubled number gateway other) (Settings name) = name.now ≡ codes "Doubled"
IsFinishFault (causes.Lost number) (Settings name) = name.now ≡ codes "Lost"
IsFinishFault causes.NoMemory NoMemory = ⊤
IsFinishFault cause other = ⊥

-- the name says how the books don't go with the answers
abbrev pub IsFinishName : List ℕ → Type 0
IsFinishName name =
    (name ≡ codes "TillMissing") ⊎ ((name ≡ codes "Apart") ⊎ ((name ≡ codes "Doubled") ⊎ (name ≡ codes "Lost")))

-- why a run with workers comes to no books: a growth was refused, or the books don't go with the answers
abbrev pub IsPlayFault : TextFault → Type 0
IsPlayFault (Settings name) = IsFinishName name.now
IsPlayFault NoMemory = ⊤
IsPlayFault other = ⊥

use Rattle.std.specs.Prelude.{◌≡◌, ℕ, Option, Some, None, Result, Ok, Err, ⊤}
use Rattle.serve_journal.specs.declared.fault.JournalFault.{JournalFault}
use Rattle.serve_journal.specs.declared.fault.JournalFault.TheVariants.{Journal, NoMemory}
use Rattle.serve_journal.specs.Journal as state
use Rattle.serve_journal.specs.Reading.{Said, IsFault}

-- What the calls do that take lines in.

-- a line is at fault just where no state is after it, memory aside
abbrev pub TakesLine : ℕ → Option state.Journal → state.Journal → Result Unit JournalFault → Type 0
TakesLine number None new result = result ≡ Err (Journal number)
TakesLine number (Some j) new (Ok done) = new ≡ j
TakesLine number (Some j) new (Err NoMemory) = ⊤
TakesLine number (Some j) new (Err fault) = ⊥

-- lines say a state, which is made, and so many numbers follow this one; or they have a fault
abbrev pub TakesLines : Said → state.Journal → ℕ → Result ℕ JournalFault → Type 0
TakesLines said new last (Ok next) = (said ≡ Ok new) × (next ≡ last)
TakesLines said new last (Err fault) = IsFault said fault

-- the answer is what the bytes say
abbrev pub Reads : Said → Result state.Journal JournalFault → Type 0
Reads said (Ok j) = said ≡ Ok j
Reads said (Err fault) = IsFault said fault

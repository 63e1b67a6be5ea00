use Rattle.std.specs.Prelude.{◌≡◌, ⊤, Option, Some, None, Result, Ok, Err}
use Rattle.serve_journal.specs.declared.fault.EntryFault.{EntryFault}
use Rattle.serve_journal.specs.declared.fault.EntryFault.TheVariants.{Refused, NoMemory}

-- What a call does that takes an entry: it refuses just what has no state after it, memory aside, and else makes that state.

abbrev pub Steps : {S T : Type 0} → Option S → S → Result T EntryFault → Type 0
Steps None new result = result ≡ Err Refused
Steps (Some after) new (Ok done) = new ≡ after
Steps (Some after) new (Err NoMemory) = ⊤
Steps (Some after) new (Err Refused) = ⊥

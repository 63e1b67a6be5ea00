use Rattle.std.specs.Prelude.{◌≡◌, ℕ, Bool, true, false, ◌==◌, find, List, Option, Some, None, Result, Ok, Err, ⊤}
use Rattle.gateway_book.specs.Saved.{saved_text}
use Rattle.serve_journal.specs.declared.fault.JournalFault.TheVariants.{NoMemory}
use Rattle.serve_journal.specs.declared.recovering.RecoverFault.{RecoverFault}
use Rattle.serve_journal.specs.declared.recovering.RecoverFault.TheVariants.{Unread, NoGateway, Write}
use Rattle.serve_journal.specs.Journal.{Mast}
use Rattle.serve_journal.specs.Reading.{Said}

-- The saved book of a gateway, out of a journal.

abbrev pub book_text : Option Mast → Result (List ℕ) RecoverFault
book_text None = Err NoGateway
book_text (Some m) = Ok (saved_text m.book)

-- the text of the book of the gateway with this number, or why there is none
abbrev pub recovered : ℕ → Said → Result (List ℕ) RecoverFault
recovered id (Err fault) = Err (Unread fault)
recovered id (Ok j) = book_text (find (λ m. m.id == id) j.gateways)

-- a fault is the one that the bytes say, unless the text was not written or there was no memory
abbrev pub IsRecoverFault : Result (List ℕ) RecoverFault → RecoverFault → Type 0
IsRecoverFault text Write = ⊤
IsRecoverFault text (Unread NoMemory) = ⊤
IsRecoverFault text fault = text ≡ Err fault

abbrev pub is_write : RecoverFault → Bool
is_write Write = true
is_write _ = false

-- Why a station could not be closed.
use Rattle.std.proofs.Common.{◌≡◌, ◌≢◌, ◌∙◌, ℕ, List, [], ◌∷◌, refl, ap, arith}
use Rattle.std.specs.Global.{Global}
use Rattle.air_ledger.specs.Tills.{Holding, all_parts, parts_of, amount_of}
use Rattle.answer_ticket.specs.declared.tried.Receipt.{Receipt}
use Rattle.book_audit.specs.declared.cause.FinishCause.{FinishCause}
use Rattle.book_audit.specs.declared.cause.FinishCause.TheVariants as causes
use Rattle.server_station.specs.Closings.{IsFinishCause}
use Rattle.text_words.specs.declared.fault.TextFault.{TextFault}
use Rattle.text_words.specs.declared.fault.TextFault.TheVariants.{Read, Write, TooMuch, Settings, NoMemory}
use Rattle.run_server.specs.FinishFaults.{IsFinishFault}
use Rattle.run_server.specs.WorkersRun.{IsClosingFault}

-- but for want of memory, its books are the cause
pub closing_fault : (tills : List Holding) (ids : List ℕ) (receipts : List (Receipt Global)) (cause : FinishCause)
    (fault : TextFault) → parts_of tills ≡ all_parts → IsFinishCause tills ids receipts cause → IsFinishFault cause fault
    → fault ≢ NoMemory → IsClosingFault ids receipts fault
closing_fault tills ids receipts causes.TillMissing fault all why f other = absurd (why all)
closing_fault tills ids receipts (causes.Apart g b a) fault all why f other = (causes.Apart g b a, why, f)
closing_fault tills ids receipts (causes.Doubled n g h) fault all why f other = (causes.Doubled n g h, why, f)
closing_fault tills ids receipts (causes.Lost n) fault all why f other = (causes.Lost n, why, f)
closing_fault tills ids receipts causes.NoMemory Read all why f other = absurd f
closing_fault tills ids receipts causes.NoMemory Write all why f other = absurd f
closing_fault tills ids receipts causes.NoMemory TooMuch all why f other = absurd f
closing_fault tills ids receipts causes.NoMemory (Settings name) all why f other = absurd f
closing_fault tills ids receipts causes.NoMemory NoMemory all why f other = absurd (other refl)

-- one till alone has its own amount
pub one_till : (tills : List Holding) (till : Holding) → tills ≡ till ∷ [] → amount_of tills ≡ till.amount
one_till tills till alone = ap amount_of alone ∙ omega arith

use Rattle.std.specs.Prelude.{ℕ, Bool, true, false, List, Result, codes}
use Rattle.text_lines.specs.Calls.{CountsWhere}
use Rattle.text_lines.specs.declared.answering.LineFault.{LineFault}
use Rattle.text_lines.specs.declared.answering.LineFault.TheVariants.{Read as LinesRead, Write as LinesWrite}
use Rattle.text_lines.specs.declared.answering.LineFault.TheVariants.{TooMuch as LinesTooMuch}
use Rattle.text_words.specs.declared.fault.TextFault.{TextFault}
use Rattle.text_words.specs.declared.fault.TextFault.TheVariants.{Read, Write, TooMuch, Settings, NoMemory}

-- What the faults of the text calls say.

-- the fault's own name
abbrev pub name_of : TextFault → List ℕ
name_of Read = codes "Read"
name_of Write = codes "Write"
name_of TooMuch = codes "TooMuch"
name_of (Settings name) = name.now
name_of NoMemory = codes "NoMemory"

abbrev pub is_read : TextFault → Bool
is_read Read = true
is_read _ = false

abbrev pub is_write : TextFault → Bool
is_write Write = true
is_write _ = false

-- a call of the reader failed exactly where `Read` is answered
abbrev pub CountsReads : {T : Type 0} → ℕ → ℕ → Result T TextFault → Type 0
CountsReads old new result = CountsWhere is_read old new result

-- a call of the writer failed exactly where `Write` is answered
abbrev pub CountsWrites : {T : Type 0} → ℕ → ℕ → Result T TextFault → Type 0
CountsWrites old new result = CountsWhere is_write old new result

-- why lines were not answered to their end
abbrev pub fault_of : LineFault → TextFault
fault_of LinesRead = Read
fault_of LinesWrite = Write
fault_of LinesTooMuch = TooMuch

use Rattle.std.specs.Prelude.{ℕ, ◌==◌, nat_lt, ◌||◌, if◌then◌else◌, List, codes, Option, Some, None}
use Rattle.gateway_book.specs.Answer.{Rules, most_cap}
use Rattle.gateway_book.specs.Disjoint.{most_gap}
use Rattle.gateway_book.specs.declared.opening.OpenFault.{OpenFault}
use Rattle.gateway_book.specs.declared.opening.OpenFault.TheVariants.{BadCap, BadGap}

-- What a book may be opened with.

-- why no book is opened with these, if there is a reason: the cap is looked at before the gap
abbrev pub open_fault : Rules → Option OpenFault
open_fault rules =
    if rules.cap == 0 || nat_lt most_cap rules.cap then Some BadCap else (if nat_lt most_gap rules.gap then Some BadGap else None)

-- the name that a program prints
abbrev pub name_of : OpenFault → List ℕ
name_of BadCap = codes "BadCap"
name_of BadGap = codes "BadGap"

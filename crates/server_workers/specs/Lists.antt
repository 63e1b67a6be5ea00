use Rattle.server_workers.specs.declared.filed.Filed.{Filed}
use Rattle.server_workers.specs.declared.served.Served.{Served}
use Rattle.server_workers.specs.declared.worked.Worked.{Worked}

-- The lists of a worker, and of all workers together.

-- a worker's lists
abbrev pub lists_of : {B A : Type 0} → Worked B A → Filed A
lists_of w =
    record { receipts = w.receipts; outcomes = w.outcomes; skipped = w.skipped; refused = w.refused; strays = w.strays }

-- the lists of what was served
abbrev pub lists_of_served : {B A : Type 0} → Served B A → Filed A
lists_of_served s =
    record { receipts = s.receipts; outcomes = s.outcomes; skipped = s.skipped; refused = s.refused; strays = s.strays }

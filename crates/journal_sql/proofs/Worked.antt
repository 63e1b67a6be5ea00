-- Worked rows, by computation, and how they are numbered.
use Rattle.std.proofs.Common.{◌≡◌, ℕ, List, [], ◌∷◌, Some, None, codes, refl}
use Rattle.std.specs.Fmt.{digits}
use Rattle.hex.specs.Hex.{encode_with}
use Rattle.resv_list.specs.declared.reservation.Reservation.{Reservation}
use Rattle.serve_journal.specs.Journal.{Mast, Node}
use Rattle.serve_journal.specs.Payload.{Waiting}
use Rattle.journal_sql.specs.Rows.{gateway_row, device_row, queued_row, sent_row}
use Rattle.journal_sql.specs.Sql.{queued_rows, sent_rows}

-- a gateway that keeps these transmissions, and a device for which these payloads wait
abbrev keeping : ℕ → List Reservation → Mast
keeping id list = record {
  id = id;
  eui = 0xaa ∷ 0x55 ∷ 0x5a ∷ 0 ∷ 0 ∷ 0 ∷ 0 ∷ 2 ∷ [];
  high = 2200981;
  book = record { id = id; rules = record { cap = 4096; gap = 45000 }; floor = 601001; list = list; booked = 0; cancelled = 0; retired = 0 };
}

abbrev waiting : ℕ → List Waiting → Node
waiting addr queue = record { addr = addr; session = 0x5c ∷ 0x7e ∷ 0xfb ∷ 0x43 ∷ []; up = None; down = 0; queue = queue }

pub worked_gateway : gateway_row (keeping 2 [])
    ≡ codes "INSERT INTO gateway VALUES(2,'aa555a0000000002',4096,45000,2200981,601001);"
unfolding digits encode_with
worked_gateway = refl

pub worked_device : device_row (record (waiting 0x26011bda []) { up = Some 7; down = 1 })
    ≡ codes "INSERT INTO device VALUES(637606874,1551825731,7,1);"
unfolding digits
worked_device = refl

-- where no uplink was heard
pub worked_new : device_row (waiting 0x26011bda []) ≡ codes "INSERT INTO device VALUES(637606874,1551825731,NULL,0);"
unfolding digits
worked_new = refl

pub worked_queued : queued_row 0x26011bda 1 (record { port = 10; bytes = 1 ∷ 0xff ∷ [] })
    ≡ codes "INSERT INTO queued VALUES(1,637606874,10,X'01ff');"
unfolding digits encode_with
worked_queued = refl

pub worked_empty : queued_row 0x26011bda 2 (record { port = 11; bytes = [] }) ≡ codes "INSERT INTO queued VALUES(2,637606874,11,X'');"
unfolding digits encode_with
worked_empty = refl

-- the numbers go on from one gateway to the next, and from one device to the next

pub numbered_on : (r s t : Reservation)
    → sent_rows 1 (keeping 1 (r ∷ s ∷ []) ∷ keeping 2 [] ∷ keeping 3 (t ∷ []) ∷ [])
    ≡ sent_row 1 1 r ∷ sent_row 1 2 s ∷ sent_row 3 3 t ∷ []
numbered_on r s t = refl

pub queued_on : (p q : Waiting) → queued_rows 1 (waiting 7 (p ∷ []) ∷ waiting 8 (q ∷ []) ∷ []) ≡ queued_row 7 1 p ∷ queued_row 8 2 q ∷ []
queued_on p q = refl

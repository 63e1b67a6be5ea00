use Rattle.std.specs.Prelude.{ℕ, ◌+◌, ◌%◌, ◌^◌, List, [], ◌∷◌, ◌++◌, map, codes}
use Rattle.text_lines.specs.Line.{text_of}
use Rattle.serve_journal.specs.Journal.{Journal, Mast, Node}
use Rattle.journal_sql.specs.Rows.{gateway_row, device_row, queued_row, sent_row}

-- A state as SQL: the tables, and in one transaction their rows.

-- the tables, and the line that begins the transaction
abbrev pub table_lines : List (List ℕ)
table_lines =
    codes "CREATE TABLE gateway (id INTEGER PRIMARY KEY, eui TEXT NOT NULL, cap INTEGER NOT NULL, gap INTEGER NOT NULL, high INTEGER NOT NULL, floor INTEGER NOT NULL) STRICT;"
    ∷ codes "CREATE TABLE device (addr INTEGER PRIMARY KEY, session INTEGER NOT NULL, up INTEGER, down INTEGER NOT NULL) STRICT;"
    ∷ codes "CREATE TABLE queued (id INTEGER PRIMARY KEY, addr INTEGER NOT NULL, port INTEGER NOT NULL, payload BLOB NOT NULL) STRICT;"
    ∷ codes "CREATE TABLE sent (id INTEGER PRIMARY KEY, gateway INTEGER NOT NULL, start INTEGER NOT NULL, freq INTEGER NOT NULL, dr INTEGER NOT NULL, len INTEGER NOT NULL) STRICT;"
    ∷ codes "BEGIN;" ∷ []

-- the line that ends it
abbrev pub end_line : List ℕ
end_line = codes "COMMIT;"

-- the number of the next row of a table; it is kept in 64 bits
abbrev pub next_number : ℕ → ℕ
next_number number = (number + 1) % 2 ^ 64

-- rows one after another, the first of which has this number
abbrev pub numbered : {X : Type 0} → (ℕ → X → List ℕ) → ℕ → List X → List (List ℕ)
numbered row number [] = []
numbered row number (x ∷ xs) = row number x ∷ numbered row (next_number number) xs

-- the number behind them
abbrev pub number_behind : {X : Type 0} → ℕ → List X → ℕ
number_behind number [] = number
number_behind number (x ∷ xs) = number_behind (next_number number) xs

-- what waits: device by device, in order
abbrev pub queued_rows : ℕ → List Node → List (List ℕ)
queued_rows number [] = []
queued_rows number (n ∷ ns) =
    numbered (queued_row n.addr) number n.queue ++ queued_rows (number_behind number n.queue) ns

-- what was sent: gateway by gateway, by start
abbrev pub sent_rows : ℕ → List Mast → List (List ℕ)
sent_rows number [] = []
sent_rows number (m ∷ ms) =
    numbered (sent_row m.id) number m.book.list ++ sent_rows (number_behind number m.book.list) ms

-- all rows
abbrev pub rows : Journal → List (List ℕ)
rows j =
    map gateway_row j.gateways ++ (map device_row j.devices ++ (queued_rows 1 j.devices ++ sent_rows 1 j.gateways))

-- the whole text
abbrev pub sql_of : Journal → List ℕ
sql_of j = text_of (table_lines ++ (rows j ++ end_line ∷ []))

use Rattle.std.specs.Prelude.{◌≡◌, ℕ, ◌+◌, ◌^◌, ◌<◌, Bool, true, false, ◌==◌, ◌&&◌, ◌||◌, not, nat_lt, nat_le, if◌then◌else◌}
use Rattle.std.specs.Prelude.{List}
use Rattle.std.specs.Prelude.{[], ◌∷◌, ◌++◌, length, codes, slice_index, is_some, Option, Some, None, option_and_then, Result, Ok}
use Rattle.std.specs.Prelude.{Err, ⊤, ◌⊎◌, All}
use Rattle.std.specs.List.{list_any, slice_split, join_with_byte}
use Rattle.radio_airtime.specs.declared.data_rate.DataRate.{DataRate}
use Rattle.radio_bands.specs.Band.{hour}
use Rattle.resv_list.specs.declared.reservation.Reservation.{Reservation}
use Rattle.resv_list.specs.Reservations.{net, IsByStart}
use Rattle.text_lines.specs.Number.{number_below}
use Rattle.text_lines.specs.Words.{is_named, spaced}
use Rattle.gateway_book.specs.declared.ask.Ask.{Ask}
use Rattle.gateway_book.specs.declared.saved_line.Entry.{Entry}
use Rattle.gateway_book.specs.declared.saved_line.Entry.TheVariants.{Member, End}
use Rattle.gateway_book.specs.declared.saved_line.SavedGateway.{SavedGateway}
use Rattle.gateway_book.specs.declared.loading.LoadFault.{LoadFault}
use Rattle.gateway_book.specs.declared.loading.LoadFault.TheVariants.{Read, Syntax, Version, Unlawful, NoMemory}
use Rattle.gateway_book.specs.Answer.{no_band, too_long, past_end, taken, duty_full, first_some}
use Rattle.gateway_book.specs.Book.{Book, IsSound, IsBookList}
use Rattle.gateway_book.specs.Opening.{open_fault}
use Rattle.radio_airtime.specs.DataRate.{known_rate}
use Rattle.gateway_book.specs.Saved.{Saved, saved_of, end_words, text_in}
use Rattle.gateway_book.specs.Step.{reservation_of}

-- What a text says that may be a saved book: the book, or the first fault by line.

-- the words of a line, with one space between two: two spaces part an empty word
abbrev pub words_between : List ℕ → List (List ℕ)
words_between line = slice_split (λ byte. byte == 32) line

-- whether a zero leads other bytes
abbrev pub leads_zero : List ℕ → Bool
leads_zero word = nat_lt 1 (length word) && (slice_index word 0 == 48)

-- a number below a bound, without leading zeros
abbrev pub plain_number : ℕ → List ℕ → Option ℕ
plain_number bound word = if leads_zero word then None else number_below bound word

-- VERSION of a line `airbook VERSION`
abbrev pub version_in : List (List ℕ) → Option ℕ
version_in (name ∷ version ∷ []) = if is_named (codes "airbook") name then plain_number (2 ^ 32) version else None
version_in _ = None

-- a gateway of these fields, where each is there
abbrev pub gateway_with : Option ℕ → Option ℕ → Option ℕ → Option ℕ → Option SavedGateway
gateway_with (Some id) (Some cap) (Some floor) (Some gap) = Some (record { id = id; cap = cap; floor = floor; gap = gap })
gateway_with _ _ _ _ = None

-- GAP, which version 1 has not
abbrev pub gap_in : ℕ → List (List ℕ) → Option ℕ
gap_in version [] = if version == 1 then Some 0 else None
gap_in version (gap ∷ []) = if version == 1 then None else plain_number (2 ^ 32) gap
gap_in version _ = None

-- a line `gateway ID CAP FLOOR` or `gateway ID CAP FLOOR GAP`
abbrev pub gateway_in : ℕ → List (List ℕ) → Option SavedGateway
gateway_in version (name ∷ id ∷ cap ∷ floor ∷ gap) =
    if is_named (codes "gateway") name
    then gateway_with (plain_number (2 ^ 16) id) (plain_number (2 ^ 32) cap) (plain_number (2 ^ 64) floor) (gap_in version gap)
    else None
gateway_in version _ = None

-- the gateway's book with no member yet
abbrev pub saved_empty : SavedGateway → Saved
saved_empty g = record { id = g.id; rules = record { cap = g.cap; gap = g.gap }; floor = g.floor; list = [] }

-- a member of these fields, where each is there
abbrev pub member_with : Option ℕ → Option ℕ → Option ℕ → Option DataRate → Option ℕ → Option Ask
member_with (Some number) (Some start) (Some freq_hz) (Some rate) (Some len) =
    Some (record { number = number; start = start; freq_hz = freq_hz; rate = rate; len = len })
member_with _ _ _ _ _ = None

-- a line `r NUMBER START FREQ DR LEN`
abbrev pub member_in : List (List ℕ) → Option Ask
member_in (name ∷ number ∷ start ∷ freq_hz ∷ rate ∷ len ∷ []) =
    if is_named (codes "r") name
    then member_with (plain_number (2 ^ 64) number) (plain_number (2 ^ 64) start) (plain_number (2 ^ 32) freq_hz)
    (option_and_then known_rate (plain_number (2 ^ 8) rate)) (plain_number (2 ^ 8) len)
    else None
member_in _ = None

-- COUNT of a line `end COUNT`
abbrev pub count_in : List (List ℕ) → Option ℕ
count_in (name ∷ count ∷ []) = if is_named (codes "end") name then plain_number (2 ^ 32) count else None
count_in _ = None

-- whether a member begins there or later
abbrev pub is_behind : ℕ → List Reservation → Bool
is_behind start l = list_any (λ r. nat_le start r.start) l

-- whether a member may follow those read before it: it begins after each of them, is kept at the floor, is within the cap, and
-- is fit, disjoint from each, with the gap, and within the duty cycle
abbrev pub may_follow : Saved → Ask → Bool
may_follow s ask =
    not (is_behind ask.start s.list)
    && nat_le s.floor (ask.start + hour)
    && nat_lt (length s.list) s.rules.cap
    && not (is_some (first_some
    (no_band ask
    ∷ too_long ask
    ∷ past_end ask
    ∷ taken (record { floor = s.floor; rules = s.rules; booked = 0 }) s.list ask
    ∷ duty_full s.list ask
    ∷ [])))

-- with the member behind the others
abbrev pub joined : Saved → Option Reservation → Saved
joined s None = s
joined s (Some r) = record s { list = s.list ++ r ∷ [] }

-- what a line from the third on says, if it is one: it has at most 80 bytes, and a line feed after it, so that something
-- follows it, if only no byte
abbrev pub is_line : List ℕ → List (List ℕ) → Bool
is_line line more = nat_le (length line) 80 && nat_lt 0 (length more)

abbrev pub entry_with : Option Ask → Option ℕ → Option Entry
entry_with (Some ask) count = Some (Member ask)
entry_with None (Some count) = Some (End count)
entry_with None None = None

-- what a line behind the second says by its words: a member, or how many there were
abbrev pub entry_in : List (List ℕ) → Option Entry
entry_in words = entry_with (member_in words) (count_in words)

-- what was read of the text: the saved book, and the bytes that follow it; or the first fault
abbrev pub Loaded : Type 0
Loaded = Result (Saved × List ℕ) LoadFault

abbrev pub after_entry : ℕ → Saved → List (List ℕ) → (Saved → Loaded) → Option Entry → Loaded
after_entry number s more next None = Err (Syntax number)
after_entry number s more next (Some (Member ask)) =
    if may_follow s ask then next (joined s (reservation_of ask)) else Err (Unlawful number)
after_entry number s more next (Some (End count)) =
    if count == length s.list then Ok (s, join_with_byte 10 more) else Err (Syntax number)

-- the lines from line `number` on, where those before it say `s`: members, and the line that counts them. The lines are what
-- stands between line feeds, so that what stands last is none
abbrev pub members_in : ℕ → Saved → List (List ℕ) → Loaded
members_in number s [] = Err (Syntax number)
members_in number s (line ∷ more) =
    after_entry number s more (λ t. members_in (number + 1) t more)
    (if is_line line more then entry_in (words_between line) else None)

abbrev pub after_gateway : Option SavedGateway → List (List ℕ) → Loaded
after_gateway None more = Err (Syntax 2)
after_gateway (Some g) more =
    if is_some (open_fault (saved_empty g).rules) then Err (Unlawful 2) else members_in 3 (saved_empty g) more

-- the lines from the second on
abbrev pub gateway_lines : ℕ → List (List ℕ) → Loaded
gateway_lines version [] = Err (Syntax 2)
gateway_lines version (line ∷ more) =
    after_gateway (if is_line line more then gateway_in version (words_between line) else None) more

abbrev pub after_version : Option ℕ → List (List ℕ) → Loaded
after_version None more = Err (Syntax 1)
after_version (Some version) more = if version == 1 || version == 2 then gateway_lines version more else Err Version

abbrev pub all_lines : List (List ℕ) → Loaded
all_lines [] = Err (Syntax 1)
all_lines (line ∷ more) = after_version (if is_line line more then version_in (words_between line) else None) more

-- what stands between line feeds
abbrev pub lines_between : List ℕ → List (List ℕ)
lines_between bytes = slice_split (λ byte. byte == 10) bytes

-- what the bytes say
abbrev pub loaded : List ℕ → Loaded
loaded bytes = all_lines (lines_between bytes)

-- a front of the bytes, ended there, would be a saved book with a member
pub record HasMembers (bytes : List ℕ) : Type 0 where
  pub front : List ℕ
  pub rest : List ℕ
  pub saved : Saved
  pub member : Reservation
  pub others : List Reservation
  pub parts : bytes ≡ front ++ rest
  pub last : saved.list ≡ others ++ member ∷ []
  pub reads : loaded (front ++ spaced (end_words saved.list) ++ 10 ∷ []) ≡ Ok (saved, [])

-- what a call of `load` answers for bytes, and what it leaves of them: the book that they say, or their first fault; where memory
-- was wanted, it was for the member of the line that was taken last, up to which there is no fault; and where a read failed,
-- nothing is said
abbrev pub LoadsFrom : List ℕ → Option (List ℕ) → Result Book LoadFault → Type 0
LoadsFrom bytes after (Ok b) = (rest : List ℕ) × (after ≡ Some rest) × (loaded bytes ≡ Ok (saved_of b, rest))
LoadsFrom bytes after (Err Read) = ⊤
LoadsFrom bytes after (Err NoMemory) = (front : HasMembers bytes) × (after ≡ Some front.rest)
LoadsFrom bytes after (Err (Syntax line)) = loaded bytes ≡ Err (Syntax line)
LoadsFrom bytes after (Err Version) = loaded bytes ≡ Err Version
LoadsFrom bytes after (Err (Unlawful line)) = loaded bytes ≡ Err (Unlawful line)

-- the same where the reader tells its bytes
abbrev pub Loads : Option (List ℕ) → Option (List ℕ) → Result Book LoadFault → Type 0
Loads None after result = ⊤
Loads (Some bytes) after result = LoadsFrom bytes after result

-- `Read` is the answer where a call of the reader failed
abbrev pub is_read : LoadFault → Bool
is_read Read = true
is_read _ = false

-- a book that may be saved: its numbers are of their types, and its list is one of a book that has booked no more
pub record IsSavable (s : Saved) : Type 0 where
  pub id : s.id < 2 ^ 16
  pub floor : s.floor < 2 ^ 64
  pub members : All (λ r. (r.number < 2 ^ 64) × (r.freq_hz < 2 ^ 32) × (r.len < 2 ^ 8)) s.list
  pub list : IsBookList s.rules s.floor (net s.list) s.list

-- the numbers of a book and of its members are of their types, and its members stand by start, as every book's in memory do
pub record IsHeld (b : Book) : Type 0 where
  pub id : b.id < 2 ^ 16
  pub floor : b.floor < 2 ^ 64
  pub members : All (λ r. (r.number < 2 ^ 64) × (r.freq_hz < 2 ^ 32) × (r.len < 2 ^ 8)) b.list
  pub by_start : IsByStart b.list

-- the law: every book may be saved
abbrev pub BooksMayBeSaved : Type 0
BooksMayBeSaved = (b : Book) → IsSound b → IsHeld b → IsSavable (saved_of b)

-- the versions that are read; the first tells no gap
abbrev pub IsVersion : ℕ → Saved → Type 0
IsVersion version s = ((version ≡ 1) × (s.rules.gap ≡ 0)) ⊎ (version ≡ 2)

-- the law: what is saved is read again, whatever follows it
abbrev pub SavedIsReadAgain : Type 0
SavedIsReadAgain =
    (version : ℕ) (s : Saved) (rest : List ℕ) → IsVersion version s → IsSavable s
    → loaded (text_in version s ++ rest) ≡ Ok (s, rest)

-- the law: what is read was saved: the bytes are the text of a book that may be saved, and what follows it
abbrev pub LoadedWasSaved : Type 0
LoadedWasSaved =
    (bytes : List ℕ) (s : Saved) (rest : List ℕ) → loaded bytes ≡ Ok (s, rest)
    → IsSavable s × ((version : ℕ) × IsVersion version s × (bytes ≡ text_in version s ++ rest))

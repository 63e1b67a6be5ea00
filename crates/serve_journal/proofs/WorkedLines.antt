-- Worked lines of a journal, by computation, and what the laws speak of.
use Rattle.std.proofs.Common.{◌≡◌, ℕ, List, [], ◌∷◌, Some, None, codes, refl}
use Rattle.std.specs.Fmt.{digits}
use Rattle.hex.specs.Hex.{encode_with}
use Rattle.radio_airtime.specs.declared.data_rate.DataRate.TheVariants.{Dr5}
use Rattle.serve_journal.specs.declared.entry.Entry.{Entry}
use Rattle.serve_journal.specs.declared.entry.Entry.TheVariants.{Device, Queue, Clock, Sent}
use Rattle.serve_journal.specs.EntryText.{entry_text}
use Rattle.serve_journal.specs.EntryWords.{entry_of, is_lower_digit}
use Rattle.serve_journal.specs.LineLaws.{IsEntry, EntriesReadBack, LinesHaveOneSpelling}

pub worked_clock : entry_text (Clock 2 2200981 601001) ≡ codes "clock 2 2200981 601001"
unfolding digits
worked_clock = refl

pub worked_device : entry_text (Device 0x26011bda (0x5c ∷ 0x7e ∷ 0xfb ∷ 0x43 ∷ []) (Some 7) 1) ≡ codes "device 26011bda 5c7efb43 7 1"
unfolding digits encode_with
worked_device = refl

pub worked_sent : entry_text (Sent 2 1001100 868100000 Dr5 12) ≡ codes "sent 2 1001100 868100000 5 12"
unfolding digits
worked_sent = refl

pub worked_empty : entry_text (Queue 0x26011bda (record { port = 9; bytes = [] })) ≡ codes "queue 26011bda 9 -"
unfolding digits encode_with
worked_empty = refl

-- a leading zero, a second space, an upper-case digit and a word too many are malformed

pub no_leading_zero : entry_of (codes "clock 02 2200981 601001") ≡ None
no_leading_zero = refl

pub no_second_space : entry_of (codes "clock 2  2200981 601001") ≡ None
no_second_space = refl

pub no_upper_case : entry_of (codes "taken 26011BDA") ≡ None
unfolding is_lower_digit
no_upper_case = refl

pub no_word_more : entry_of (codes "clock 2 2200981 601001 1") ≡ None
no_word_more = refl

-- from the laws alone

pub each_read_back : EntriesReadBack → (e : Entry) → IsEntry e → entry_of (entry_text e) ≡ Some e
each_read_back law e is = law e is

pub each_in_range : LinesHaveOneSpelling → (line : List ℕ) (e : Entry) → entry_of line ≡ Some e → IsEntry e
each_in_range law line e said = (law line e said).0

pub each_spelling : LinesHaveOneSpelling → (line : List ℕ) (e : Entry) → entry_of line ≡ Some e → line ≡ entry_text e
each_spelling law line e said = (law line e said).1

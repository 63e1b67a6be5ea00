-- What the laws of saved books say of worked books: each tells a fact there, and no premise is one that nothing meets. Then what
-- they say of every book and every text, and what a call that loads one tells.
use Rattle.std.proofs.Common.{ℕ, ◌≡◌, ◌+◌, ◌-◌, ◌^◌, ◌<◌, ◌≤◌, ◌⊎◌, List, [], ◌∷◌, ◌++◌, length, Option, Some, Ok, Err, All}
use Rattle.std.proofs.Common.{refl, sym, ◌∙◌, subst, arith, inl, inr}
use Rattle.std.specs.Fmt.{digits}
use Rattle.std.specs.Io.KnownBytes.{Consumes}
use Rattle.std.specs.Prelude.{codes, Result}
use Rattle.std.proofs.lemmas.List.Elements.{All-cons}
use Rattle.radio_airtime.specs.TimeOnAir.{airtime_of}
use Rattle.radio_bands.specs.Band.{band_of}
use Rattle.radio_bands.specs.declared.band.Band.{Band}
use Rattle.resv_list.specs.declared.reservation.Reservation.{Reservation}
use Rattle.resv_list.specs.Reservations.{IsByStart, begun, net, spent}
use Rattle.text_lines.specs.Words.{spaced}
use Rattle.gateway_book.specs.declared.loading.LoadFault.{LoadFault}
use Rattle.gateway_book.specs.declared.loading.LoadFault.TheVariants.{Syntax, Version, Unlawful, NoMemory}
use Rattle.gateway_book.specs.Answer.{Rules, most_cap, overlap, total_limit}
use Rattle.gateway_book.specs.Book.{Book, IsSound, IsBookList}
use Rattle.gateway_book.specs.Disjoint.{most_gap}
use Rattle.gateway_book.specs.Duty.{full_hour}
use Rattle.gateway_book.specs.Kept.{kept}
use Rattle.gateway_book.specs.Lawful.{IsLawful}
use Rattle.gateway_book.specs.Loading.{IsSavable, IsHeld, BooksMayBeSaved, IsVersion, SavedIsReadAgain, LoadedWasSaved, loaded}
use Rattle.gateway_book.specs.Loading.{LoadsFrom, Loads}
use Rattle.gateway_book.specs.Saved.{Saved, saved_of, end_words, text_in}
use Rattle.gateway_book.specs.SavedLines.{TakesBytes}
use Rattle.gateway_book.proofs.WorkedLists.{early, late, last, sent, by_start, lawful}

-- A book with three members, of the greatest id. The first of them is kept just so. Beside the three one was booked and
-- cancelled, and another has been retired.

abbrev pub worked : Book
worked = record {
  id = 65535;
  rules = record { cap = 3; gap = 1000 };
  floor = 3600001000;
  list = sent;
  booked = 206080;
  cancelled = 41216;
  retired = 41216;
}

pub worked_stands : IsSound worked
unfolding kept net airtime_of early late last
worked_stands = record {
  opened = omega arith;
  capped = omega arith;
  counted = omega arith;
  rested = omega arith;
  lawful = lawful;
  kept_whole = refl;
  balanced = refl;
  bounded = omega arith;
}

pub worked_is_held : IsHeld worked
unfolding early late last
worked_is_held =
    let H : Reservation → Type 0 = λ r. (r.number < 2 ^ 64) × (r.freq_hz < 2 ^ 32) × (r.len < 2 ^ 8) in
    record {
      id = omega arith;
      floor = omega arith;
      members = All-cons H early (late ∷ last ∷ []) (omega arith, omega arith, omega arith)
          (All-cons H late (last ∷ []) (omega arith, omega arith, omega arith)
          (All-cons H last [] (omega arith, omega arith, omega arith) (λ k r h. absurd (omega (arith, h)))));
      by_start = by_start;
    }

module _ (law : BooksMayBeSaved) where
  pub worked_may_be_saved : IsSavable (saved_of worked)
  worked_may_be_saved = law worked worked_stands worked_is_held

  pub its_id_and_floor : (65535 < 2 ^ 16) × (3600001000 < 2 ^ 64)
  its_id_and_floor = (worked_may_be_saved.id, worked_may_be_saved.floor)

  pub its_members : All (λ r. (r.number < 2 ^ 64) × (r.freq_hz < 2 ^ 32) × (r.len < 2 ^ 8)) sent
  its_members = worked_may_be_saved.members

  pub its_list : IsBookList (record { cap = 3; gap = 1000 }) 3600001000 123648 sent
  unfolding net airtime_of early late last
  its_list = worked_may_be_saved.list

  pub its_rules : (0 < 3) × (3 ≤ most_cap) × (length sent ≤ 3) × (1000 ≤ most_gap)
  its_rules = (its_list.opened, its_list.capped, its_list.counted, its_list.rested)

  pub its_order : IsByStart sent × IsLawful 1000 sent × (kept sent 3600001000 ≡ sent)
  its_order = (its_list.by_start, its_list.lawful, its_list.kept_whole)

  pub its_airtime : (net sent ≤ 123648) × (123648 ≤ total_limit)
  its_airtime = (its_list.covered, its_list.bounded)

-- A book at the greatest floor that there is, without members.

abbrev pub last_moment : Book
last_moment = record {
  id = 65535;
  rules = record { cap = 3; gap = 1000 };
  floor = 2 ^ 64 - 1;
  list = [];
  booked = 0;
  cancelled = 0;
  retired = 0;
}

-- nothing begins in an empty list
none_begins : (band : Band) (t : ℕ) → spent [] band t ≡ 0
unfolding begun
none_begins band t = refl

nothing_lawful : IsLawful 1000 []
nothing_lawful = record {
  fit = λ k r h. absurd (omega (arith, h));
  apart = λ i j r s a. absurd (cc);
  duty = λ band t. omega (arith, none_begins band t);
}

stands : IsSound last_moment
unfolding kept net
stands = record {
  opened = omega arith;
  capped = omega arith;
  counted = omega arith;
  rested = omega arith;
  lawful = nothing_lawful;
  kept_whole = refl;
  balanced = refl;
  bounded = omega arith;
}

held : IsHeld last_moment
held = record { id = omega arith; floor = omega arith; members = λ k r h. absurd (omega (arith, h)); by_start = tt }

pub may_be_saved : BooksMayBeSaved → IsSavable (saved_of last_moment)
may_be_saved law = law last_moment stands held

-- The text of the first book, in the second version.

abbrev pub its_text : List ℕ
its_text =
    codes "airbook 2\ngateway 65535 3 3600001000 1000\n"
    ++ codes "r 1 1000 868100000 5 12\nr 2 1000000 868100000 5 12\nr 3 3600500000 868100000 5 12\nend 3\n"

pub text_is_written : text_in 2 (saved_of worked) ≡ its_text
unfolding digits early late last
text_is_written = refl

pub text_is_read : loaded its_text ≡ Ok (saved_of worked, [])
unfolding airtime_of band_of begun overlap full_hour early late last
text_is_read = refl

-- the law says so whatever follows the text
pub text_is_read_again : BooksMayBeSaved → SavedIsReadAgain → (rest : List ℕ)
    → loaded (its_text ++ rest) ≡ Ok (saved_of worked, rest)
text_is_read_again may again rest =
    let P : List ℕ → Type 0 = λ text. loaded (text ++ rest) ≡ Ok (saved_of worked, rest) in
    subst P text_is_written (again 2 (saved_of worked) rest (inr refl) (worked_may_be_saved may))

pub read_again_at_the_last_moment : BooksMayBeSaved → SavedIsReadAgain → (rest : List ℕ)
    → loaded (text_in 2 (saved_of last_moment) ++ rest) ≡ Ok (saved_of last_moment, rest)
read_again_at_the_last_moment may again rest = again 2 (saved_of last_moment) rest (inr refl) (may_be_saved may)

pub more_is_left : loaded (its_text ++ 3 ∷ []) ≡ Ok (saved_of worked, 3 ∷ [])
unfolding airtime_of band_of begun overlap full_hour early late last
more_is_left = refl

-- and that a text which is read is that of a book which may be saved
pub read_was_savable : LoadedWasSaved → IsSavable (saved_of worked)
read_was_savable law = (law its_text (saved_of worked) [] text_is_read).0

-- in a version that may tell its gap, so in the second
in_the_second : (bytes rest : List ℕ) → (version : ℕ) × IsVersion version (saved_of worked)
    × (bytes ≡ text_in version (saved_of worked) ++ rest) → bytes ≡ text_in 2 (saved_of worked) ++ rest
in_the_second bytes rest (version, inl one, e) = absurd (omega (arith, one.1))
in_the_second bytes rest (version, inr two, e) =
    let P : ℕ → Type 0 = λ v. bytes ≡ text_in v (saved_of worked) ++ rest in subst P two e

pub read_was_saved : LoadedWasSaved → its_text ≡ text_in 2 (saved_of worked) ++ []
read_was_saved law = in_the_second its_text [] (law its_text (saved_of worked) [] text_is_read).1

pub read_with_more_was_saved : LoadedWasSaved → its_text ++ 3 ∷ [] ≡ text_in 2 (saved_of worked) ++ 3 ∷ []
read_with_more_was_saved law =
    in_the_second (its_text ++ 3 ∷ []) (3 ∷ []) (law (its_text ++ 3 ∷ []) (saved_of worked) (3 ∷ []) more_is_left).1

-- Of every book.

-- the numbers of some members are of their types
abbrev HaveNumbers : List Reservation → Type 0
HaveNumbers l = All (λ r. (r.number < 2 ^ 64) × (r.freq_hz < 2 ^ 32) × (r.len < 2 ^ 8)) l

module _ (b : Book) where
  -- a sound book is one that keeps these eight, and no other is
  abbrev KeepsAll : Type 0
  KeepsAll =
      (0 < b.rules.cap) × (b.rules.cap ≤ 65536) × (length b.list ≤ b.rules.cap) × (b.rules.gap ≤ 100000)
      × IsLawful b.rules.gap b.list × (kept b.list b.floor ≡ b.list) × (b.booked ≡ b.cancelled + b.retired + net b.list)
      × (b.booked ≤ 2 ^ 62)

  pub each_sound_keeps_all : IsSound b → KeepsAll
  each_sound_keeps_all s =
      (s.opened, s.capped, s.counted, s.rested, s.lawful, s.kept_whole, s.balanced, s.bounded)

  pub each_that_keeps_all_is_sound : KeepsAll → IsSound b
  each_that_keeps_all_is_sound (opens, caps, counts, rests, law_kept, whole, balances, bounds) =
      record {
        opened = opens;
        capped = caps;
        counted = counts;
        rested = rests;
        lawful = law_kept;
        kept_whole = whole;
        balanced = balances;
        bounded = bounds;
      }

-- a list that a book may keep, by all that is asked of it
abbrev MayBeKept : Rules → ℕ → ℕ → List Reservation → Type 0
MayBeKept rules floor booked l =
    (0 < rules.cap) × (rules.cap ≤ 65536) × (length l ≤ rules.cap) × IsByStart l × (rules.gap ≤ 100000)
    × IsLawful rules.gap l × (kept l floor ≡ l) × (net l ≤ booked) × (booked ≤ 2 ^ 62)

pub each_kept_list : (rules : Rules) (floor booked : ℕ) (l : List Reservation) → IsBookList rules floor booked l
    → MayBeKept rules floor booked l
each_kept_list rules floor booked l h =
    (h.opened, h.capped, h.counted, h.by_start, h.rested, h.lawful, h.kept_whole, h.covered, h.bounded)

module _ (law : BooksMayBeSaved) (b : Book) (sound : IsSound b) (id : b.id < 2 ^ 16) (floor : b.floor < 2 ^ 64)
    (members : HaveNumbers b.list) (rising : IsByStart b.list) where
  pub each_may_be_saved : IsSavable (saved_of b)
  each_may_be_saved = law b sound (record { id = id; floor = floor; members = members; by_start = rising })

  pub numbers_of_each : (b.id < 2 ^ 16) × (b.floor < 2 ^ 64) × HaveNumbers b.list
  numbers_of_each = (each_may_be_saved.id, each_may_be_saved.floor, each_may_be_saved.members)

  pub list_of_each : MayBeKept b.rules b.floor (net b.list) b.list
  list_of_each = each_kept_list b.rules b.floor (net b.list) b.list each_may_be_saved.list

-- Of every book that is read, and of what is saved.

abbrev HasVersion : ℕ → Saved → Type 0
HasVersion version s = ((version ≡ 1) × (s.rules.gap ≡ 0)) ⊎ (version ≡ 2)

module _ (law : LoadedWasSaved) (bytes rest : List ℕ) (s : Saved) (read : loaded bytes ≡ Ok (s, rest)) where
  pub numbers_of_each_read : (s.id < 2 ^ 16) × (s.floor < 2 ^ 64) × HaveNumbers s.list
  numbers_of_each_read = let may = (law bytes s rest read).0 in (may.id, may.floor, may.members)

  pub list_of_each_read : MayBeKept s.rules s.floor (net s.list) s.list
  list_of_each_read = each_kept_list s.rules s.floor (net s.list) s.list (law bytes s rest read).0.list

  pub text_of_each_read : (version : ℕ) × HasVersion version s × (bytes ≡ text_in version s ++ rest)
  text_of_each_read = (law bytes s rest read).1

module _ (s : Saved) (id : s.id < 2 ^ 16) (floor : s.floor < 2 ^ 64) (members : HaveNumbers s.list)
    (list : MayBeKept s.rules s.floor (net s.list) s.list) where
  pub each_such_list_may_be_kept : IsBookList s.rules s.floor (net s.list) s.list
  each_such_list_may_be_kept =
      let (opens, caps, counts, rising, rests, law_kept, whole, covers, bounds) = list in
      record {
        opened = opens;
        capped = caps;
        counted = counts;
        by_start = rising;
        rested = rests;
        lawful = law_kept;
        kept_whole = whole;
        covered = covers;
        bounded = bounds;
      }

  pub each_is_read_again : SavedIsReadAgain → (version : ℕ) (rest : List ℕ) → HasVersion version s
      → loaded (text_in version s ++ rest) ≡ Ok (s, rest)
  each_is_read_again law version rest v =
      law version s rest v (record { id = id; floor = floor; members = members; list = each_such_list_may_be_kept })

ends_with_one : (others : List Reservation) (member : Reservation) → [] ≡ others ++ member ∷ [] → ⊥
ends_with_one [] member e = absurd (cc)
ends_with_one (r ∷ rs) member e = absurd (cc)

-- What a call that loads a book tells of all bytes, and of what it leaves.

module _ (bytes : List ℕ) (left : Option (List ℕ)) where
  pub book_is_told : (b : Book) → LoadsFrom bytes left (Ok b)
      → (rest : List ℕ) × (left ≡ Some rest)
      × (loaded bytes ≡ Ok (record { id = b.id; rules = b.rules; floor = b.floor; list = b.list }, rest))
  book_is_told b h = h

  pub bad_line_is_told : (line : ℕ) → LoadsFrom bytes left (Err (Syntax line)) → loaded bytes ≡ Err (Syntax line)
  bad_line_is_told line h = h

  pub other_version_is_told : LoadsFrom bytes left (Err Version) → loaded bytes ≡ Err Version
  other_version_is_told h = h

  pub unlawful_line_is_told : (line : ℕ) → LoadsFrom bytes left (Err (Unlawful line)) → loaded bytes ≡ Err (Unlawful line)
  unlawful_line_is_told line h = h

  -- where memory was wanted, the bytes that were taken, ended there, would be a book with a member
  pub want_of_memory_is_told : LoadsFrom bytes left (Err NoMemory)
      → (front : List ℕ) × (rest : List ℕ) × (s : Saved) × (bytes ≡ front ++ rest) × (left ≡ Some rest)
      × (s.list ≡ [] → ⊥) × (loaded (front ++ spaced (end_words s.list) ++ 10 ∷ []) ≡ Ok (s, []))
  want_of_memory_is_told (h, taken) = (
    h.front,
    h.rest,
    h.saved,
    h.parts,
    taken,
    (λ none. ends_with_one h.others h.member (sym none ∙ h.last)),
    h.reads,
  )

  -- so many bytes were taken off the front
  pub taken_bytes_are_counted : (count : ℕ) → TakesBytes (Some bytes) left count
      → (front : List ℕ) × Consumes (Some bytes) left front × (length front ≡ count)
  taken_bytes_are_counted count h = h

  -- the same is told of a reader that tells its bytes
  pub reader_is_told : (result : Result Book LoadFault) → Loads (Some bytes) left result → LoadsFrom bytes left result
  reader_is_told result h = h

-- The first version tells no gap: the same book without one.

abbrev pub without_gap : Saved
without_gap = record { id = 65535; rules = record { cap = 3; gap = 0 }; floor = 3600001000; list = sent }

abbrev pub first_text : List ℕ
first_text =
    codes "airbook 1\ngateway 65535 3 3600001000\n"
    ++ codes "r 1 1000 868100000 5 12\nr 2 1000000 868100000 5 12\nr 3 3600500000 868100000 5 12\nend 3\n"

pub first_is_written : text_in 1 without_gap ≡ first_text
unfolding digits early late last
first_is_written = refl

pub first_is_read : loaded first_text ≡ Ok (without_gap, [])
unfolding airtime_of band_of begun overlap full_hour early late last
first_is_read = refl

pub first_is_read_again : LoadedWasSaved → SavedIsReadAgain → (rest : List ℕ)
    → loaded (first_text ++ rest) ≡ Ok (without_gap, rest)
first_is_read_again was again rest =
    let P : List ℕ → Type 0 = λ text. loaded (text ++ rest) ≡ Ok (without_gap, rest) in
    subst P first_is_written (again 1 without_gap rest (inl (refl, refl)) (was first_text without_gap [] first_is_read).0)

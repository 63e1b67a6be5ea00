use Rattle.std.specs.Prelude.{ℕ, ◌≡◌, ◌+◌, ◌^◌, ◌<◌, ◌≤◌, ◌&&◌, ◌||◌, ◌==◌, true, false, List, [], ◌∷◌, ◌++◌, length, codes}
use Rattle.std.specs.Prelude.{decimal}
use Rattle.std.specs.Prelude.{Some, None, Ok, Err, cond, is_some, nat_lt}
use Rattle.std.proofs.Common.{refl, sym, ap, ◌∙◌, arith, subst, eqb, eq-eqb, append_assoc, append-nil, length-append, inl, inr}
use Rattle.std.proofs.Common.{suc}
use Rattle.std.proofs.lemmas.Bool.{ne_eqb, le-ltb}
use Rattle.std.proofs.lemmas.Fmt.{length-decimal-le}
use Rattle.std.proofs.lemmas.List.Splits.{join_with_byte-slice_split}
use Rattle.std.specs.List.{join_with_byte, list_all, All}
use Rattle.radio_airtime.specs.DataRate.{number_of, known_rate}
use Rattle.radio_airtime.specs.declared.data_rate.DataRate.{DataRate}
use Rattle.radio_airtime.specs.declared.data_rate.DataRate.TheVariants.{Dr0, Dr1, Dr2, Dr3, Dr4, Dr5, Dr6}
use Rattle.resv_list.specs.declared.reservation.Reservation.{Reservation}
use Rattle.resv_list.specs.Reservations.{net}
use Rattle.text_lines.specs.Words.{spaced}
use Rattle.gateway_book.specs.declared.loading.LoadFault.TheVariants.{Syntax, Unlawful, Version}
use Rattle.gateway_book.specs.declared.saved_line.Entry.TheVariants.{Member, End}
use Rattle.gateway_book.specs.declared.saved_line.SavedGateway.{SavedGateway}
use Rattle.gateway_book.specs.Loading.{loaded, lines_between, words_between, members_in, after_version, after_gateway}
use Rattle.gateway_book.specs.Loading.{after_entry}
use Rattle.gateway_book.specs.Loading.{version_in, gateway_in, entry_in, entry_with, saved_empty}
use Rattle.gateway_book.specs.Loading.{joined, IsSavable, SavedIsReadAgain}
use Rattle.gateway_book.specs.Answer.{Rules, most_cap}
use Rattle.gateway_book.specs.Book.{IsBookList}
use Rattle.gateway_book.specs.Disjoint.{most_gap}
use Rattle.gateway_book.specs.Opening.{open_fault}
use Rattle.gateway_book.specs.Saved.{Saved, version_words, gateway_words, member_words, members_text, end_words, text_in}
use Rattle.gateway_book.specs.SavedLines.{members_from, gateway_from}
use Rattle.gateway_book.specs.Step.{reservation_of}
use Rattle.gateway_book.proofs.FollowLaws.{asked_becomes}
use Rattle.gateway_book.proofs.Rejoining.{ask_of, asked_again, may_follow_again}
use Rattle.gateway_book.proofs.SavedNumbers.{plain-decimal, is_ink, is_ink-decimal, words_between-spaced, unbroken-spaced}
use Rattle.gateway_book.proofs.SavedSteps.{loaded-line, gateway_from-line, members_from-line}
use Rattle.gateway_book.proofs.SavedText.{end_text, text_in-parts, regroup}

-- A saved text is read again, line by line.

-- the line that counts the members
pub end_is_read : (number : ℕ) (s : Saved) (rest : List ℕ) → length s.list < 2 ^ 32
    → members_from number s (spaced (end_words s.list) ++ 10 ∷ rest) ≡ Ok (s, rest)
end_is_read number s rest few =
    let count = length s.list in
    let ink : list_all is_ink (end_words s.list) ≡ true =
    ap (λ t. t && true) (is_ink-decimal count (omega arith)) in
    let short : length (spaced (end_words s.list)) ≤ 80 =
    omega (arith, length-decimal-le 10 count (omega arith) (omega arith) (omega arith)) in
    let said : entry_in (words_between (spaced (end_words s.list))) ≡ Some (End count) =
    ap entry_in (words_between-spaced (codes "end") (decimal count ∷ []) ink)
    ∙ ap (λ o. entry_with None o) (plain-decimal (2 ^ 32) count few (omega arith)) in
    members_from-line (spaced (end_words s.list)) rest (unbroken-spaced (codes "end") (decimal count ∷ []) ink) short number s
    ∙ ap (after_entry number s (lines_between rest) (λ t. members_in (number + 1) t (lines_between rest))) said
    ∙ ap (λ t. cond t (Ok (s, join_with_byte 10 (lines_between rest))) (Err (Syntax number))) (eq-eqb count count refl)
    ∙ ap (λ l. Ok (s, l)) (join_with_byte-slice_split 10 rest)

rate_again : (rate : DataRate) → known_rate (number_of rate) ≡ Some rate
rate_again Dr0 = refl
rate_again Dr1 = refl
rate_again Dr2 = refl
rate_again Dr3 = refl
rate_again Dr4 = refl
rate_again Dr5 = refl
rate_again Dr6 = refl

rate_small : (rate : DataRate) → number_of rate < 10
rate_small Dr0 = omega arith
rate_small Dr1 = omega arith
rate_small Dr2 = omega arith
rate_small Dr3 = omega arith
rate_small Dr4 = omega arith
rate_small Dr5 = omega arith
rate_small Dr6 = omega arith

module _ (r : Reservation) (number : r.number < 2 ^ 64) (freq_hz : r.freq_hz < 2 ^ 32) (len : r.len < 2 ^ 8) where
  start_small : r.start < 2 ^ 62
  start_small = omega (arith, r.fit.timely)

  member_ink : list_all is_ink (member_words r) ≡ true
  member_ink =
      rw (
        is_ink-decimal r.number number,
        is_ink-decimal r.start (omega (arith, start_small)),
        is_ink-decimal r.freq_hz (omega arith),
        is_ink-decimal (number_of r.rate) (omega (arith, rate_small r.rate)),
        is_ink-decimal r.len (omega arith),
      ) refl

  member_short : length (spaced (member_words r)) ≤ 80
  member_short =
      omega (
        arith,
        length-append (decimal r.number)
            (32 ∷ spaced (decimal r.start ∷ decimal r.freq_hz ∷ decimal (number_of r.rate) ∷ decimal r.len ∷ [])),
        length-append (decimal r.start) (32 ∷ spaced (decimal r.freq_hz ∷ decimal (number_of r.rate) ∷ decimal r.len ∷ [])),
        length-append (decimal r.freq_hz) (32 ∷ spaced (decimal (number_of r.rate) ∷ decimal r.len ∷ [])),
        length-append (decimal (number_of r.rate)) (32 ∷ decimal r.len),
        length-decimal-le 20 r.number (omega arith) (omega arith) number,
        length-decimal-le 20 r.start (omega arith) (omega (arith, start_small)) (omega (arith, start_small)),
        length-decimal-le 10 r.freq_hz (omega arith) (omega arith) (omega arith),
        length-decimal-le 1 (number_of r.rate) (omega arith) (omega (arith, rate_small r.rate))
            (omega (arith, rate_small r.rate)),
        length-decimal-le 3 r.len (omega arith) (omega arith) (omega arith),
      )

  member_said : entry_in (words_between (spaced (member_words r))) ≡ Some (Member (ask_of r))
  member_said =
      ap entry_in (words_between-spaced (codes "r") (decimal r.number ∷ decimal r.start ∷ decimal r.freq_hz
      ∷ decimal (number_of r.rate) ∷ decimal r.len ∷ []) member_ink)
      ∙ (rw (
        plain-decimal (2 ^ 64) r.number number (omega arith),
        plain-decimal (2 ^ 64) r.start (omega (arith, start_small)) (omega arith),
        plain-decimal (2 ^ 32) r.freq_hz freq_hz (omega arith),
        plain-decimal (2 ^ 8) (number_of r.rate) (omega (arith, rate_small r.rate)) (omega arith),
        rate_again r.rate,
        plain-decimal (2 ^ 8) r.len len (omega arith),
      ) refl)

-- the members and the line that counts them
members_are_read : (number : ℕ) (s : Saved) (rest : List Reservation) (booked : ℕ) (bytes : List ℕ)
    → All (λ r. (r.number < 2 ^ 64) × (r.freq_hz < 2 ^ 32) × (r.len < 2 ^ 8)) rest
    → IsBookList s.rules s.floor booked (s.list ++ rest)
    → members_from number s (members_text rest ++ (end_text (s.list ++ rest) ++ bytes))
    ≡ Ok (record s { list = s.list ++ rest }, bytes)
members_are_read number s [] booked bytes fields b =
    let P : List Reservation → Type 0 = λ l.
    members_from number s (end_text l ++ bytes) ≡ Ok (record s { list = l }, bytes) in
    let none = append-nil s.list in
    let few : length s.list < 2 ^ 32 = omega (arith, b.counted, b.capped, ap length none) in
    subst P (sym none)
    (ap (members_from number s) (append_assoc (spaced (end_words s.list)) (10 ∷ []) bytes) ∙ end_is_read number s bytes few)
members_are_read number s (r ∷ rs) booked bytes fields b =
    let field = fields 0 r (omega arith) in
    let ask = ask_of r in
    let whole = s.list ++ r ∷ rs in
    let left = members_text rs ++ (end_text whole ++ bytes) in
    let t : Saved = record s { list = s.list ++ r ∷ [] } in
    let same : (s.list ++ r ∷ []) ++ rs ≡ whole = append_assoc s.list (r ∷ []) rs in
    let P : List Reservation → Type 0 = λ l.
    members_from (number + 1) t (members_text rs ++ (end_text l ++ bytes)) ≡ Ok (record s { list = l }, bytes) in
    let Q : List Reservation → Type 0 = λ l. IsBookList s.rules s.floor booked l in
    let unbroken = unbroken-spaced (codes "r") (decimal r.number ∷ decimal r.start ∷ decimal r.freq_hz
    ∷ decimal (number_of r.rate) ∷ decimal r.len ∷ []) (member_ink r field.0 field.1 field.2) in
    ap (members_from number s) (append_assoc (spaced (member_words r)) (10 ∷ members_text rs) (end_text whole ++ bytes))
    ∙ members_from-line (spaced (member_words r)) left unbroken (member_short r field.0 field.1 field.2) number s
    ∙ ap (after_entry number s (lines_between left) (λ u. members_in (number + 1) u (lines_between left)))
    (member_said r field.0 field.1 field.2)
    ∙ ap (λ q. cond q (members_from (number + 1) (joined s (reservation_of ask)) left) (Err (Unlawful number)))
    (may_follow_again s booked r rs b)
    ∙ ap (λ o. members_from (number + 1) (joined s o) left) (asked_becomes ask r (asked_again r))
    ∙ subst P same
    (members_are_read (number + 1) t rs booked bytes (λ k d h. fields (suc k) d (omega arith)) (subst Q (sym same) b))

open_again : (rules : Rules) → 0 < rules.cap → rules.cap ≤ most_cap → rules.gap ≤ most_gap → open_fault rules ≡ None
open_again rules some capped rested =
    let a : (rules.cap == 0) ≡ false = ne_eqb rules.cap 0 (λ e. omega (arith, e)) in
    let b : nat_lt most_cap rules.cap ≡ false = le-ltb most_cap rules.cap capped in
    let c : nat_lt most_gap rules.gap ≡ false = le-ltb most_gap rules.gap rested in
    rw (a, b, c) refl

-- the lines before them
module _ (s : Saved) (savable : IsSavable s) where
  cap_small : s.rules.cap ≤ most_cap
  cap_small = savable.list.capped

  gateway_ink : list_all is_ink (gateway_words 1 s) ≡ true
  gateway_ink =
      rw (
        is_ink-decimal s.id (omega (arith, savable.id)),
        is_ink-decimal s.rules.cap (omega (arith, cap_small)),
        is_ink-decimal s.floor savable.floor,
      ) refl

  gateway_short : length (spaced (gateway_words 1 s)) ≤ 40
  gateway_short =
      omega (
        arith,
        length-append (decimal s.id) (32 ∷ spaced (decimal s.rules.cap ∷ decimal s.floor ∷ [])),
        length-append (decimal s.rules.cap) (32 ∷ decimal s.floor),
        length-decimal-le 5 s.id (omega arith) (omega (arith, savable.id)) (omega (arith, savable.id)),
        length-decimal-le 5 s.rules.cap (omega arith) (omega (arith, cap_small)) (omega (arith, cap_small)),
        length-decimal-le 20 s.floor (omega arith) (omega (arith, savable.floor)) savable.floor,
      )

  abbrev empty_with : ℕ → SavedGateway
  empty_with gap = record { id = s.id; cap = s.rules.cap; floor = s.floor; gap = gap }

  opens : (gap : ℕ) → s.rules.gap ≡ gap → open_fault (saved_empty (empty_with gap)).rules ≡ None
  opens gap e =
      open_again (record { cap = s.rules.cap; gap = gap }) savable.list.opened cap_small (omega (arith, e, savable.list.rested))

  module _ (version : ℕ) (gap : ℕ) (more : List ℕ) (words : List (List ℕ)) where
    gateway_reads : list_all is_ink (codes "gateway" ∷ words) ≡ true → length (spaced (codes "gateway" ∷ words)) ≤ 80
        → gateway_in version (codes "gateway" ∷ words) ≡ Some (empty_with gap) → s.rules.gap ≡ gap
        → gateway_from version (spaced (codes "gateway" ∷ words) ++ 10 ∷ more) ≡ members_from 3 (record s { list = [] }) more
    gateway_reads ink short said e =
        gateway_from-line (spaced (codes "gateway" ∷ words)) more (unbroken-spaced (codes "gateway") words ink) short version
        ∙ ap (λ l. after_gateway (gateway_in version l) (lines_between more)) (words_between-spaced (codes "gateway") words ink)
        ∙ ap (λ o. after_gateway o (lines_between more)) said
        ∙ ap (λ o. cond (is_some o) (Err (Unlawful 2)) (members_from 3 (saved_empty (empty_with gap)) more)) (opens gap e)
        ∙ ap (λ (n : ℕ). members_from 3
        (record { id = s.id; rules = record { cap = s.rules.cap; gap = n }; floor = s.floor; list = [] }) more) (sym e)

  -- of the first version
  gateway_first : (more : List ℕ) → s.rules.gap ≡ 0
      → gateway_from 1 (spaced (gateway_words 1 s) ++ 10 ∷ more) ≡ members_from 3 (record s { list = [] }) more
  gateway_first more e =
      gateway_reads 1 0 more (decimal s.id ∷ decimal s.rules.cap ∷ decimal s.floor ∷ []) gateway_ink
      (omega (arith, gateway_short))
      (rw (
        plain-decimal (2 ^ 16) s.id savable.id (omega arith),
        plain-decimal (2 ^ 32) s.rules.cap (omega (arith, cap_small)) (omega arith),
        plain-decimal (2 ^ 64) s.floor savable.floor (omega arith),
      ) refl) e

  -- of the second
  gap_small : s.rules.gap < 2 ^ 32
  gap_small = omega (arith, savable.list.rested)

  gateway_second : (more : List ℕ)
      → gateway_from 2 (spaced (gateway_words 2 s) ++ 10 ∷ more) ≡ members_from 3 (record s { list = [] }) more
  gateway_second more =
      let words = decimal s.id ∷ decimal s.rules.cap ∷ decimal s.floor ∷ decimal s.rules.gap ∷ [] in
      let ink : list_all is_ink (codes "gateway" ∷ words) ≡ true =
      rw (
        is_ink-decimal s.id (omega (arith, savable.id)),
        is_ink-decimal s.rules.cap (omega (arith, cap_small)),
        is_ink-decimal s.floor savable.floor,
        is_ink-decimal s.rules.gap (omega (arith, gap_small)),
      ) refl in
      let short : length (spaced (codes "gateway" ∷ words)) ≤ 80 =
      omega (
        arith,
        length-append (decimal s.id) (32 ∷ spaced (decimal s.rules.cap ∷ decimal s.floor ∷ decimal s.rules.gap ∷ [])),
        length-append (decimal s.rules.cap) (32 ∷ spaced (decimal s.floor ∷ decimal s.rules.gap ∷ [])),
        length-append (decimal s.floor) (32 ∷ decimal s.rules.gap),
        length-decimal-le 5 s.id (omega arith) (omega (arith, savable.id)) (omega (arith, savable.id)),
        length-decimal-le 5 s.rules.cap (omega arith) (omega (arith, cap_small)) (omega (arith, cap_small)),
        length-decimal-le 20 s.floor (omega arith) (omega (arith, savable.floor)) savable.floor,
        length-decimal-le 10 s.rules.gap (omega arith) (omega (arith, gap_small)) (omega (arith, gap_small)),
      ) in
      gateway_reads 2 s.rules.gap more words ink short
      (rw (
        plain-decimal (2 ^ 16) s.id savable.id (omega arith),
        plain-decimal (2 ^ 32) s.rules.cap (omega (arith, cap_small)) (omega arith),
        plain-decimal (2 ^ 64) s.floor savable.floor (omega arith),
        plain-decimal (2 ^ 32) s.rules.gap gap_small (omega arith),
      ) refl) refl

-- the first line of either
version_reads : (version : ℕ) (more : List ℕ) → version < 10 → (eqb version 1 || eqb version 2) ≡ true
    → loaded (spaced (version_words version) ++ 10 ∷ more) ≡ gateway_from version more
version_reads version more small known =
    let ink : list_all is_ink (version_words version) ≡ true = rw (is_ink-decimal version (omega arith)) refl in
    let short : length (spaced (version_words version)) ≤ 80 =
    omega (arith, length-decimal-le 1 version (omega arith) small (omega arith)) in
    let said : version_in (version_words version) ≡ Some version =
    rw (plain-decimal (2 ^ 32) version (omega arith) (omega arith)) refl in
    loaded-line (spaced (version_words version)) more (unbroken-spaced (codes "airbook") (decimal version ∷ []) ink) short
    ∙ ap (λ l. after_version (version_in l) (lines_between more))
    (words_between-spaced (codes "airbook") (decimal version ∷ []) ink)
    ∙ ap (λ o. after_version o (lines_between more)) said
    ∙ ap (λ t. cond t (gateway_from version more) (Err Version)) known

module _ (version : ℕ) (s : Saved) (rest : List ℕ) (savable : IsSavable s) where
  whole_is_read : version < 10 → (eqb version 1 || eqb version 2) ≡ true
      → ((more : List ℕ) → gateway_from version (spaced (gateway_words version s) ++ 10 ∷ more)
      ≡ members_from 3 (record s { list = [] }) more)
      → loaded (text_in version s ++ rest) ≡ Ok (s, rest)
  whole_is_read small known gateway =
      let members = members_text s.list in
      let last = end_text s.list in
      ap (λ l. loaded (l ++ rest)) (text_in-parts version s)
      ∙ ap loaded (regroup (spaced (version_words version)) (spaced (gateway_words version s)) members last rest)
      ∙ version_reads version (spaced (gateway_words version s) ++ (10 ∷ (members ++ (last ++ rest)))) small known
      ∙ gateway (members ++ (last ++ rest))
      ∙ members_are_read 3 (record s { list = [] }) s.list (net s.list) rest savable.members savable.list

-- what is saved is read again
pub saved_is_read_again : SavedIsReadAgain
saved_is_read_again version s rest (inl v) savable =
    subst (λ (n : ℕ). loaded (text_in n s ++ rest) ≡ Ok (s, rest)) (sym v.0)
    (whole_is_read 1 s rest savable (omega arith) refl (λ more. gateway_first s savable more v.1))
saved_is_read_again version s rest (inr v) savable =
    subst (λ (n : ℕ). loaded (text_in n s ++ rest) ≡ Ok (s, rest)) (sym v)
    (whole_is_read 2 s rest savable (omega arith) refl (λ more. gateway_second s savable more))

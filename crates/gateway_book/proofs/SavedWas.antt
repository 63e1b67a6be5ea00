use Rattle.std.specs.Prelude.{ℕ, ◌≡◌, ◌+◌, ◌^◌, ◌<◌, ◌||◌, ◌==◌, Bool, true, false, List, [], ◌∷◌, ◌++◌, length, codes, decimal}
use Rattle.std.specs.Prelude.{Option, Some, None, Ok, Err, cond, is_some}
use Rattle.std.proofs.Common.{refl, sym, ap, ◌∙◌, arith, subst, eqb, ltb, leb, append_assoc, append-nil, inl, inr}
use Rattle.std.proofs.lemmas.Bool.{and_parts, ltb-true, eqb-true}
use Rattle.std.proofs.lemmas.List.Elements.{All-cons}
use Rattle.std.proofs.lemmas.List.Splits.{join_with_byte-slice_split}
use Rattle.std.specs.List.{join_with_byte, All}
use Rattle.resv_list.specs.declared.reservation.Reservation.{Reservation}
use Rattle.resv_list.specs.Reservations.{IsByStart}
use Rattle.text_lines.specs.Words.{spaced}
use Rattle.gateway_book.specs.declared.ask.Ask.{Ask}
use Rattle.gateway_book.specs.declared.loading.LoadFault.TheVariants.{Syntax, Unlawful, Version}
use Rattle.gateway_book.specs.declared.saved_line.Entry.{Entry}
use Rattle.gateway_book.specs.declared.saved_line.Entry.TheVariants.{Member, End}
use Rattle.gateway_book.specs.declared.saved_line.SavedGateway.{SavedGateway}
use Rattle.gateway_book.specs.Book.{IsSound}
use Rattle.gateway_book.specs.Loading.{Loaded, lines_between, words_between, is_line, members_in, gateway_lines, all_lines}
use Rattle.gateway_book.specs.Loading.{after_version, after_gateway, after_entry, version_in, gateway_in, entry_in, entry_with}
use Rattle.gateway_book.specs.Loading.{member_in}
use Rattle.gateway_book.specs.Loading.{count_in, saved_empty, may_follow, joined, IsSavable, IsVersion, LoadedWasSaved}
use Rattle.gateway_book.specs.Opening.{open_fault}
use Rattle.gateway_book.specs.Saved.{Saved, opened_again, member_words, members_text, version_words, gateway_words, end_words}
use Rattle.gateway_book.specs.Saved.{text_in}
use Rattle.gateway_book.specs.Step.{reservation_of}
use Rattle.gateway_book.proofs.FollowLaws.{none_of, place-last}
use Rattle.gateway_book.proofs.Joining.{followed, follower_is_fit, can_join, again_behind, empty_again}
use Rattle.gateway_book.proofs.OrderlyLaws.{orderly_placed}
use Rattle.gateway_book.proofs.SavedSpelling.{member_line, count_line, version_line, gateway_line}
use Rattle.gateway_book.proofs.SavedText.{end_text, text_in-parts, regroup}
use Rattle.gateway_book.proofs.SoundLaws.{sound_booked, sound_empty, within}

-- A text that is read was saved.

-- what stands before a line feed is a line, if it is one
line_before : (line : List ℕ) (more : List (List ℕ)) → 0 < length more → join_with_byte 10 (line ∷ more)
    ≡ line ++ (10 ∷ join_with_byte 10 more)
line_before line [] some = absurd (omega arith)
line_before line (next ∷ more) some = refl

-- a line of these words
spelled_line : (line : List ℕ) (words : List (List ℕ)) → words_between line ≡ words → line ≡ spaced words
spelled_line line words e = sym (join_with_byte-slice_split 32 line) ∙ ap spaced e

abbrev told : Saved → List ℕ → Loaded
told s rest = Ok (s, rest)

abbrev the_ok : Saved × List ℕ → Loaded
the_ok x = Ok x

same_ok : {x y : Saved × List ℕ} → the_ok x ≡ the_ok y → x ≡ y
same_ok h = cc

answer_is : (s t : Saved) (a b : List ℕ) → told s a ≡ told t b → (s ≡ t) × (a ≡ b)
answer_is s t a b e =
    (ap (λ (p : Saved × List ℕ). p.0) (same_ok e), ap (λ (p : Saved × List ℕ). p.1) (same_ok e))

-- what the lines from one on were
pub record AreSaved (s t : Saved) (parts : List (List ℕ)) (rest : List ℕ) : Type 0 where
  members : List Reservation
  whole : t ≡ record s { list = s.list ++ members }
  text : join_with_byte 10 parts ≡ members_text members ++ (end_text t.list ++ rest)
  fields : All (λ r. (r.number < 2 ^ 64) × (r.freq_hz < 2 ^ 32) × (r.len < 2 ^ 8)) members
  sound : IsSound (opened_again t)
  by_start : IsByStart t.list

entry_member : (a : Option Ask) (b : Option ℕ) (ask : Ask) → entry_with a b ≡ Some (Member ask) → a ≡ Some ask
entry_member (Some x) b ask e = cc
entry_member None (Some n) ask e = absurd (cc)
entry_member None None ask e = absurd (cc)

entry_end : (a : Option Ask) (b : Option ℕ) (count : ℕ) → entry_with a b ≡ Some (End count) → b ≡ Some count
entry_end (Some x) b count e = absurd (cc)
entry_end None (Some n) count e = cc
entry_end None None count e = absurd (cc)

module _ (number : ℕ) (s t : Saved) (line : List ℕ) (more : List (List ℕ)) (rest : List ℕ) (some : 0 < length more)
    (sound : IsSound (opened_again s)) (by_start : IsByStart s.list) where
  end_was : (count : ℕ) → entry_in (words_between line) ≡ Some (End count) → (b : Bool) → (count == length s.list) ≡ b
      → cond b (told s (join_with_byte 10 more)) (Err (Syntax number)) ≡ told t rest → AreSaved s t (line ∷ more) rest
  end_was count said true right e =
      let same = answer_is s t (join_with_byte 10 more) rest e in
      let words = count_line (words_between line) count
      (entry_end (member_in (words_between line)) (count_in (words_between line)) count said)
      ∙ ap (λ n. codes "end" ∷ decimal n ∷ []) (eqb-true count (length s.list) right) in
      let P : Saved → Type 0 = λ u. AreSaved s u (line ∷ more) rest in
      subst P same.0 (record {
        members = [];
        whole = ap (λ (l : List Reservation). record s { list = l }) (sym (append-nil s.list));
        text =
            line_before line more some ∙ ap (λ l. l ++ (10 ∷ join_with_byte 10 more)) (spelled_line line _ words)
            ∙ ap (λ l. spaced (end_words s.list) ++ (10 ∷ l)) same.1
            ∙ sym (append_assoc (spaced (end_words s.list)) (10 ∷ []) rest);
        fields = λ k d h. absurd (omega arith);
        sound = sound;
        by_start = by_start;
      })
  end_was count said false wrong e = absurd (cc)

  module _ (ask : Ask) (said : entry_in (words_between line) ≡ Some (Member ask))
      (after : (u : Saved) → members_in (number + 1) u more ≡ told t rest → IsSound (opened_again u) → IsByStart u.list
      → AreSaved u t more rest) where
    member_was : (b : Bool) → may_follow s ask ≡ b
        → cond b (members_in (number + 1) (joined s (reservation_of ask)) more) (Err (Unlawful number)) ≡ told t rest
        → AreSaved s t (line ∷ more) rest
    member_was true may e =
        let fit = follower_is_fit s ask may in
        let r = fit.0 in
        let f = followed s ask r may fit.1 in
        let u : Saved = record s { list = s.list ++ r ∷ [] } in
        let read = ap (λ o. members_in (number + 1) (joined s o) more) (sym fit.1) ∙ e in
        let again : IsSound (opened_again u) =
        subst IsSound (again_behind s r f.last)
        (sound_booked (opened_again s) r sound by_start (can_join (opened_again s) ask r sound refl f)) in
        let placed = orderly_placed s.list r
        (record { rested = sound.rested; by_start = by_start; lawful = sound.lawful }) f.joins in
        let next = after u read again (subst IsByStart (place-last r s.list f.last) placed.by_start) in
        let asked = f.asked in
        let words = member_line (words_between line) ask
        (entry_member (member_in (words_between line)) (count_in (words_between line)) ask said) in
        let spelled : words_between line ≡ member_words r =
        rw (asked.number, asked.start, asked.freq_hz, asked.rate, asked.len) words.written in
        let behind = members_text next.members ++ (end_text t.list ++ rest) in
        record {
          members = r ∷ next.members;
          whole = next.whole ∙ ap (λ (l : List Reservation). record s { list = l }) (append_assoc s.list (r ∷ []) next.members);
          text =
              line_before line more some ∙ ap (λ l. l ++ (10 ∷ join_with_byte 10 more)) (spelled_line line _ spelled)
              ∙ ap (λ l. spaced (member_words r) ++ (10 ∷ l)) next.text
              ∙ sym (append_assoc (spaced (member_words r)) (10 ∷ members_text next.members) (end_text t.list ++ rest));
          fields =
              All-cons (λ m. (m.number < 2 ^ 64) × (m.freq_hz < 2 ^ 32) × (m.len < 2 ^ 8)) r next.members
              (rw asked.number words.number, rw asked.freq_hz words.freq_hz, rw asked.len words.len) next.fields;
          sound = next.sound;
          by_start = next.by_start;
        }
    member_was false may e = absurd (cc)

  entry_was : (o : Option Entry) → entry_in (words_between line) ≡ o
      → after_entry number s more (λ u. members_in (number + 1) u more) o ≡ told t rest
      → ((u : Saved) → members_in (number + 1) u more ≡ told t rest → IsSound (opened_again u) → IsByStart u.list
      → AreSaved u t more rest) → AreSaved s t (line ∷ more) rest
  entry_was None said e after = absurd (cc)
  entry_was (Some (Member ask)) said e after = member_was ask said after (may_follow s ask) refl e
  entry_was (Some (End count)) said e after = end_was count said (count == length s.list) refl e

some_behind : (line : List ℕ) (more : List (List ℕ)) → is_line line more ≡ true → 0 < length more
some_behind line more e = ltb-true 0 (length more) (and_parts (leb (length line) 80) (ltb 0 (length more)) e).1

line_was : (number : ℕ) (s t : Saved) (line : List ℕ) (more : List (List ℕ)) (rest : List ℕ) → IsSound (opened_again s)
    → IsByStart s.list → (b : Bool) → is_line line more ≡ b
    → after_entry number s more (λ u. members_in (number + 1) u more) (cond b (entry_in (words_between line)) None) ≡ told t rest
    → ((u : Saved) → members_in (number + 1) u more ≡ told t rest → IsSound (opened_again u) → IsByStart u.list
    → AreSaved u t more rest) → AreSaved s t (line ∷ more) rest
line_was number s t line more rest sound by_start true is e after =
    entry_was number s t line more rest (some_behind line more is) sound by_start (entry_in (words_between line)) refl e after
line_was number s t line more rest sound by_start false is e after = absurd (cc)

pub members_were : (number : ℕ) (s t : Saved) (parts : List (List ℕ)) (rest : List ℕ) → members_in number s parts ≡ told t rest
    → IsSound (opened_again s) → IsByStart s.list → AreSaved s t parts rest
members_were number s t [] rest e sound by_start = absurd (cc)
members_were number s t (line ∷ more) rest e sound by_start =
    line_was number s t line more rest sound by_start (is_line line more) refl e
    (λ u f a b. members_were (number + 1) u t more rest f a b)

-- what the lines from the second on were
record WasGateway (version : ℕ) (t : Saved) (parts : List (List ℕ)) (rest : List ℕ) : Type 0 where
  text : join_with_byte 10 parts ≡ spaced (gateway_words version t) ++ (10 ∷ (members_text t.list ++ (end_text t.list ++ rest)))
  id : t.id < 2 ^ 16
  floor : t.floor < 2 ^ 64
  gap : version ≡ 1 → t.rules.gap ≡ 0
  members : All (λ r. (r.number < 2 ^ 64) × (r.freq_hz < 2 ^ 32) × (r.len < 2 ^ 8)) t.list
  sound : IsSound (opened_again t)
  by_start : IsByStart t.list

module _ (version : ℕ) (t : Saved) (line : List ℕ) (more : List (List ℕ)) (rest : List ℕ) (some : 0 < length more) where
  opened_was : (g : SavedGateway) → gateway_in version (words_between line) ≡ Some g → (o : Bool)
      → is_some (open_fault (saved_empty g).rules) ≡ o
      → cond o (Err (Unlawful 2)) (members_in 3 (saved_empty g) more) ≡ told t rest
      → WasGateway version t (line ∷ more) rest
  opened_was g said true opens e = absurd (cc)
  opened_was g said false opens e =
      let s = saved_empty g in
      let h = within s.rules (none_of (open_fault s.rules) opens) in
      let start = subst IsSound (empty_again g [] refl) (sound_empty g.id s.rules g.floor h.0 h.1 h.2) in
      let m = members_were 3 s t more rest e start tt in
      let words = gateway_line version (words_between line) g said in
      let list : t.list ≡ m.members = ap (λ (u : Saved). u.list) m.whole in
      let head : gateway_words version t ≡ gateway_words version s = ap (gateway_words version) m.whole in
      let id : t.id ≡ g.id = ap (λ (u : Saved). u.id) m.whole in
      let floor : t.floor ≡ g.floor = ap (λ (u : Saved). u.floor) m.whole in
      let P : List Reservation → Type 0 = λ l. All (λ r. (r.number < 2 ^ 64) × (r.freq_hz < 2 ^ 32) × (r.len < 2 ^ 8)) l in
      record {
        text =
            line_before line more some
            ∙ ap (λ l. l ++ (10 ∷ join_with_byte 10 more)) (spelled_line line _ (words.written ∙ sym head))
            ∙ ap (λ l. spaced (gateway_words version t) ++ (10 ∷ l)) m.text
            ∙ ap (λ (l : List Reservation).
            spaced (gateway_words version t) ++ (10 ∷ (members_text l ++ (end_text t.list ++ rest))))
            (sym list);
        id = omega (arith, id, words.id);
        floor = omega (arith, floor, words.floor);
        gap = λ first. ap (λ (u : Saved). u.rules.gap) m.whole ∙ words.gap first;
        members = subst P (sym list) m.fields;
        sound = m.sound;
        by_start = m.by_start;
      }

  gateway_was : (o : Option SavedGateway) → gateway_in version (words_between line) ≡ o → after_gateway o more ≡ told t rest
      → WasGateway version t (line ∷ more) rest
  gateway_was None said e = absurd (cc)
  gateway_was (Some g) said e = opened_was g said (is_some (open_fault (saved_empty g).rules)) refl e

second_was : (version : ℕ) (t : Saved) (line : List ℕ) (more : List (List ℕ)) (rest : List ℕ) (b : Bool) → is_line line more ≡ b
    → after_gateway (cond b (gateway_in version (words_between line)) None) more ≡ told t rest
    → WasGateway version t (line ∷ more) rest
second_was version t line more rest true is e =
    gateway_was version t line more rest (some_behind line more is) (gateway_in version (words_between line)) refl e
second_was version t line more rest false is e = absurd (cc)

gateway_lines_were : (version : ℕ) (t : Saved) (parts : List (List ℕ)) (rest : List ℕ) → gateway_lines version parts ≡ told t rest
    → WasGateway version t parts rest
gateway_lines_were version t [] rest e = absurd (cc)
gateway_lines_were version t (line ∷ more) rest e = second_was version t line more rest (is_line line more) refl e

-- what all lines were
record WasSaved (t : Saved) (parts : List (List ℕ)) (rest : List ℕ) : Type 0 where
  savable : IsSavable t
  version : ℕ
  known : IsVersion version t
  text : join_with_byte 10 parts ≡ text_in version t ++ rest

is_version : (version : ℕ) (t : Saved) (b : Bool) → eqb version 1 ≡ b → (b || eqb version 2) ≡ true
    → (version ≡ 1 → t.rules.gap ≡ 0) → IsVersion version t
is_version version t true first known gap = let one = eqb-true version 1 first in inl (one, gap one)
is_version version t false first known gap = inr (eqb-true version 2 known)

module _ (t : Saved) (line : List ℕ) (more : List (List ℕ)) (rest : List ℕ) (some : 0 < length more) where
  known_was : (version : ℕ) → version_in (words_between line) ≡ Some version → (b : Bool) → (eqb version 1 || eqb version 2) ≡ b
      → cond b (gateway_lines version more) (Err Version) ≡ told t rest → WasSaved t (line ∷ more) rest
  known_was version said true known e =
      let g = gateway_lines_were version t more rest e in
      let members = members_text t.list in
      let last = end_text t.list in
      record {
        savable = record {
          id = g.id;
          floor = g.floor;
          members = g.members;
          list = record {
            opened = g.sound.opened;
            capped = g.sound.capped;
            counted = g.sound.counted;
            by_start = g.by_start;
            rested = g.sound.rested;
            lawful = g.sound.lawful;
            kept_whole = g.sound.kept_whole;
            covered = omega arith;
            bounded = g.sound.bounded;
          };
        };
        version = version;
        known = is_version version t (eqb version 1) refl known g.gap;
        text =
            line_before line more some
            ∙ ap (λ l. l ++ (10 ∷ join_with_byte 10 more)) (spelled_line line _ (version_line (words_between line) version said))
            ∙ ap (λ l. spaced (version_words version) ++ (10 ∷ l)) g.text
            ∙ sym (regroup (spaced (version_words version)) (spaced (gateway_words version t)) members last rest)
            ∙ ap (λ l. l ++ rest) (sym (text_in-parts version t));
      }
  known_was version said false known e = absurd (cc)

  version_was : (o : Option ℕ) → version_in (words_between line) ≡ o → after_version o more ≡ told t rest
      → WasSaved t (line ∷ more) rest
  version_was None said e = absurd (cc)
  version_was (Some version) said e = known_was version said (eqb version 1 || eqb version 2) refl e

first_was : (t : Saved) (line : List ℕ) (more : List (List ℕ)) (rest : List ℕ) (b : Bool) → is_line line more ≡ b
    → after_version (cond b (version_in (words_between line)) None) more ≡ told t rest → WasSaved t (line ∷ more) rest
first_was t line more rest true is e =
    version_was t line more rest (some_behind line more is) (version_in (words_between line)) refl e
first_was t line more rest false is e = absurd (cc)

lines_were : (t : Saved) (parts : List (List ℕ)) (rest : List ℕ) → all_lines parts ≡ told t rest → WasSaved t parts rest
lines_were t [] rest e = absurd (cc)
lines_were t (line ∷ more) rest e = first_was t line more rest (is_line line more) refl e

-- what is read was saved
pub loaded_was_saved : LoadedWasSaved
loaded_was_saved bytes s rest e =
    let w = lines_were s (lines_between bytes) rest e in
    (w.savable, (w.version, w.known, sym (join_with_byte-slice_split 10 bytes) ∙ w.text))

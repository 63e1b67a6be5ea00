use Rattle.std.proofs.Common.{◌≡◌, ℕ, suc, ◌+◌, ◌<◌, List, [], ◌∷◌, ◌++◌, length, map, drop, get_or, Option, sym, ap, subst, ◌∙◌}
use Rattle.std.proofs.Common.{append_assoc, add-one, drop-cons}
use Rattle.std.specs.List.{flat_map}
use Rattle.std.proofs.lemmas.List.{map-append}
use Rattle.std.proofs.lemmas.List.Concat.{flat_map-cons}
use Rattle.text_lines.specs.Line.{text_of, text_of-append}
use Rattle.text_lines.specs.Writing.{WritesAllBut, WritesFront, WritesAllBut-more, WritesAllBut-trans, WritesFront-more, WritesFront-after, Appends-after}
use Rattle.serve_journal.specs.declared.entry.Entry.{Entry}
use Rattle.serve_journal.specs.EntryText.{entry_text}
use Rattle.resv_list.specs.declared.reservation.Reservation.{Reservation}
use Rattle.std.specs.Prelude.{Result, Ok, Err, OnOk, OnErr}
use Rattle.std.specs.Io.KnownBytes.{Appends}
use Rattle.text_lines.specs.declared.byte_in.CallFailed.{CallFailed}
use Rattle.text_lines.specs.Calls.{CountsFailure, next_count}
use Rattle.gateway_book.proofs.SavedText.{put_more, put_front}
use Rattle.serve_journal.specs.Journal.{Journal, Mast, Node}
use Rattle.serve_journal.specs.Lines.{end_line}
use Rattle.serve_journal.specs.Putting.{PutsAll}
use Rattle.serve_journal.specs.Renewal.{entries_text, sent_entry, gateway_entry, device_entry, queue_entries, sent_entries}
use Rattle.serve_journal.specs.Renewal.{clock_entry, head_line, renewal, renewal_text, parts_behind}

-- How a text is put part by part.

-- the text of an entry's line
abbrev pub line_text : Entry → List ℕ
line_text e = entry_text e ++ 10 ∷ []

pub each_line : {X : Type 0} (f : X → Entry) (x : X) (xs : List X)
    → entries_text (map f (x ∷ xs)) ≡ line_text (f x) ++ entries_text (map f xs)
each_line f x xs = sym (append_assoc (entry_text (f x)) (10 ∷ []) (entries_text (map f xs)))

pub entries_text-append : (a b : List Entry) → entries_text (a ++ b) ≡ entries_text a ++ entries_text b
entries_text-append a b = ap text_of (map-append entry_text a b) ∙ text_of-append (map entry_text a) (map entry_text b)

pub each_part : {X : Type 0} (f : X → List Entry) (x : X) (xs : List X)
    → entries_text (flat_map f (x ∷ xs)) ≡ entries_text (f x) ++ entries_text (flat_map f xs)
each_part f x xs = ap entries_text (flat_map-cons f x xs) ∙ entries_text-append (f x) (flat_map f xs)

module _ {X : Type 0} (whole_of : List X → List ℕ) (part : X → List ℕ)
    (cons : (x : X) (xs : List X) → whole_of (x ∷ xs) ≡ part x ++ whole_of xs) where
  next_part : (pending : List ℕ) (xs : List X) (i : ℕ) (x : X) → i < length xs → x ≡ get_or xs i x
      → pending ++ whole_of (drop i xs) ≡ (pending ++ part x) ++ whole_of (drop (i + 1) xs)
  next_part pending xs i x within at =
      let next : drop i xs ≡ x ∷ drop (i + 1) xs =
      rw add-one (drop-cons xs i x within ∙ ap (λ y. y ∷ drop (suc i) xs) (sym at)) in
      ap (λ l. pending ++ whole_of l) next ∙ ap (λ l. pending ++ l) (cons x (drop (i + 1) xs))
      ∙ sym (append_assoc pending (part x) (whole_of (drop (i + 1) xs)))

  -- one part more was put
  pub one_put : (a b c : Option (List ℕ)) (whole pending after : List ℕ) (xs : List X) (i : ℕ) (x : X) → i < length xs
      → x ≡ get_or xs i x → WritesAllBut a b whole (pending ++ whole_of (drop i xs)) → WritesAllBut b c (pending ++ part x) after
      → WritesAllBut a c whole (after ++ whole_of (drop (i + 1) xs))
  one_put a b c whole pending after xs i x within at so_far put =
      let P : List ℕ → Type 0 = λ l. WritesAllBut a b whole l in
      WritesAllBut-trans a b c whole ((pending ++ part x) ++ whole_of (drop (i + 1) xs)) (after ++ whole_of (drop (i + 1) xs))
      (subst P (next_part pending xs i x within at) so_far)
      (WritesAllBut-more b c (pending ++ part x) after (whole_of (drop (i + 1) xs)) put)

  -- of it a front was written
  pub front_put : (a b c : Option (List ℕ)) (whole pending : List ℕ) (xs : List X) (i : ℕ) (x : X) → i < length xs
      → x ≡ get_or xs i x → WritesAllBut a b whole (pending ++ whole_of (drop i xs)) → WritesFront b c (pending ++ part x)
      → WritesFront a c whole
  front_put a b c whole pending xs i x within at so_far front =
      let P : List ℕ → Type 0 = λ l. WritesAllBut a b whole l in
      WritesFront-after a b c whole ((pending ++ part x) ++ whole_of (drop (i + 1) xs))
      (subst P (next_part pending xs i x within at) so_far)
      (WritesFront-more b c (pending ++ part x) (whole_of (drop (i + 1) xs)) front)

-- the next member's line is ahead
member_ahead : (id : ℕ) (pending : List ℕ) (r : Reservation) (rest ahead : List Reservation) → ahead ≡ r ∷ rest
    → pending ++ entries_text (map (sent_entry id) ahead)
    ≡ (pending ++ line_text (sent_entry id r)) ++ entries_text (map (sent_entry id) rest)
member_ahead id pending r rest ahead next =
    ap (λ l. pending ++ entries_text (map (sent_entry id) l)) next ∙ ap (λ l. pending ++ l) (each_line (sent_entry id) r rest)
    ∙ sym (append_assoc pending (line_text (sent_entry id r)) (entries_text (map (sent_entry id) rest)))

pub member_put : (id : ℕ) (a b c : Option (List ℕ)) (whole pending after : List ℕ) (r : Reservation)
    (rest ahead : List Reservation) → ahead ≡ r ∷ rest
    → WritesAllBut a b whole (pending ++ entries_text (map (sent_entry id) ahead))
    → WritesAllBut b c (pending ++ line_text (sent_entry id r)) after
    → WritesAllBut a c whole (after ++ entries_text (map (sent_entry id) rest))
member_put id a b c whole pending after r rest ahead next so_far put =
    let P : List ℕ → Type 0 = λ l. WritesAllBut a b whole l in
    WritesAllBut-trans a b c whole ((pending ++ line_text (sent_entry id r)) ++ entries_text (map (sent_entry id) rest))
    (after ++ entries_text (map (sent_entry id) rest)) (subst P (member_ahead id pending r rest ahead next) so_far)
    (WritesAllBut-more b c (pending ++ line_text (sent_entry id r)) after (entries_text (map (sent_entry id) rest)) put)

pub member_front : (id : ℕ) (a b c : Option (List ℕ)) (whole pending : List ℕ) (r : Reservation)
    (rest ahead : List Reservation) → ahead ≡ r ∷ rest
    → WritesAllBut a b whole (pending ++ entries_text (map (sent_entry id) ahead))
    → WritesFront b c (pending ++ line_text (sent_entry id r)) → WritesFront a c whole
member_front id a b c whole pending r rest ahead next so_far front =
    let P : List ℕ → Type 0 = λ l. WritesAllBut a b whole l in
    WritesFront-after a b c whole ((pending ++ line_text (sent_entry id r)) ++ entries_text (map (sent_entry id) rest))
    (subst P (member_ahead id pending r rest ahead next) so_far)
    (WritesFront-more b c (pending ++ line_text (sent_entry id r)) (entries_text (map (sent_entry id) rest)) front)

-- a part behind what was put
pub puts_then : (a b c : Option (List ℕ)) (m n k : ℕ) (whole pending part gathered : List ℕ) (r : Result Unit CallFailed)
    → WritesAllBut a b whole pending × (n ≡ m) → PutsAll b c n k (pending ++ part) gathered r
    → PutsAll a c m k (whole ++ part) gathered r
puts_then a b c m n k whole pending part gathered (Ok u) first next =
    (put_more a b c whole pending part gathered first.0 next.0, next.1 ∙ first.1)
puts_then a b c m n k whole pending part gathered (Err f) first next =
    (put_front a b c whole pending part first.0 next.0, next.1 ∙ ap next_count first.1)

-- a part that wasn't put, since a call failed before it
pub puts_no_more : (a b : Option (List ℕ)) (m n : ℕ) (whole part : List ℕ) → WritesFront a b whole × (n ≡ next_count m)
    → WritesFront a b (whole ++ part) × (n ≡ next_count m)
puts_no_more a b m n whole part p = (WritesFront-more a b whole part p.0, p.1)

-- the parts are the whole
pub parts_whole : (gateways : List Mast) (devices : List Node)
    → parts_behind [] gateways devices ≡ renewal_text (record { gateways = gateways; devices = devices })
parts_whole gs ds =
    let a = entries_text (map gateway_entry gs) in
    let b = entries_text (map device_entry ds) in
    let d = entries_text (flat_map queue_entries ds) in
    let e = entries_text (flat_map sent_entries gs) in
    let f = entries_text (map clock_entry gs) in
    let parts : entries_text (renewal (record { gateways = gs; devices = ds })) ≡ a ++ (b ++ (d ++ (e ++ f))) =
    entries_text-append (map gateway_entry gs) _ ∙ ap (λ l. a ++ l)
    (entries_text-append (map device_entry ds) _ ∙ ap (λ l. b ++ l)
    (entries_text-append (flat_map queue_entries ds) _ ∙ ap (λ l. d ++ l)
    (entries_text-append (flat_map sent_entries gs) (map clock_entry gs)))) in
    regrouped head_line a b d e f (end_line ++ 10 ∷ [])
    ∙ ap (λ l. head_line ++ (10 ∷ (l ++ (end_line ++ 10 ∷ [])))) (sym parts)
  where
    regrouped : (h a b d e f z : List ℕ) → [] ++ (h ++ 10 ∷ []) ++ a ++ b ++ d ++ e ++ f ++ z
        ≡ h ++ (10 ∷ ((a ++ (b ++ (d ++ (e ++ f)))) ++ z))
    regrouped h a b d e f z = simp append_assoc

-- what is gathered is written behind what was put
pub record IsFlushed (a c : Option (List ℕ)) (m k : ℕ) (whole : List ℕ) (r : Result Unit CallFailed) : Type 0 where
  pub ok : OnOk r (Appends a c whole)
  pub err : OnErr r (WritesFront a c whole)
  pub failed : CountsFailure m k r

pub flushed : (a b c : Option (List ℕ)) (m n k : ℕ) (whole pending : List ℕ) (r : Result Unit CallFailed)
    → WritesAllBut a b whole pending × (n ≡ m) → OnOk r (Appends b c pending) → OnErr r (WritesFront b c pending)
    → CountsFailure n k r → IsFlushed a c m k whole r
flushed a b c m n k whole pending (Ok u) put ok err failed =
    record { ok = Appends-after a b c whole pending put.0 ok; err = tt; failed = failed ∙ put.1 }
flushed a b c m n k whole pending (Err f) put ok err failed =
    record { ok = tt; err = WritesFront-after a b c whole pending put.0 err; failed = failed ∙ ap next_count put.1 }

pub state_whole : (old : List ℕ) (gateways : List Mast) (devices : List Node) (j : Journal) → old ≡ [] → gateways ≡ j.gateways
    → devices ≡ j.devices → parts_behind old gateways devices ≡ renewal_text j
state_whole old gateways devices j none same too =
    ap (λ l. parts_behind l gateways devices) none ∙ ap (λ l. parts_behind [] l devices) same
    ∙ ap (λ l. parts_behind [] j.gateways l) too ∙ parts_whole j.gateways j.devices

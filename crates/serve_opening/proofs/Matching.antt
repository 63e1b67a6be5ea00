use Rattle.std.proofs.Common.{◌≡◌, ℕ, zero, suc, ◌+◌, ◌<◌, ◌≤◌, ◌++◌, ◌==◌, Bool, true, false, List, [], ◌∷◌, length, get_or, slice_get, drop, map}
use Rattle.std.proofs.Common.{Option, Some, None, refl, sym, ap, subst, ◌∙◌, All, add-one, append_assoc, append-nil, lit≤, arith}
use Rattle.std.proofs.lemmas.Bool.Decides.{nat_tests}
use Rattle.std.specs.List.{AllZip}
use Rattle.std.proofs.Math.ListN.{drop_of_length-le}
use Rattle.std.proofs.lemmas.List.{drop_more}
use Rattle.std.proofs.lemmas.List.Elements.{All-nil, All-cons}
use Rattle.gateway_book.specs.Answer.{Rules}
use Rattle.gateway_book.specs.Book.{Book}
use Rattle.server_desk.specs.declared.setting.GatewaySetting.{GatewaySetting}
use Rattle.server_desk.specs.World.{rules_of}
use Rattle.server_core.specs.Opened.{IsBookFor}
use Rattle.server_core.specs.Resumed.{HasNoNumbers}
use Rattle.serve_journal.specs.Journal.{Mast, Node}
use Rattle.serve_settings.specs.declared.forwarder.Forwarder.{Forwarder}
use Rattle.serve_opening.specs.Faults.{most_high}
use Rattle.serve_opening.specs.Gateways.{has_eui, known_by, others, matched, unmatched, high_as, high_of, highs, IsOpened, IsOpenedAs}
use Rattle.serve_opening.specs.Gateways.{IsRuled, Ruled, Kept, renumbered, setting_of}
use Rattle.serve_opening.specs.Devices.{DeviceSession}
use Rattle.serve_opening.specs.Notes.{notes_of}
use Rattle.serve_opening.proofs.Firsts.{All-without_first, All-find}
use Rattle.serve_opening.proofs.Silences.{bare_silenced}

-- Gateways and what the journal has of them, gateway by gateway.

first_behind : {X : Type 0} (xs : List X) (i : ℕ) → slice_get (drop i xs) 0 ≡ slice_get xs i
first_behind [] zero = refl
first_behind [] (suc i) = refl
first_behind (x ∷ xs) zero = refl
first_behind (x ∷ xs) (suc i) = first_behind xs i

behind_next : {X : Type 0} (xs : List X) (i : ℕ) → drop 1 (drop i xs) ≡ drop (suc i) xs
behind_next [] zero = refl
behind_next [] (suc i) = refl
behind_next (x ∷ xs) zero = refl
behind_next (x ∷ xs) (suc i) = behind_next xs i

next_behind : {X : Type 0} (xs : List X) (i : ℕ) → drop 1 (drop i xs) ≡ drop (i + 1) xs
next_behind xs i = rw add-one (behind_next xs i)

-- those from a place on are the one there and those from the next place on
pub matched_next : (gs : List GatewaySetting) (fs : List Forwarder) (ms : List Mast) (i : ℕ) (d : GatewaySetting) → i < length gs
    → matched (drop i gs) (drop i fs) ms
    ≡ (get_or gs i d, known_by (slice_get fs i) ms) ∷ matched (drop (i + 1) gs) (drop (i + 1) fs) (others (slice_get fs i) ms)
matched_next gs fs ms i d within = rw (drop_more gs i d within, first_behind fs i, next_behind fs i) refl

pub unmatched_next : (gs : List GatewaySetting) (fs : List Forwarder) (ms : List Mast) (i : ℕ) (d : GatewaySetting)
    → i < length gs
    → unmatched (drop i gs) (drop i fs) ms ≡ unmatched (drop (i + 1) gs) (drop (i + 1) fs) (others (slice_get fs i) ms)
unmatched_next gs fs ms i d within =
    ap (λ l. unmatched l (drop i fs) ms) (drop_more gs i d within)
    ∙ ap (λ o. unmatched (drop (i + 1) gs) (drop 1 (drop i fs)) (others o ms)) (first_behind fs i)
    ∙ ap (λ l. unmatched (drop (i + 1) gs) l (others (slice_get fs i) ms)) (next_behind fs i)

-- what a walk over the gateways keeps: what was opened so far, and what the rest opens with, is what all open with
pub record Opens (gs : List GatewaySetting) (fs : List Forwarder) (ms : List Mast) (place : ℕ) (opened : List Book) (told : List ℕ)
    (left : List Mast) : Type 0 where
  pub books : (more : List Book) → AllZip IsOpened (matched (drop place gs) (drop place fs) left) more
      → AllZip IsOpened (matched gs fs ms) (opened ++ more)
  pub clocks : told ++ highs (drop place gs) (drop place fs) left ≡ highs gs fs ms
  pub rest : unmatched (drop place gs) (drop place fs) left ≡ unmatched gs fs ms

pub opens_first : (gs : List GatewaySetting) (fs : List Forwarder) (ms : List Mast) → Opens gs fs ms 0 [] [] ms
opens_first gs fs ms = record { books = λ more z. z; clocks = refl; rest = refl }

pub opens_next : (gs : List GatewaySetting) (fs : List Forwarder) (ms : List Mast) (place : ℕ) (opened : List Book) (told : List ℕ)
    (left : List Mast) (d : GatewaySetting) (b : Book) → place < length gs → Opens gs fs ms place opened told left
    → IsOpenedAs (get_or gs place d) (known_by (slice_get fs place) left) b
    → Opens gs fs ms (place + 1) (opened ++ b ∷ []) (told ++ high_as (known_by (slice_get fs place) left) ∷ [])
    (others (slice_get fs place) left)
opens_next gs fs ms place opened told left d b within o is =
    let next = matched_next gs fs left place d within in
    let high = high_as (known_by (slice_get fs place) left) in
    record {
      books = λ more z.
          subst (AllZip IsOpened (matched gs fs ms)) (sym (append_assoc opened (b ∷ []) more))
          (o.books (b ∷ more) (subst (λ l. AllZip IsOpened l (b ∷ more)) (sym next) (is, z)));
      clocks = append_assoc told (high ∷ []) _ ∙ ap (λ l. told ++ map high_of l) (sym next) ∙ o.clocks;
      rest = sym (unmatched_next gs fs left place d within) ∙ o.rest;
    }

-- the same, of what a step answers
pub opens_step : (gs : List GatewaySetting) (fs : List Forwarder) (ms : List Mast) (place : ℕ) (opened later : List Book)
    (told after : List ℕ) (left rest : List Mast) (d : GatewaySetting) (known : Option Mast) (b : Book) (high : ℕ)
    → place < length gs → Opens gs fs ms place opened told left → known ≡ known_by (slice_get fs place) left
    → rest ≡ others (slice_get fs place) left → high ≡ high_as known → IsOpenedAs (get_or gs place d) known b
    → later ≡ opened ++ b ∷ [] → after ≡ told ++ high ∷ [] → Opens gs fs ms (place + 1) later after rest
opens_step gs fs ms place opened later told after left rest d known b high within o is_known is_rest is_high is more longer =
    let P : List Book → List ℕ → List Mast → Type 0 = Opens gs fs ms (place + 1) in
    let next = opens_next gs fs ms place opened told left d b within o (subst (λ k. IsOpenedAs (get_or gs place d) k b) is_known is) in
    let clock : high ≡ high_as (known_by (slice_get fs place) left) = is_high ∙ ap high_as is_known in
    subst (λ l. P later after l) (sym is_rest)
    (subst (λ l. P later l (others (slice_get fs place) left)) (sym (longer ∙ ap (λ n. told ++ n ∷ []) clock))
    (subst (λ l. P l (told ++ high_as (known_by (slice_get fs place) left) ∷ []) (others (slice_get fs place) left)) (sym more) next))

pub opens_all : (gs : List GatewaySetting) (fs : List Forwarder) (ms : List Mast) (place : ℕ) (opened : List Book) (told : List ℕ)
    (left : List Mast) → length gs ≤ place → Opens gs fs ms place opened told left
    → AllZip IsOpened (matched gs fs ms) opened × (told ≡ highs gs fs ms) × (left ≡ unmatched gs fs ms)
opens_all gs fs ms place opened told left past o =
    let none : drop place gs ≡ [] = drop_of_length-le gs past in (
      subst (AllZip IsOpened (matched gs fs ms)) (append-nil opened)
          (o.books [] (subst (λ l. AllZip IsOpened (matched l (drop place fs) left) []) (sym none) tt)),
      sym (append-nil told) ∙ ap (λ l. told ++ highs l (drop place fs) left) (sym none) ∙ o.clocks,
      ap (λ l. unmatched l (drop place fs) left) (sym none) ∙ o.rest,
    )

-- each book has its gateway's number
ruled_id : (rules : Rules) (b opened : Book) → IsRuled rules b opened → opened.id ≡ b.id
ruled_id rules b opened (Ruled may is) = ap (λ (x : Book). x.id) is
ruled_id rules b opened (Kept not is) = ap (λ (x : Book). x.id) is

renumbered_by : (id : ℕ) (b : Book) (t : Bool) → (b.id == id) ≡ t → (renumbered id b).id ≡ id
renumbered_by id b true e =
    let same : b.id ≡ id = grind (arith, nat_tests) in
    rw e same
renumbered_by id b false e = rw e refl

opened_id : (g : GatewaySetting) (o : Option Mast) (b : Book) → IsOpenedAs g o b → b.id ≡ g.id
opened_id g None b is = ap (λ (x : Book). x.id) is
opened_id g (Some m) b is =
    ap (λ (x : Book). x.id) is.silent
    ∙ ruled_id (rules_of g) (renumbered g.id m.book) is.book is.ruled
    ∙ renumbered_by g.id m.book (m.book.id == g.id) refl

pub same_ids : (gs : List GatewaySetting) (fs : List Forwarder) (ms : List Mast) (bs : List Book) → AllZip IsOpened (matched gs fs ms) bs
    → map (λ b. b.id) bs ≡ map (λ g. g.id) gs
same_ids [] fs ms [] a = refl
same_ids [] fs ms (b ∷ bs) a = absurd a
same_ids (g ∷ gs) fs ms [] a = absurd a
same_ids (g ∷ gs) fs ms (b ∷ bs) a =
    cc (opened_id g (known_by (slice_get fs 0) ms) b a.0, same_ids gs (drop 1 fs) (others (slice_get fs 0) ms) bs a.1)

-- no clock shows more than it may where none of the journal's does

abbrev IsEarly : Mast → Type 0
IsEarly m = m.high ≤ most_high

early_as : (o : Option Mast) → ((m : Mast) → o ≡ Some m → IsEarly m) → high_as o ≤ most_high
early_as None h = lit≤ tt
early_as (Some m) h = h m refl

early_known : (o : Option Forwarder) (ms : List Mast) → All IsEarly ms → (m : Mast) → known_by o ms ≡ Some m → IsEarly m
early_known None ms a m e = absurd (cc)
early_known (Some f) ms a m e = All-find (has_eui f.eui) IsEarly ms a m e

early_others : (o : Option Forwarder) (ms : List Mast) → All IsEarly ms → All IsEarly (others o ms)
early_others None ms a = a
early_others (Some f) ms a = All-without_first (has_eui f.eui) IsEarly ms a

pub all_early : (gs : List GatewaySetting) (fs : List Forwarder) (ms : List Mast) → All (λ m. m.high ≤ most_high) ms
    → All (λ h. h ≤ most_high) (highs gs fs ms)
all_early [] fs ms a = All-nil (λ h. h ≤ most_high)
all_early (g ∷ gs) fs ms a =
    All-cons (λ h. h ≤ most_high) (high_as (known_by (slice_get fs 0) ms)) _
    (early_as (known_by (slice_get fs 0) ms) (early_known (slice_get fs 0) ms a))
    (all_early gs (drop 1 fs) (others (slice_get fs 0) ms) (early_others (slice_get fs 0) ms a))

-- the gateways of books are set as these are
pub books_for : (bs : List Book) → AllZip IsBookFor (map setting_of bs) bs
books_for [] = tt
books_for (b ∷ bs) = (record { id = refl; rules = refl }, books_for bs)

-- the books' reservations have the number 0 where those of the journal's books have it

ruled_list : (rules : Rules) (b opened : Book) → IsRuled rules b opened → opened.list ≡ b.list
ruled_list rules b opened (Ruled may is) = ap (λ (x : Book). x.list) is
ruled_list rules b opened (Kept not is) = ap (λ (x : Book). x.list) is

renumbered_list : (id : ℕ) (b : Book) (t : Bool) → (b.id == id) ≡ t → (renumbered id b).list ≡ b.list
renumbered_list id b true e = rw e refl
renumbered_list id b false e = rw e refl

abbrev IsBare : Mast → Type 0
IsBare m = HasNoNumbers m.book

bare_opened : (g : GatewaySetting) (o : Option Mast) (b : Book) → IsOpenedAs g o b → ((m : Mast) → o ≡ Some m → IsBare m)
    → HasNoNumbers b
bare_opened g None b is h = subst (All (λ r. r.number ≡ 0)) (sym (ap (λ (x : Book). x.list) is)) (All-nil (λ r. r.number ≡ 0))
bare_opened g (Some m) b is h =
    let same =
    ruled_list (rules_of g) (renumbered g.id m.book) is.book is.ruled ∙ renumbered_list g.id m.book (m.book.id == g.id) refl in
    subst HasNoNumbers (sym is.silent) (bare_silenced is.book (subst (All (λ r. r.number ≡ 0)) (sym same) (h m refl)))

bare_known : (o : Option Forwarder) (ms : List Mast) → All IsBare ms → (m : Mast) → known_by o ms ≡ Some m → IsBare m
bare_known None ms a m e = absurd (cc)
bare_known (Some f) ms a m e = All-find (has_eui f.eui) IsBare ms a m e

bare_others : (o : Option Forwarder) (ms : List Mast) → All IsBare ms → All IsBare (others o ms)
bare_others None ms a = a
bare_others (Some f) ms a = All-without_first (has_eui f.eui) IsBare ms a

pub all_bare : (gs : List GatewaySetting) (fs : List Forwarder) (ms : List Mast) (bs : List Book)
    → AllZip IsOpened (matched gs fs ms) bs → All (λ m. HasNoNumbers m.book) ms → All HasNoNumbers bs
all_bare [] fs ms [] z a = All-nil HasNoNumbers
all_bare [] fs ms (b ∷ bs) z a = absurd z
all_bare (g ∷ gs) fs ms [] z a = absurd z
all_bare (g ∷ gs) fs ms (b ∷ bs) z a =
    All-cons HasNoNumbers b bs (bare_opened g (known_by (slice_get fs 0) ms) b z.0 (bare_known (slice_get fs 0) ms a))
    (all_bare gs (drop 1 fs) (others (slice_get fs 0) ms) bs z.1 (bare_others (slice_get fs 0) ms a))

-- the same parts make the same notes
pub same_notes : (gs gs_ os os_ : List GatewaySetting) (ms ms_ : List Mast) (ss ss_ : List DeviceSession) (ns ns_ : List Node)
    → gs ≡ gs_ → os ≡ os_ → ms ≡ ms_ → ss ≡ ss_ → ns ≡ ns_ → notes_of gs os ms ss ns ≡ notes_of gs_ os_ ms_ ss_ ns_
same_notes gs gs_ os os_ ms ms_ ss ss_ ns ns_ a b c d e =
    ap (λ x. notes_of x os ms ss ns) a ∙ ap (λ x. notes_of gs_ x ms ss ns) b ∙ ap (λ x. notes_of gs_ os_ x ss ns) c
    ∙ ap (λ x. notes_of gs_ os_ ms_ x ns) d ∙ ap (λ x. notes_of gs_ os_ ms_ ss_ x) e

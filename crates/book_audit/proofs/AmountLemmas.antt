-- Lemmas on what books have booked, against what a desk knows.
use Rattle.std.proofs.Common.{ℕ, suc, ◌≡◌, ◌≢◌, ◌+◌, ◌<◌, Bool, true, false, not, cond, if◌then◌else◌, List, [], ◌∷◌, map}
use Rattle.std.proofs.Common.{length, get_or, drop, drop-cons, add-one, refl, sym, ap, ◌∙◌, arith, unwrap_or, Option, Some, None}
use Rattle.std.specs.Prelude.{◌==◌, All, AllPairs, IsNone, filter, find}
use Rattle.std.proofs.lemmas.Bool.Decides.{nat_tests}
use Rattle.std.proofs.lemmas.List.Elements.{All-head, All-tail, All-cons, All-nil}
use Rattle.std.proofs.lemmas.List.Folds.{find-append, list_any_at}
use Rattle.std.specs.Option.{option_or}
use Rattle.server_desk.specs.Airtime.{answered_at, total_at}
use Rattle.server_desk.specs.Desk.{DeskView, total_of}
use Rattle.book_audit.specs.Audit.{Shelved, Amounts, are_apart, airtime_at, has_book, booked_by, books_of, of_books, of_others}
use Rattle.book_audit.specs.Audit.{all_amounts, HasWholeSum}
use Rattle.server_desk.specs.Register.{is_among}
use Rattle.book_audit.proofs.GatewaySums.{own, over, whole, all_over}

equal_one : (a : Amounts) → are_apart a ≡ false → a.1.0 ≡ a.1.1
equal_one a e = grind (arith, nat_tests, e)

-- the first that is apart, as a walk comes to it
pub first_of : {X : Type 0} (f : X → Amounts) (xs : List X) (i : ℕ) (x : X) → i < length xs → x ≡ get_or xs i x
    → find are_apart (map f (drop i xs)) ≡ cond (are_apart (f x)) (Some (f x)) (find are_apart (map f (drop (i + 1) xs)))
first_of f xs i x h e =
    let next : drop i xs ≡ x ∷ drop (i + 1) xs = rw add-one (drop-cons xs i x h ∙ ap (λ y. y ∷ drop (suc i) xs) (sym e)) in
    ap (λ l. find are_apart (map f l)) next

next_by : (desk : DeskView) (p : ℕ → Bool) (x : ℕ) (rest : List ℕ) (t : Bool) → p x ≡ t
    → find are_apart (of_others desk (filter p (x ∷ rest)))
    ≡ cond t (find are_apart (of_others desk (x ∷ filter p rest))) (find are_apart (of_others desk (filter p rest)))
next_by desk p x rest true q = rw q refl
next_by desk p x rest false q = rw q refl

-- the same of those that pass a test
pub next_of : (desk : DeskView) (p : ℕ → Bool) (ids : List ℕ) (i x : ℕ) → i < length ids → x ≡ get_or ids i x
    → find are_apart (of_others desk (filter p (drop i ids)))
    ≡ cond (p x) (find are_apart (of_others desk (x ∷ filter p (drop (i + 1) ids))))
    (find are_apart (of_others desk (filter p (drop (i + 1) ids))))
next_of desk p ids i x h e =
    let next : drop i ids ≡ x ∷ drop (i + 1) ids = rw add-one (drop-cons ids i x h ∙ ap (λ y. y ∷ drop (suc i) ids) (sym e)) in
    ap (λ l. find are_apart (of_others desk (filter p l))) next ∙ next_by desk p x (drop (i + 1) ids) (p x) refl

-- where none is apart, all are equal
none_by : (a : Amounts) (l : List Amounts) (t : Bool) → are_apart a ≡ t → find are_apart (a ∷ l) ≡ None
    → (are_apart a ≡ false) × (find are_apart l ≡ None)
none_by a l true q e = absurd (cc (q, e))
none_by a l false q e = (q, rw q at e)

pub all_equal : (l : List Amounts) → find are_apart l ≡ None → All (λ (a : Amounts). a.1.0 ≡ a.1.1) l
all_equal [] e = All-nil (λ (a : Amounts). a.1.0 ≡ a.1.1)
all_equal (a ∷ l) e =
    let n = none_by a l (are_apart a) refl e in
    All-cons (λ (a : Amounts). a.1.0 ≡ a.1.1) a l (equal_one a n.0) (all_equal l n.1)

pub books_equal : (desk : DeskView) (shelf : List Shelved) → find are_apart (of_books desk shelf) ≡ None
    → All (λ (s : Shelved). s.1.booked ≡ airtime_at desk s.0) shelf
books_equal desk [] e = All-nil (λ (s : Shelved). s.1.booked ≡ airtime_at desk s.0)
books_equal desk (s ∷ shelf) e =
    let n = none_by (s.0, (s.1.booked, airtime_at desk s.0)) (of_books desk shelf) _ refl e in
    All-cons (λ (s : Shelved). s.1.booked ≡ airtime_at desk s.0) s shelf
    (equal_one (s.0, (s.1.booked, airtime_at desk s.0)) n.0) (books_equal desk shelf n.1)

-- a gateway that has no book here has no settled airtime
others_by : (desk : DeskView) (p : ℕ → Bool) (x : ℕ) (ids : List ℕ) (t : Bool) → p x ≡ t
    → find are_apart (of_others desk (filter p (x ∷ ids))) ≡ None
    → (p x ≡ true → airtime_at desk x ≡ 0) × (find are_apart (of_others desk (filter p ids)) ≡ None)
others_by desk p x ids true q e =
    let n = none_by (x, (0, airtime_at desk x)) (of_others desk (filter p ids)) _ refl (rw q at e) in
    (λ h. sym (equal_one (x, (0, airtime_at desk x)) n.0), n.1)
others_by desk p x ids false q e = (λ h. absurd (cc (q, h)), rw q at e)

others_none : (desk : DeskView) (p : ℕ → Bool) (ids : List ℕ) → find are_apart (of_others desk (filter p ids)) ≡ None
    → All (λ i. p i ≡ true → airtime_at desk i ≡ 0) ids
others_none desk p [] e = All-nil (λ i. p i ≡ true → airtime_at desk i ≡ 0)
others_none desk p (x ∷ ids) e =
    let n = others_by desk p x ids (p x) refl e in
    All-cons (λ i. p i ≡ true → airtime_at desk i ≡ 0) x ids n.0 (others_none desk p ids n.1)

-- a walk over the books and then over the others is one over both
parted : (desk : DeskView) (shelf : List Shelved) → find are_apart (all_amounts desk shelf) ≡ None
    → (find are_apart (of_books desk shelf) ≡ None)
    × (find are_apart (of_others desk (filter (λ id. not (has_book shelf id)) desk.ids)) ≡ None)
parted desk shelf e =
    let others = of_others desk (filter (λ id. not (has_book shelf id)) desk.ids) in
    let whole = sym (find-append are_apart (of_books desk shelf) others) ∙ e in
    ends (find are_apart (of_books desk shelf)) (find are_apart others) whole where
      ends : (a b : Option Amounts) → option_or a b ≡ None → (a ≡ None) × (b ≡ None)
      ends None None q = (refl, refl)
      ends None (Some y) q = absurd (cc (q))
      ends (Some x) b q = absurd (cc (q))

-- the airtime of a gateway is that of its settled answers, if the desk has the gateway
airtime_by : (v : ℕ) (t : Bool) → unwrap_or (if t then Some v else None) 0 ≡ (if t then v else 0)
airtime_by v true = refl
airtime_by v false = refl

module _ (desk : DeskView) where
  abbrev settled : ℕ → ℕ
  settled id = answered_at id desk.known

  airtime_own : (g : ℕ) → airtime_at desk g ≡ own settled desk.ids g
  airtime_own g = airtime_by (settled g) (is_among desk.ids g)

  booked_over : (shelf : List Shelved) → All (λ (s : Shelved). s.1.booked ≡ airtime_at desk s.0) shelf
      → booked_by (books_of shelf) ≡ over settled desk.ids (map (λ (s : Shelved). s.0) shelf)
  booked_over [] a = refl
  booked_over (s ∷ shelf) a =
      omega (
        arith,
        All-head (λ (s : Shelved). s.1.booked ≡ airtime_at desk s.0) s shelf a,
        airtime_own s.0,
        booked_over shelf (All-tail (λ (s : Shelved). s.1.booked ≡ airtime_at desk s.0) s shelf a),
      )

  whole_of : (ids : List ℕ) → whole settled ids ≡ total_at ids desk.known
  whole_of [] = refl
  whole_of (id ∷ ids) = omega (arith, whole_of ids)

  has_by : (shelf : List Shelved) (id : ℕ) → has_book shelf id ≡ is_among (map (λ (s : Shelved). s.0) shelf) id
  has_by [] id = refl
  has_by (s ∷ shelf) id = cc (has_by shelf id)

  -- all books together have booked the airtime of all settled answers
  pub whole_sum : (shelf : List Shelved) → find are_apart (all_amounts desk shelf) ≡ None → AllPairs (λ a b. a ≢ b) desk.ids
      → total_at desk.ids desk.known ≡ total_of desk → HasWholeSum desk shelf
  whole_sum shelf e differ whole apart =
      let gs = map (λ (s : Shelved). s.0) shelf in
      let p = parted desk shelf e in
      let none = others_none desk (λ id. not (has_book shelf id)) desk.ids p.1 in
      let others : All (λ i. is_among gs i ≡ false → settled i ≡ 0) desk.ids = λ k d l q.
      let x = get_or desk.ids k d in
      let here : is_among desk.ids x ≡ true = list_any_at (λ z. z == x) desk.ids k d l (grind (arith, nat_tests)) in
      let bare : not (has_book shelf x) ≡ true = cc (has_by shelf x, q) in
      let own_x : own settled desk.ids x ≡ settled x = rw here refl in
      omega (arith, own_x, airtime_own x, none k d l bare) in
      booked_over shelf (books_equal desk shelf p.0)
      ∙ all_over settled desk.ids gs differ apart others ∙ whole_of desk.ids ∙ whole

-- the same of what a walk over the books, and behind it one over the others, found
module _ (desk : DeskView) (shelf : List Shelved) where
  both : find are_apart (all_amounts desk shelf) ≡ option_or (find are_apart (of_books desk shelf))
      (find are_apart (of_others desk (filter (λ id. not (has_book shelf id)) desk.ids)))
  both = find-append are_apart (of_books desk shelf) _

  pub in_books : (a : Amounts) → Some a ≡ find are_apart (of_books desk shelf)
      → Some a ≡ find are_apart (all_amounts desk shelf)
  in_books a e = rw (both, ← e) refl

  module _ (ids : List ℕ) (same : ids ≡ desk.ids) (o : Option Amounts) (e : None ≡ find are_apart (of_books desk shelf))
      (f : o ≡ find are_apart (of_others desk (filter (λ id. not (has_book shelf id)) ids))) where
    pub in_others : o ≡ find are_apart (all_amounts desk shelf)
    in_others =
        rw (both, ← e) (f ∙ ap (λ l. find are_apart (of_others desk (filter (λ id. not (has_book shelf id)) l))) same)

    pub in_none : IsNone o → find are_apart (all_amounts desk shelf) ≡ None
    in_none h = sym in_others ∙ nothing o h where
      nothing : (o : Option Amounts) → IsNone o → o ≡ None
      nothing None h = refl
      nothing (Some a) h = absurd (cc (h))

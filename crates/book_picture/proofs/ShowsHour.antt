use Rattle.std.specs.Prelude.{ℕ, ◌≡◌, ◌+◌, Bool, true, false, List, [], ◌∷◌, ◌++◌, map, filter, cond}
use Rattle.std.specs.Prelude.{Contains}
use Rattle.std.proofs.Common.{refl, ap, ◌∙◌, arith, append-nil, zero, suc, get_or}
use Rattle.std.proofs.lemmas.Bool.{le-leb, lt-ltb}
use Rattle.std.proofs.lemmas.List.Elements.{filter-append, filter_passes, All-filter, All-contains, All-contains_itself}
use Rattle.radio_bands.specs.Band.{hour}
use Rattle.radio_bands.specs.declared.band.Band.{Band}
use Rattle.resv_list.specs.declared.reservation.Reservation.{Reservation}
use Rattle.gateway_book.specs.Book.{Book}
use Rattle.gateway_book.specs.Duty.{is_within_hour}
use Rattle.book_picture.specs.Fixed.{style_lines, frame_lines, end_line}
use Rattle.book_picture.specs.Hour.{members_of_hour}
use Rattle.book_picture.proofs.HourLemmas.{begins}
use Rattle.book_picture.specs.Laws.{is_mark, BeginsIn, PictureShowsHour}
use Rattle.book_picture.specs.Lines.{mark_line, mark_lines, row_lines, lower_rows, upper_rows, floor_by, floor_lines, opening_lines, head_lines}
use Rattle.book_picture.specs.Lines.{picture_lines}

-- No line of a picture is a mark but those of the transmissions of the hour.

none_in_both : (x y : List (List ℕ)) → filter is_mark x ≡ [] → filter is_mark y ≡ [] → filter is_mark (x ++ y) ≡ []
none_in_both x y e f = filter-append is_mark x y ∙ (rw (e, f) refl)

none_in_style : filter is_mark style_lines ≡ []
none_in_style = refl

none_in_frame : filter is_mark frame_lines ≡ []
none_in_frame = refl

none_at_floor : (floor t : ℕ) → filter is_mark (floor_lines floor t) ≡ []
none_at_floor floor t = floor_none (is_within_hour floor t)
  where
    floor_none : (b : Bool) → filter is_mark (floor_by b floor t) ≡ []
    floor_none true = refl
    floor_none false = refl

none_in_opening : (id floor t : ℕ) → filter is_mark (opening_lines id floor t) ≡ []
none_in_opening id floor t = none_at_floor floor t

none_in_row : (l : List Reservation) (t : ℕ) (band : Band) → filter is_mark (row_lines l t band) ≡ []
none_in_row l t band = refl

none_in_lower : (l : List Reservation) (t : ℕ) → filter is_mark (lower_rows l t) ≡ []
none_in_lower l t = refl

none_in_upper : (l : List Reservation) (t : ℕ) → filter is_mark (upper_rows l t) ≡ []
none_in_upper l t = refl

none_in_head : (b : Book) (t : ℕ) → filter is_mark (head_lines b t) ≡ []
none_in_head b t =
    none_in_both (opening_lines b.id b.floor t ++ (style_lines ++ frame_lines)) (lower_rows b.list t ++ upper_rows b.list t)
    (none_in_both (opening_lines b.id b.floor t) (style_lines ++ frame_lines) (none_in_opening b.id b.floor t)
    (none_in_both style_lines frame_lines none_in_style none_in_frame))
    (none_in_both (lower_rows b.list t) (upper_rows b.list t) (none_in_lower b.list t) (none_in_upper b.list t))

all_marks : (t : ℕ) (l : List Reservation) → filter is_mark (map (mark_line t) l) ≡ map (mark_line t) l
all_marks t [] = refl
all_marks t (r ∷ rs) = ap (λ ls. mark_line t r ∷ ls) (all_marks t rs)

pub marks_alone : (b : Book) (t : ℕ) → filter is_mark (picture_lines b t) ≡ map (mark_line t) (members_of_hour b.list t)
marks_alone b t =
    filter-append is_mark (head_lines b t ++ mark_lines b.list t) (end_line ∷ [])
    ∙ append-nil (filter is_mark (head_lines b t ++ mark_lines b.list t))
    ∙ filter-append is_mark (head_lines b t) (mark_lines b.list t)
    ∙ ap (λ ls. ls ++ filter is_mark (mark_lines b.list t)) (none_in_head b t)
    ∙ all_marks t (members_of_hour b.list t)

-- and each of these is one of them
within : (t : ℕ) (r : Reservation) → BeginsIn t r → is_within_hour r.start t ≡ true
within t r b = rw (le-leb t r.start b.0, lt-ltb r.start (t + hour) b.1) refl

-- a member that passes a test is one of those that do
found_too : {X : Type 0} (test : X → Bool) (x y : X) (xs : List X) (t : Bool) → test x ≡ t → test y ≡ true → Contains (x ∷ xs) y
    → (Contains xs y → Contains (filter test xs) y) → Contains (cond t (x ∷ filter test xs) (filter test xs)) y
found_too test x y xs true e p (zero, h, g) rest = (zero, omega arith, g)
found_too test x y xs true e p (suc k, h, g) rest = let r = rest (k, omega arith, g) in (suc r.0, omega (arith, r.1), r.2)
found_too test x y xs false e p (zero, h, g) rest = let same : x ≡ y = g in absurd (cc (ap test same))
found_too test x y xs false e p (suc k, h, g) rest = rest (k, omega arith, g)

passes_too : {X : Type 0} (test : X → Bool) (y : X) (xs : List X) → test y ≡ true → Contains xs y → Contains (filter test xs) y
passes_too test y [] p h = absurd (omega (arith, h.1))
passes_too test y (x ∷ xs) p h = found_too test x y xs (test x) refl p h (passes_too test y xs p)

still_there : {X : Type 0} (test : X → Bool) (y : X) (xs : List X) → Contains (filter test xs) y → Contains xs y
still_there test y xs has =
    All-contains (Contains xs) (filter test xs) y (All-filter test (Contains xs) xs (All-contains_itself xs)) has

pub shows_hour : PictureShowsHour
shows_hour b t =
    let test : Reservation → Bool = λ r. is_within_hour r.start t in
    record {
      marks = marks_alone b t;
      begin = λ k r h. begins t (get_or (members_of_hour b.list t) k r) (filter_passes test b.list k r h);
      each = λ r has in_hour. passes_too test r b.list (within t r in_hour) has;
      kept = λ r has. still_there test r b.list has;
    }

use Rattle.std.specs.Prelude.{ℕ, ◌≡◌, ◌+◌, ◌<◌, ◌∷◌, [], List, max, nat_lt, Bool, true, false, cond}
use Rattle.std.proofs.Common.{refl, arith, ap, sym, ◌∙◌}
use Rattle.radio_bands.specs.declared.band.Band.{Band}
use Rattle.resv_list.specs.declared.reservation.Reservation.{Reservation}
use Rattle.resv_list.specs.Reservations.{airtime_in, place}
use Rattle.resv_list.specs.Sorted.{place_by}
use Rattle.resv_tree.specs.declared.entry.Entry.{Entry}
use Rattle.resv_tree.specs.declared.kept.Kept.{Kept}
use Rattle.resv_tree.specs.Entries.{key_of, members, own_in}
use Rattle.resv_tree.specs.Sums.{sum_in, quarters_in}
use Rattle.resv_tree.specs.Shape.{Shape, Leaf, entries, members_of, height_of, count_of, greatest_of, kept_sum}
use Rattle.resv_tree.specs.Shape.{IsWhole, IsKept, IsLevel, HasSides}
use Rattle.resv_tree.specs.Parts.{IsMadeOf, LacksOne}
use Rattle.resv_tree.proofs.TotalLemmas.{total_in, total_in-cons}
use Rattle.resv_tree.proofs.SumLemmas.{kept_sum-total, airtime_in-short}
use Rattle.resv_tree.proofs.ShapeLemmas.{count_bounds_sum}
use Rattle.resv_tree.proofs.OwedLemmas.{entries-members, greatest_is_most}
use Rattle.resv_tree.proofs.OwnLemmas.{members-place}
use Rattle.resv_tree.proofs.EntryLemmas.{most_own}

-- Trees with one entry more.

total_in-place : (band : Band) (r : Reservation) (l : List Reservation)
    → total_in band (place r l) ≡ airtime_in band r + total_in band l
total_in-place band r [] = total_in-cons band r []
total_in-place band r (y ∷ ys) = by (nat_lt y.start r.start) (total_in-place band r ys)
  where
    by : (t : Bool) → total_in band (place r ys) ≡ airtime_in band r + total_in band ys
        → total_in band (cond t (y ∷ place r ys) (r ∷ y ∷ ys)) ≡ airtime_in band r + total_in band (y ∷ ys)
    by true rest = omega (arith, total_in-cons band y (place r ys), total_in-cons band y ys, rest)
    by false rest = total_in-cons band r (y ∷ ys)

most_own-place : (band : Band) (x : Entry) (es : List Entry)
    → most_own band (place_by key_of x es) ≡ max (own_in band x) (most_own band es)
most_own-place band x [] = refl
most_own-place band x (y ∷ ys) = by (nat_lt (key_of y) (key_of x)) (most_own-place band x ys)
  where
    by : (t : Bool) → most_own band (place_by key_of x ys) ≡ max (own_in band x) (most_own band ys)
        → most_own band (cond t (y ∷ place_by key_of x ys) (x ∷ y ∷ ys)) ≡ max (own_in band x) (most_own band (y ∷ ys))
    by true rest = omega (arith, rest)
    by false rest = refl

module _ (s t : Shape) (x : Entry) (v : IsWhole s) (w : IsWhole t) (placed : entries t ≡ place_by key_of x (entries s))
    (band : Band) where
  grown_sum : kept_sum t band ≡ kept_sum s band + airtime_in band x.reservation
  grown_sum =
      let same : members_of t ≡ place x.reservation (members_of s) =
      sym (entries-members t) ∙ ap members placed ∙ members-place x (entries s)
      ∙ ap (place x.reservation) (entries-members s) in
      omega (
        arith,
        kept_sum-total t band w,
        kept_sum-total s band v,
        ap (total_in band) same,
        total_in-place band x.reservation (members_of s),
      )

  grown_most : greatest_of t band ≡ max (greatest_of s band) (own_in band x)
  grown_most =
      omega (
        arith,
        greatest_is_most t band w,
        greatest_is_most s band v,
        ap (most_own band) placed,
        most_own-place band x (entries s),
      )

-- what a node keeps lacks the entry that was placed on one of its sides
module _ {t l r s : Shape} {e : Entry} {k : Kept} (x : Entry) {f g : Band → ℕ} (made : IsMadeOf t l e r)
    (kept : IsKept l e r k) (greatest : (band : Band) → quarters_in k.greatest band ≡ greatest_of t band)
    (airtime : (band : Band) → f band ≡ airtime_in band x.reservation) (own : (band : Band) → g band ≡ own_in band x)
    (whole : IsWhole s) where
  pub lacks_left : entries s ≡ place_by key_of x (entries l) → count_of s ≡ count_of l + 1 → LacksOne k s e r f g
  lacks_left placed count = record {
    count = omega (arith, kept.count, count);
    sums = λ band. omega (arith, kept.sums band, airtime band, grown_sum l s x made.left whole placed band);
    greatest = λ band. omega (
      arith,
      greatest band,
      made.greatest band,
      own band,
      grown_most l s x made.left whole placed band,
    );
  }

  pub lacks_right : entries s ≡ place_by key_of x (entries r) → count_of s ≡ count_of r + 1 → LacksOne k l e s f g
  lacks_right placed count = record {
    count = omega (arith, kept.count, count);
    sums = λ band. omega (arith, kept.sums band, airtime band, grown_sum r s x made.right whole placed band);
    greatest = λ band. omega (
      arith,
      greatest band,
      made.greatest band,
      own band,
      grown_most r s x made.right whole placed band,
    );
  }

-- what lacks one entry has room for it
pub grown_fits : {k : Kept} {l r : Shape} {e : Entry} {f g : Band → ℕ} → IsWhole l → IsWhole r → LacksOne k l e r f g
    → count_of l + count_of r < 65536 → (band : Band) → sum_in k.sums band + f band < 549755813888
grown_fits {k} {l} {r} {e} v w lacks room band =
    omega (
      arith,
      lacks.sums band,
      airtime_in-short band e.reservation,
      count_bounds_sum l band v,
      count_bounds_sum r band w,
      room,
    )

-- and once it is taken in, what is kept follows from the sides
pub grown_sides : {k j : Kept} {l r : Shape} {e : Entry} {f g : Band → ℕ} → IsWhole l → IsWhole r → IsLevel l r
    → LacksOne k l e r f g → j.height ≡ max (height_of l) (height_of r) + 1 → j.left_height ≡ height_of l
    → j.right_height ≡ height_of r → j.count ≡ k.count + 1 → ((band : Band) → sum_in j.sums band ≡ sum_in k.sums band + f band)
    → HasSides j l e r
grown_sides {k} {j} {l} {r} {e} v w level lacks height left right count sums = record {
  level = level;
  height = height;
  left_height = left;
  right_height = right;
  count = omega (arith, count, lacks.count);
  sums = λ band. omega (arith, sums band, lacks.sums band);
  short = λ band. omega (
    arith,
    sums band,
    count,
    lacks.sums band,
    lacks.count,
    airtime_in-short band e.reservation,
    count_bounds_sum l band v,
    count_bounds_sum r band w,
  );
}

-- what is kept of one entry alone
pub lone_sides : {j : Kept} {e : Entry} {airtime : Band → ℕ} → j.height ≡ 1 → j.left_height ≡ 0 → j.right_height ≡ 0
    → j.count ≡ 1 → ((band : Band) → sum_in j.sums band ≡ airtime band)
    → ((band : Band) → airtime band ≡ airtime_in band e.reservation) → HasSides j Leaf e Leaf
lone_sides {j} {e} height left right count sums own = record {
  level = (omega arith, omega arith);
  height = height;
  left_height = left;
  right_height = right;
  count = count;
  sums = λ band. omega (arith, sums band, own band);
  short = λ band. omega (arith, sums band, own band, count, airtime_in-short band e.reservation);
}

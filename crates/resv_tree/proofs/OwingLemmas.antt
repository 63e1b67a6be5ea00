use Rattle.std.specs.Prelude.{ℕ, ◌≡◌, ◌≢◌, ◌+◌, ◌-◌, ◌<◌, ◌≤◌, max, Bool, true, false, ◌∷◌, ◌++◌, cond}
use Rattle.std.specs.Prelude.{Option, Box}
use Rattle.std.proofs.Common.{refl, arith, sym, ap, ◌∙◌, subst}
use Rattle.radio_airtime.specs.Bounds.{airtime_of-positive}
use Rattle.radio_bands.specs.declared.band.Band.{Band}
use Rattle.resv_list.specs.Reservations.{is_in, airtime_us, airtime_in}
use Rattle.resv_tree.specs.declared.entry.Entry.{Entry}
use Rattle.resv_tree.specs.declared.kept.Kept.{Kept}
use Rattle.resv_tree.specs.Entries.{Each, amount, moved, CanMove}
use Rattle.resv_tree.specs.declared.sums.Sums.{Sums}
use Rattle.resv_tree.specs.Sums.{sum_in, quarters_in}
use Rattle.resv_tree.specs.Shape.{Shape, Fork, entries, greatest_of, top_of, kept_sum}
use Rattle.resv_tree.specs.Shape.{IsWhole, IsKept, HasSides}
use Rattle.resv_tree.specs.Parts.{IsMadeOf, IsMoved}
use Rattle.resv_tree.specs.declared.node.Node.{Node, out-Node, roll-Node}
use Rattle.resv_tree.specs.Shape.{shape, shape_of, kept_of}
use Rattle.resv_tree.proofs.ShapeLemmas.{shape-out, shape-roll}
use Rattle.resv_tree.proofs.EntryLemmas.{each-left, each-right, own_here}
use Rattle.resv_tree.proofs.EntryLemmas.{banded, amount_at, own_same, each-with, each-of-map, map-same}
use Rattle.resv_tree.proofs.EntryLemmas.{map-map}
use Rattle.resv_tree.proofs.EntryLemmas.{each_there}
use Rattle.resv_tree.proofs.OwedLemmas.{covered_settled, idle_of, made_of-Fork, parts_total, parts_within}

-- A top that owes so much more, and then so much less.

-- one entry below it
moved_twice : (g m h more less : Band → ℕ) (there : Band → ℕ) (x : Entry)
    → ((band : Band) → there band ≢ 0 → h band ≡ g band + more band - less band)
    → 0 < amount there x.reservation → x.own ≤ amount m x.reservation → CanMove g m x
    → moved h m x ≡ moved more less (moved g m x)
moved_twice g m h more less there x some is within covered =
    let b = banded x.reservation in
    let e = some b.band (λ z. absurd (omega (arith, z, is, amount_at there x.reservation b))) in
    own_same x _ _ (omega (
      arith,
      within,
      covered,
      e,
      amount_at g x.reservation b,
      amount_at m x.reservation b,
      amount_at h x.reservation b,
      amount_at more x.reservation b,
      amount_at less x.reservation b,
    ))

covered_again : (g m h more less : Band → ℕ) (there : Band → ℕ) (x : Entry)
    → ((band : Band) → there band ≢ 0 → h band ≡ g band + more band - less band)
    → 0 < amount there x.reservation → CanMove g m x → CanMove more less (moved g m x) → CanMove h m x
covered_again g m h more less there x some is covered can =
    let b = banded x.reservation in
    let e = some b.band (λ z. absurd (omega (arith, z, is, amount_at there x.reservation b))) in
    omega (
      arith,
      covered,
      can,
      e,
      amount_at g x.reservation b,
      amount_at m x.reservation b,
      amount_at h x.reservation b,
      amount_at more x.reservation b,
      amount_at less x.reservation b,
    )

parts_there : (l r : Shape) (e : Entry) (k : Kept) → IsWhole (Fork l e r k)
    → Each (λ x. 0 < amount (sum_in k.sums) x.reservation) (entries l ++ e ∷ entries r)
parts_there l r e k w =
    each_there (sum_in k.sums) (entries l ++ e ∷ entries r) (λ band. omega (arith, parts_total l r e k band w))

-- what a top keeps that owes that
pub record Owes (k h : Kept) (more less : Band → ℕ) : Type 0 where
  pub height : h.height ≡ k.height
  pub left_height : h.left_height ≡ k.left_height
  pub right_height : h.right_height ≡ k.right_height
  pub count : h.count ≡ k.count
  pub owes : h.owes ≡ true
  pub sums : (band : Band) → sum_in h.sums band ≡ sum_in k.sums band
  pub some : (band : Band) → sum_in k.sums band ≢ 0
      → quarters_in h.greatest band ≡ quarters_in k.greatest band + more band - less band
  pub none : (band : Band) → sum_in k.sums band ≡ 0 → quarters_in h.greatest band ≡ 0

pub moved-owing : (l r : Shape) (e : Entry) (k h : Kept) (more less : Band → ℕ) → IsWhole (Fork l e r k) → Owes k h more less
    → Each (CanMove more less) (entries (Fork l e r k)) → IsMoved (Fork l e r h) (Fork l e r k) more less
moved-owing l r e k h more less w o c =
    let g = quarters_in k.greatest in
    let m = top_of l e r in
    let es = entries l ++ e ∷ entries r in
    let there = parts_there l r e k w in
    let within = parts_within l r e k w in
    let can = each-of-map (CanMove more less) (moved g m) es c in
    let P = λ (x : Entry). (0 < amount (sum_in k.sums) x.reservation) × CanMove g m x in
    let both = each-with (λ x. 0 < amount (sum_in k.sums) x.reservation) (CanMove g m) P (λ x a b. (a, b)) es there w.2.covered in
    let same = each-with (λ x. x.own ≤ amount m x.reservation) P
    (λ x. moved (quarters_in h.greatest) m x ≡ moved more less (moved g m x))
    (λ x a b. moved_twice g m (quarters_in h.greatest) more less (sum_in k.sums) x o.some b.0 a b.1) es within both in
    let again = each-with (λ x. CanMove more less (moved g m x)) P (CanMove (quarters_in h.greatest) m)
    (λ x a b. covered_again g m (quarters_in h.greatest) more less (sum_in k.sums) x o.some b.0 b.1 a) es can both in
    record {
      entries = map-same (moved (quarters_in h.greatest) m) (λ x. moved more less (moved g m x)) es same
          ∙ sym (map-map (moved more less) (moved g m) es);
      count = o.count;
      height = o.height;
      sums = o.sums;
      some = o.some;
      none = o.none;
      whole = (
        w.0,
        w.1,
        record {
          level = w.2.level;
          height = o.height ∙ w.2.height;
          left_height = o.left_height ∙ w.2.left_height;
          right_height = o.right_height ∙ w.2.right_height;
          count = o.count ∙ w.2.count;
          sums = λ band. o.sums band ∙ w.2.sums band;
          short = λ band. omega (arith, o.sums band, o.count, w.2.short band);
          idle = λ band z. o.none band (omega (arith, o.sums band, z));
          settled = λ f. absurd (cc (o.owes, f));
          covered = again;
        },
      );
    }

-- A node that is made.

-- where nothing is below it, its greatest is 0
idle_top : (l r : Shape) (e : Entry) (band : Band) → IsWhole l → IsWhole r
    → kept_sum l band + airtime_in band e.reservation + kept_sum r band ≡ 0 → top_of l e r band ≡ 0
idle_top l r e band v w z = by (is_in band e.reservation) z
  where
    by : (t : Bool) → kept_sum l band + cond t (airtime_us e.reservation) 0 + kept_sum r band ≡ 0
        → max (cond t e.own 0) (max (greatest_of l band) (greatest_of r band)) ≡ 0
    by true s = absurd (omega (arith, s, airtime_of-positive e.reservation.rate e.reservation.len))
    by false s = omega (arith, idle_of l band v (omega (arith, s)), idle_of r band w (omega (arith, s)))

pub whole-Fork : (l r : Shape) (e : Entry) (k : Kept) → IsWhole l → IsWhole r → HasSides k l e r
    → ((band : Band) → quarters_in k.greatest band ≡ top_of l e r band) → IsWhole (Fork l e r k)
whole-Fork l r e k v w c top = (
  v,
  w,
  record {
    level = c.level;
    height = c.height;
    left_height = c.left_height;
    right_height = c.right_height;
    count = c.count;
    sums = c.sums;
    short = c.short;
    idle = λ band z. top band ∙ idle_top l r e band v w (sym (c.sums band) ∙ z);
    settled = λ o. top;
    covered = covered_settled l r e (quarters_in k.greatest) top;
  },
)

-- What is asked where it is handed down.

pub covered_left : (l r : Shape) (e : Entry) (k : Kept) (f g : Band → ℕ) → f ≡ quarters_in k.greatest → g ≡ top_of l e r
    → IsKept l e r k → Each (CanMove f g) (entries l)
covered_left l r e k f g p q kept =
    subst (λ h. Each (CanMove h g) (entries l)) (sym p)
    (subst (λ h. Each (CanMove (quarters_in k.greatest) h) (entries l)) (sym q)
    (each-left (CanMove (quarters_in k.greatest) (top_of l e r)) (entries l) e (entries r) kept.covered))

pub covered_right : (l r : Shape) (e : Entry) (k : Kept) (f g : Band → ℕ) → f ≡ quarters_in k.greatest → g ≡ top_of l e r
    → IsKept l e r k → Each (CanMove f g) (entries r)
covered_right l r e k f g p q kept =
    subst (λ h. Each (CanMove h g) (entries r)) (sym p)
    (subst (λ h. Each (CanMove (quarters_in k.greatest) h) (entries r)) (sym q)
    (each-right (CanMove (quarters_in k.greatest) (top_of l e r)) (entries l) e (entries r) kept.covered).1)

pub own_in_top : (l r : Shape) (e : Entry) (g : Band → ℕ) → g ≡ top_of l e r → e.own ≤ amount g e.reservation
own_in_top l r e g q =
    let b = banded e.reservation in
    let top : g b.band ≡ top_of l e r b.band = ap (λ (h : Band → ℕ). h b.band) q in
    omega (arith, amount_at g e.reservation b, own_here e b.band b.holds, top)

-- what it keeps once its top is written
abbrev pub owing : Kept → Sums → Kept
owing k greatest =
    record {
      height = k.height;
      left_height = k.left_height;
      right_height = k.right_height;
      count = k.count;
      owes = true;
      sums = k.sums;
      greatest = greatest;
    }

-- what it keeps once that is written anew
abbrev pub anew : Kept → Sums → Kept
anew k greatest =
    record {
      height = k.height;
      left_height = k.left_height;
      right_height = k.right_height;
      count = k.count;
      owes = false;
      sums = k.sums;
      greatest = greatest;
    }

pub sides_anew : {k : Kept} {l r : Shape} {e : Entry} → HasSides k l e r → (greatest : Sums) → HasSides (anew k greatest) l e r
sides_anew h greatest = record {
  level = h.level;
  height = h.height;
  left_height = h.left_height;
  right_height = h.right_height;
  count = h.count;
  sums = h.sums;
  short = h.short;
}

owes-owing : (k : Kept) (greatest : Sums) (more less : Band → ℕ)
    → ((band : Band) → sum_in k.sums band ≢ 0 → quarters_in greatest band ≡ quarters_in k.greatest band + more band - less band)
    → ((band : Band) → sum_in k.sums band ≡ 0 → quarters_in greatest band ≡ 0) → Owes k (owing k greatest) more less
owes-owing k greatest more less some none = record {
  height = refl;
  left_height = refl;
  right_height = refl;
  count = refl;
  owes = refl;
  sums = λ band. refl;
  some = some;
  none = none;
}

module _ {A : Type 0} where
  -- the node whose top is written
  pub moved-node : (n m : Node A) (greatest : Sums) (t : Shape) (more less : Band → ℕ) → m ≡ n → t ≡ shape n → IsWhole t
      → ((band : Band) → sum_in (kept_of m).sums band ≢ 0
      → quarters_in greatest band ≡ quarters_in (kept_of m).greatest band + more band - less band)
      → ((band : Band) → sum_in (kept_of m).sums band ≡ 0 → quarters_in greatest band ≡ 0)
      → Each (CanMove more less) (entries t)
      → IsMoved (shape (roll-Node A record {
        left = (out-Node A n).left;
        entry = (out-Node A n).entry;
        right = (out-Node A n).right;
        kept = owing (kept_of m) greatest;
      })) t more less
  moved-node n m greatest t more less p is w some none c =
      let h = owing (kept_of m) greatest in
      let same = is ∙ shape-out n in
      let new = shape-roll (out-Node A n).left (out-Node A n).right (out-Node A n).entry h in
      let whole = subst IsWhole same w in
      let covered = subst (λ s. Each (CanMove more less) (entries s)) same c in
      let owes = subst (λ o. Owes (kept_of o) h more less) p (owes-owing (kept_of m) greatest more less some none) in
      subst (λ s. IsMoved s t more less) (sym new)
      (subst (λ s. IsMoved (Fork (shape_of (out-Node A n).left) (out-Node A n).entry
      (shape_of (out-Node A n).right) h) s more less)
      (sym same) (moved-owing _ _ _ (kept_of n) h more less whole owes covered))

  -- the node that is made of two sides and an entry
  pub made-node : (l r : Option (Box (Node A) A)) (e f : Entry) (k : Kept) → e ≡ f → IsWhole (shape_of l) → IsWhole (shape_of r)
      → HasSides k (shape_of l) e (shape_of r)
      → ((band : Band) → quarters_in k.greatest band ≡ top_of (shape_of l) e (shape_of r) band)
      → IsMadeOf (shape (roll-Node A record { left = l; entry = e; right = r; kept = k })) (shape_of l) f (shape_of r)
  made-node l r e f k same v w c top =
      subst (λ x. IsMadeOf (shape (roll-Node A record { left = l; entry = e; right = r; kept = k })) (shape_of l) x
      (shape_of r)) same
      (subst (λ t. IsMadeOf t (shape_of l) e (shape_of r)) (sym (shape-roll l r e k))
      (made_of-Fork (shape_of l) (shape_of r) e k (whole-Fork (shape_of l) (shape_of r) e k v w c top) top))

  pub whole-node : (l r : Option (Box (Node A) A)) (e : Entry) (k : Kept) → IsWhole (shape_of l) → IsWhole (shape_of r)
      → HasSides k (shape_of l) e (shape_of r)
      → ((band : Band) → quarters_in k.greatest band ≡ top_of (shape_of l) e (shape_of r) band)
      → IsWhole (shape (roll-Node A record { left = l; entry = e; right = r; kept = k }))
  whole-node l r e k v w c top =
      subst IsWhole (sym (shape-roll l r e k)) (whole-Fork (shape_of l) (shape_of r) e k v w c top)

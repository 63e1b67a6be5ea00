use Rattle.std.specs.Prelude.{ℕ, ◌≡◌, ◌+◌, ◌-◌, ◌≤◌, max, Bool, true, false, ◌∷◌, ◌++◌, map, cond}
use Rattle.std.proofs.Common.{refl, arith, zero, suc, sym, ap, ◌∙◌, subst}
use Rattle.radio_bands.specs.declared.band.Band.{Band}
use Rattle.resv_list.specs.Reservations.{is_in, airtime_us}
use Rattle.resv_tree.specs.declared.entry.Entry.{Entry}
use Rattle.resv_tree.specs.declared.kept.Kept.{Kept}
use Rattle.resv_tree.specs.Entries.{Each, amount, moved, CanMove, members}
use Rattle.resv_tree.specs.Sums.{sum_in, quarters_in}
use Rattle.resv_tree.specs.Shape.{Shape, Leaf, Fork, entries, members_of, greatest_of, top_of, kept_sum}
use Rattle.resv_tree.specs.Shape.{IsWhole, IsKept}
use Rattle.resv_tree.specs.Parts.{IsMadeOf, IsMoved}
use Rattle.resv_tree.proofs.SumLemmas.{kept_sum-total}
use Rattle.resv_tree.proofs.EntryLemmas.{most_own, own_same, each}
use Rattle.resv_tree.proofs.EntryLemmas.{map-identity}
use Rattle.resv_tree.proofs.EntryLemmas.{map-parts, members-moved, members-parts, most-parts, most_none, most_moved}
use Rattle.resv_tree.proofs.EntryLemmas.{each_within}
use Rattle.resv_tree.proofs.EntryLemmas.{own_moved}
use Rattle.resv_tree.proofs.TotalLemmas.{total_in}

-- What a tree keeps of the own hours of its members, and what its nodes owe.

-- the members of the entries are those of the tree
pub entries-members : (t : Shape) → members (entries t) ≡ members_of t
entries-members Leaf = refl
entries-members (Fork l e r k) =
    members-moved (quarters_in k.greatest) (top_of l e r) (entries l ++ e ∷ entries r)
    ∙ members-parts (entries l) e (entries r)
    ∙ (λ i. entries-members l i ++ e.reservation ∷ entries-members r i)

-- the airtime in a sub-band of the entries about a node
pub parts_total : (l r : Shape) (e : Entry) (k : Kept) (band : Band) → IsWhole (Fork l e r k)
    → total_in band (members (entries l ++ e ∷ entries r)) ≡ sum_in k.sums band
parts_total l r e k band w =
    ap (total_in band) (members-parts (entries l) e (entries r)
    ∙ (λ i. entries-members l i ++ e.reservation ∷ entries-members r i))
    ∙ sym (kept_sum-total (Fork l e r k) band w)

-- nothing is kept as greatest where there is none
pub idle_of : (t : Shape) (band : Band) → IsWhole t → kept_sum t band ≡ 0 → greatest_of t band ≡ 0
idle_of Leaf band w h = refl
idle_of (Fork l e r k) band w h = w.2.idle band h

-- what is kept as greatest is the greatest
pub greatest_is_most : (t : Shape) (band : Band) → IsWhole t → most_own band (entries t) ≡ greatest_of t band
greatest_is_most Leaf band w = refl
greatest_is_most (Fork l e r k) band w =
    let raw = most-parts band (entries l) e (entries r) in
    let left = greatest_is_most l band w.0 in
    let right = greatest_is_most r band w.1 in
    by (sum_in k.sums band) refl (omega (arith, raw, left, right))
  where
    by : (n : ℕ) → sum_in k.sums band ≡ n → most_own band (entries l ++ e ∷ entries r) ≡ top_of l e r band
        → most_own band (map (moved (quarters_in k.greatest) (top_of l e r)) (entries l ++ e ∷ entries r))
        ≡ quarters_in k.greatest band
    by zero z m =
        most_none band (map (moved (quarters_in k.greatest) (top_of l e r)) (entries l ++ e ∷ entries r))
        (ap (total_in band) (members-moved (quarters_in k.greatest) (top_of l e r) (entries l ++ e ∷ entries r))
        ∙ parts_total l r e k band w ∙ z)
        ∙ sym (w.2.idle band z)
    by (suc n) z m =
        let all = most_moved (quarters_in k.greatest) (top_of l e r) band (entries l ++ e ∷ entries r)
        (λ q. absurd (omega (arith, q, z, parts_total l r e k band w))) in
        omega (arith, all, m)

pub parts_within : (l r : Shape) (e : Entry) (k : Kept) → IsWhole (Fork l e r k)
    → Each (λ x. x.own ≤ amount (top_of l e r) x.reservation) (entries l ++ e ∷ entries r)
parts_within l r e k w =
    each_within (top_of l e r) (entries l ++ e ∷ entries r)
    (λ band. omega (
      arith,
      most-parts band (entries l) e (entries r),
      greatest_is_most l band w.0,
      greatest_is_most r band w.1,
    ))

-- where nothing is owed, the entries are those about the node
moved_nowhere : (f : Band → ℕ) (e : Entry) → moved f f e ≡ e
moved_nowhere f e = own_same e (e.own + amount f e.reservation - amount f e.reservation) e.own (omega arith)

pub entries_settled : (l r : Shape) (e : Entry) (k : Kept) → ((band : Band) → quarters_in k.greatest band ≡ top_of l e r band)
    → entries (Fork l e r k) ≡ entries l ++ e ∷ entries r
entries_settled l r e k h =
    let same : quarters_in k.greatest ≡ top_of l e r = λ i band. h band i in
    subst (λ f. map (moved f (top_of l e r)) (entries l ++ e ∷ entries r) ≡ entries l ++ e ∷ entries r) (sym same)
    (map-identity (moved (top_of l e r) (top_of l e r)) (entries l ++ e ∷ entries r) (moved_nowhere (top_of l e r)))

pub covered_settled : (l r : Shape) (e : Entry) (f : Band → ℕ) → ((band : Band) → f band ≡ top_of l e r band)
    → Each (CanMove f (top_of l e r)) (entries l ++ e ∷ entries r)
covered_settled l r e f h =
    let same : f ≡ top_of l e r = λ i band. h band i in
    subst (λ g. Each (CanMove g (top_of l e r)) (entries l ++ e ∷ entries r)) (sym same)
    (each (CanMove (top_of l e r) (top_of l e r)) (λ x. omega arith) (entries l ++ e ∷ entries r))

-- a whole tree that owes nothing is made of its parts
pub made_of-Fork : (l r : Shape) (e : Entry) (k : Kept) → IsWhole (Fork l e r k)
    → ((band : Band) → quarters_in k.greatest band ≡ top_of l e r band) → IsMadeOf (Fork l e r k) l e r
made_of-Fork l r e k w h = record {
  entries = entries_settled l r e k h;
  count = w.2.count;
  height = w.2.height;
  greatest = h;
  level = w.2.level;
  left = w.0;
  right = w.1;
}

-- What is handed down.

-- the greatest of what has it is what the node kept
handed_top : (l r p q : Shape) (e : Entry) (k : Kept) (band : Band) → IsWhole (Fork l e r k)
    → IsMoved p l (quarters_in k.greatest) (top_of l e r) → IsMoved q r (quarters_in k.greatest) (top_of l e r)
    → quarters_in k.greatest band ≡ top_of p (moved (quarters_in k.greatest) (top_of l e r) e) q band
handed_top l r p q e k band w a b =
    by (kept_sum l band) (kept_sum r band) (is_in band e.reservation) refl refl refl (w.2.sums band) refl
  where
    more : Band → ℕ
    more = quarters_in k.greatest

    less : Band → ℕ
    less = top_of l e r

    by : (m n : ℕ) (t : Bool) → kept_sum l band ≡ m → kept_sum r band ≡ n → is_in band e.reservation ≡ t
        → sum_in k.sums band ≡ kept_sum l band + cond t (airtime_us e.reservation) 0 + kept_sum r band
        → top_of l e r band ≡ max (cond t e.own 0) (max (greatest_of l band) (greatest_of r band))
        → quarters_in k.greatest band ≡ max (cond t (moved more less e).own 0) (max (greatest_of p band) (greatest_of q band))
    by zero zero true i j h s o = omega (
      arith,
      o,
      own_moved more less band e h,
      a.none band i,
      idle_of l band w.0 i,
      b.none band j,
      idle_of r band w.1 j,
    )
    by zero zero false i j h s o = omega (
      arith,
      w.2.idle band (omega (arith, s, i, j)),
      a.none band i,
      b.none band j,
    )
    by zero (suc n) true i j h s o = omega (
      arith,
      o,
      own_moved more less band e h,
      a.none band i,
      idle_of l band w.0 i,
      b.some band (λ z. absurd (omega (arith, z, j))),
    )
    by zero (suc n) false i j h s o =
        omega (arith, o, a.none band i, idle_of l band w.0 i, b.some band (λ z. absurd (omega (arith, z, j))))
    by (suc m) zero true i j h s o = omega (
      arith,
      o,
      own_moved more less band e h,
      a.some band (λ z. absurd (omega (arith, z, i))),
      b.none band j,
      idle_of r band w.1 j,
    )
    by (suc m) zero false i j h s o =
        omega (arith, o, a.some band (λ z. absurd (omega (arith, z, i))), b.none band j, idle_of r band w.1 j)
    by (suc m) (suc n) true i j h s o = omega (
      arith,
      o,
      own_moved more less band e h,
      a.some band (λ z. absurd (omega (arith, z, i))),
      b.some band (λ z. absurd (omega (arith, z, j))),
    )
    by (suc m) (suc n) false i j h s o = omega (
      arith,
      o,
      a.some band (λ z. absurd (omega (arith, z, i))),
      b.some band (λ z. absurd (omega (arith, z, j))),
    )

-- a whole tree is made of its parts, once these have what it owed
pub made_of-handed : (l r p q : Shape) (e : Entry) (k : Kept) → IsWhole (Fork l e r k)
    → IsMoved p l (quarters_in k.greatest) (top_of l e r) → IsMoved q r (quarters_in k.greatest) (top_of l e r)
    → IsMadeOf (Fork l e r k) p (moved (quarters_in k.greatest) (top_of l e r) e) q
made_of-handed l r p q e k w a b = record {
  entries = map-parts (moved (quarters_in k.greatest) (top_of l e r)) (entries l) e (entries r)
      ∙ (λ i. sym a.entries i ++ moved (quarters_in k.greatest) (top_of l e r) e ∷ sym b.entries i);
  count = omega (arith, w.2.count, a.count, b.count);
  height = omega (arith, w.2.height, a.height, b.height);
  greatest = λ band. handed_top l r p q e k band w a b;
  level = (omega (arith, w.2.level.0, a.height, b.height), omega (arith, w.2.level.1, a.height, b.height));
  left = a.whole;
  right = b.whole;
}

-- and what it keeps follows from them
pub kept-handed : (l r p q : Shape) (e : Entry) (k : Kept) → IsWhole (Fork l e r k)
    → IsMoved p l (quarters_in k.greatest) (top_of l e r) → IsMoved q r (quarters_in k.greatest) (top_of l e r)
    → IsKept p (moved (quarters_in k.greatest) (top_of l e r) e) q k
kept-handed l r p q e k w a b =
    let top = λ (band : Band). handed_top l r p q e k band w a b in
    record {
      level = (omega (arith, w.2.level.0, a.height, b.height), omega (arith, w.2.level.1, a.height, b.height));
      height = omega (arith, w.2.height, a.height, b.height);
      left_height = omega (arith, w.2.left_height, a.height);
      right_height = omega (arith, w.2.right_height, b.height);
      count = omega (arith, w.2.count, a.count, b.count);
      sums = λ band. omega (arith, w.2.sums band, a.sums band, b.sums band);
      short = w.2.short;
      idle = w.2.idle;
      settled = λ o band. top band;
      covered = covered_settled p q (moved (quarters_in k.greatest) (top_of l e r) e) (quarters_in k.greatest) top;
    }

-- the same of a tree that is known by its parts
pub opened-settled : (t l r : Shape) (e : Entry) (k : Kept) → t ≡ Fork l e r k → IsWhole t → k.owes ≡ false → IsMadeOf t l e r
opened-settled t l r e k is w o =
    let whole : IsWhole (Fork l e r k) = subst IsWhole is w in
    subst (λ s. IsMadeOf s l e r) (sym is) (made_of-Fork l r e k whole (whole.2.settled o))

pub opened-made : (t l r p q : Shape) (e f : Entry) (k : Kept) → t ≡ Fork l e r k → IsWhole t
    → IsMoved p l (quarters_in k.greatest) (top_of l e r) → f ≡ moved (quarters_in k.greatest) (top_of l e r) e
    → IsMoved q r (quarters_in k.greatest) (top_of l e r) → IsMadeOf t p f q
opened-made t l r p q e f k is w a same b =
    let whole : IsWhole (Fork l e r k) = subst IsWhole is w in
    subst (λ s. IsMadeOf s p f q) (sym is) (subst (λ x. IsMadeOf (Fork l e r k) p x q) (sym same)
    (made_of-handed l r p q e k whole a b))

pub opened-kept : (t l r p q : Shape) (e f : Entry) (k j : Kept) → t ≡ Fork l e r k → IsWhole t
    → IsMoved p l (quarters_in k.greatest) (top_of l e r) → f ≡ moved (quarters_in k.greatest) (top_of l e r) e
    → IsMoved q r (quarters_in k.greatest) (top_of l e r) → j ≡ k → IsKept p f q j
opened-kept t l r p q e f k j is w a same b kept =
    let whole : IsWhole (Fork l e r k) = subst IsWhole is w in
    subst (λ x. IsKept p f q x) (sym kept) (subst (λ x. IsKept p x q k) (sym same) (kept-handed l r p q e k whole a b))

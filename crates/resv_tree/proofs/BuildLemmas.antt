use Rattle.std.specs.Prelude.{ℕ, ◌≡◌, ◌+◌, ◌-◌, ◌*◌, ◌/◌, ◌^◌, ◌<◌, ◌≤◌, max, nat_le, Bool, true, false}
use Rattle.std.specs.Prelude.{List, [], ◌∷◌, ◌++◌, length}
use Rattle.std.proofs.Common.{refl, arith, sym, ap, ◌∙◌, subst, append_assoc, append-nil}
use Rattle.std.proofs.lemmas.Bool.{leb-true, leb-false}
use Rattle.std.proofs.Math.Nat.{pow-le-pow_right, two-pow-succ}
use Rattle.resv_list.specs.declared.reservation.Reservation.{Reservation}
use Rattle.resv_list.specs.Reservations.{IsByStart}
use Rattle.resv_tree.specs.declared.entry.Entry.{Entry}
use Rattle.resv_tree.specs.Entries.{members}
use Rattle.resv_tree.specs.Filling.{with_hours, IsBuilt}
use Rattle.resv_tree.specs.OwnHours.{HasHours}
use Rattle.resv_tree.specs.Parts.{IsMadeOf}
use Rattle.resv_tree.specs.Shape.{Shape, entries, members_of, height_of, IsLevel, IsWhole}
use Rattle.resv_tree.proofs.AheadLemmas.{members-with_hours, with_hours-has}
use Rattle.resv_tree.proofs.HeightLemmas.{count_lt_pow}
use Rattle.resv_tree.proofs.OwedLemmas.{entries-members}

-- A tree of the next members of a list.

double : (k : ℕ) → 2 ^ (k + 1) ≡ 2 ^ k + 2 ^ k
double k = subst (λ m. 2 ^ m ≡ 2 ^ k + 2 ^ k) (omega arith) (two-pow-succ k)

-- a side is not two levels higher than another of as many, or of one less
not_higher : (m n h g : ℕ) → m ≤ n + 1 → 2 ^ h ≤ max 1 (2 * m) → n + 1 ≤ 2 ^ g → h ≤ g + 1
not_higher m n h g few low high = by (nat_le h (g + 1)) refl
  where
    by : (b : Bool) → nat_le h (g + 1) ≡ b → h ≤ g + 1
    by true e = leb-true h (g + 1) e
    by false e =
        let over = leb-false h (g + 1) e in
        let up : 2 ^ (g + 1 + 1) ≤ 2 ^ h = pow-le-pow_right (omega arith) (omega (arith, over)) in
        absurd (omega (arith, low, high, few, up, double (g + 1), double g))

-- The tree of two sides: the left one is built of what is left at first, the next entry is taken, and the right one is built.
module _ (l r : Shape) (a b c d : List Reservation) (n : ℕ) (left : IsBuilt l a b (n / 2))
    (right : IsBuilt r c d (n - 1 - n / 2)) where
  pub built_level : IsLevel l r
  built_level =
      let few_l : n / 2 + 1 ≤ 2 ^ height_of l = omega (arith, count_lt_pow l left.whole, left.counted) in
      let few_r : n - 1 - n / 2 + 1 ≤ 2 ^ height_of r = omega (arith, count_lt_pow r right.whole, right.counted) in (
        not_higher (n / 2) (n - 1 - n / 2) (height_of l) (height_of r) (omega arith) left.low few_r,
        not_higher (n - 1 - n / 2) (n / 2) (height_of r) (height_of l) (omega arith) right.low few_l,
      )

  -- so it is no higher than it may be
  lower : (h : ℕ) → 0 < n → h ≡ max (height_of l) (height_of r) + 1 → 2 ^ h ≤ 2 * n
  lower h some is =
      let up : 2 ^ h ≡ 2 ^ max (height_of l) (height_of r) + 2 ^ max (height_of l) (height_of r) =
      ap (λ k. 2 ^ k) is ∙ double (max (height_of l) (height_of r)) in
      by (nat_le (height_of l) (height_of r)) refl up
    where
      by : (t : Bool) → nat_le (height_of l) (height_of r) ≡ t
          → 2 ^ h ≡ 2 ^ max (height_of l) (height_of r) + 2 ^ max (height_of l) (height_of r) → 2 ^ h ≤ 2 * n
      by true e up =
          let g = leb-true (height_of l) (height_of r) e in
          let m : max (height_of l) (height_of r) ≡ height_of r = omega (arith, g) in
          omega (arith, up, ap (λ k. 2 ^ k) m, right.low, some)
      by false e up =
          let g = leb-false (height_of l) (height_of r) e in
          let m : max (height_of l) (height_of r) ≡ height_of l = omega (arith, g) in
          omega (arith, up, ap (λ k. 2 ^ k) m, left.low, some)

  pub built_parts : (t : Shape) (e f : Entry) → 0 < n → with_hours b ≡ e ∷ with_hours c → length b ≡ 1 + length c → f ≡ e
      → IsMadeOf t l f r → IsWhole t → IsBuilt t a d n
  built_parts t e f some given fewer same around whole =
      let made : IsMadeOf t l e r = subst (λ x. IsMadeOf t l x r) same around in
      record {
        entries =
            ap (λ (es : List Entry). es ++ with_hours d) made.entries ∙ append_assoc (entries l) (e ∷ entries r) (with_hours d)
            ∙ ap (λ (es : List Entry). entries l ++ e ∷ es) right.entries ∙ ap (λ (es : List Entry). entries l ++ es) (sym given)
            ∙ left.entries;
        fewer = omega (arith, left.fewer, right.fewer, fewer);
        counted = omega (arith, made.count, left.counted, right.counted);
        low = omega (arith, lower (height_of t) some made.height);
        whole = whole;
      }

-- A tree of all members of a list by start.
module _ (t : Shape) (l left still_left : List Reservation) (n : ℕ) (all : left ≡ l) (as_many : n ≡ length l)
    (built : IsBuilt t left still_left n) where
  none_left : (b : List Reservation) → length left ≡ n + length b → entries t ++ with_hours b ≡ with_hours left
      → entries t ≡ with_hours l
  none_left [] f e = sym (append-nil (entries t)) ∙ e ∙ ap with_hours all
  none_left (x ∷ b) f e = absurd (omega (arith, f, as_many, ap length all))

  built_entries : entries t ≡ with_hours l
  built_entries = none_left still_left built.fewer built.entries

  pub built_members : members_of t ≡ l
  built_members = sym (entries-members t) ∙ ap members built_entries ∙ members-with_hours l

  pub built_by_start : IsByStart l → IsByStart (members_of t)
  built_by_start b = subst IsByStart (sym built_members) b

  pub built_hours : IsByStart l → HasHours (entries t)
  built_hours b = subst HasHours (sym built_entries) (with_hours-has l b)

use Rattle.std.specs.Prelude.{ℕ, ◌≡◌, ◌+◌, ◌/◌, ◌^◌, ◌≤◌, ◌∷◌, length, max, nat_le, Bool, true, false}
use Rattle.std.proofs.Common.{refl, arith, zero, suc, sym, ap, subst, ◌∙◌, length-append}
use Rattle.std.proofs.lemmas.Bool.{leb-true, leb-false}
use Rattle.std.proofs.Math.Nat.{one-le-pow, pow-le-pow_right, two-pow-succ}
use Rattle.resv_tree.specs.Shape.{Shape, Leaf, Fork, members_of, height_of, count_of, IsWhole}

-- The height of a whole tree against the number of its members.

pub count_of-length : (t : Shape) → IsWhole t → count_of t ≡ length (members_of t)
count_of-length Leaf w = refl
count_of-length (Fork l e r k) w =
    omega (
      arith,
      w.2.count,
      count_of-length l w.0,
      count_of-length r w.1,
      length-append (members_of l)
          (e.reservation ∷ members_of r),
    )

-- a tree of some height has at most so many members
pub count_lt_pow : (t : Shape) → IsWhole t → count_of t + 1 ≤ 2 ^ height_of t
count_lt_pow Leaf w = omega arith
count_lt_pow (Fork l e r k) w =
    let up : 2 ^ k.height ≡ 2 ^ max (height_of l) (height_of r) + 2 ^ max (height_of l) (height_of r) =
    subst (λ m. 2 ^ m ≡ 2 ^ max (height_of l) (height_of r) + 2 ^ max (height_of l) (height_of r))
    (sym (w.2.height ∙ omega arith)) (two-pow-succ (max (height_of l) (height_of r))) in
    let left : 2 ^ height_of l ≤ 2 ^ max (height_of l) (height_of r) = pow-le-pow_right (omega arith) (omega arith) in
    let right : 2 ^ height_of r ≤ 2 ^ max (height_of l) (height_of r) = pow-le-pow_right (omega arith) (omega arith) in
    omega (arith, w.2.count, count_lt_pow l w.0, count_lt_pow r w.1, left, right, up)

-- two sides of which neither is two levels lower than the other
doubled : (m left right a b : ℕ) → m ≤ left + 1 → m ≤ right + 1 → 2 ^ (left / 2) ≤ a → 2 ^ (right / 2) ≤ b
    → 2 ^ ((m + 1) / 2) ≤ a + b
doubled zero left right a b h g p q = omega (arith, one-le-pow (left / 2) 2 (omega arith), p)
doubled (suc k) left right a b h g p q =
    let half : (suc k + 1) / 2 ≡ suc (k / 2) = omega arith in
    let up : 2 ^ ((suc k + 1) / 2) ≡ 2 ^ (k / 2) + 2 ^ (k / 2) = ap (λ n. 2 ^ n) half ∙ two-pow-succ (k / 2) in
    let l : 2 ^ (k / 2) ≤ 2 ^ (left / 2) = pow-le-pow_right (omega arith) (omega (arith, h)) in
    let r : 2 ^ (k / 2) ≤ 2 ^ (right / 2) = pow-le-pow_right (omega arith) (omega (arith, g)) in
    omega (arith, up, l, r, p, q)

-- and at least so many
pub pow_le_count : (t : Shape) → IsWhole t → 2 ^ (height_of t / 2) ≤ count_of t + 1
pow_le_count Leaf w = omega arith
pow_le_count (Fork l e r k) w =
    let level = w.2.level in
    let d = doubled (max (height_of l) (height_of r)) (height_of l) (height_of r) (count_of l + 1) (count_of r + 1)
    (omega (arith, level.0, level.1)) (omega (arith, level.0, level.1)) (pow_le_count l w.0) (pow_le_count r w.1) in
    let top : 2 ^ (k.height / 2) ≡ 2 ^ ((max (height_of l) (height_of r) + 1) / 2) = ap (λ m. 2 ^ (m / 2)) w.2.height in
    omega (arith, d, top, w.2.count)

grown : (m n : ℕ) → m ≤ n → 2 ^ m ≤ 2 ^ n
grown m n h = pow-le-pow_right (omega arith) h

-- so no tree of a roster is higher than 33 levels
pub height_is_low : (t : Shape) → IsWhole t → count_of t ≤ 65536 → height_of t ≤ 33
height_is_low t w c = by (nat_le (height_of t) 33) refl
  where
    by : (b : Bool) → nat_le (height_of t) 33 ≡ b → height_of t ≤ 33
    by true e = leb-true (height_of t) 33 e
    by false e =
        let high = leb-false (height_of t) 33 e in
        absurd (omega (arith, c, grown 17 (height_of t / 2) (omega (arith, high)), pow_le_count t w))

pub ruleset counts = (count_of-length, count_lt_pow, pow_le_count)

-- Facts on bits and lists that several proofs share.
use Rattle.std.proofs.Common.{◌≡◌, ℕ, zero, suc, ◌*◌, ◌/◌, ◌%◌, ◌^◌, ◌<◌, ◌≤◌, List, [], ◌∷◌, length, take}
use Rattle.std.proofs.Common.{get_or, Bool, refl, sym, ◌∙◌, arith}
use Rattle.std.specs.Prelude.{IsTrue, nat_eq, not, bit_and, ◌==◌}
use Rattle.std.proofs.lemmas.Bool.Decides.{nat_tests}
use Rattle.std.proofs.lemmas.Nat.{pow_pos}
use Rattle.std.proofs.lemmas.Nat.Bits.{and_pow}
use Rattle.std.specs.Cmp.Lexicographic.{pointwise}
use Rattle.std.proofs.lemmas.Slice.Eq.{bytes_eq-Decides}

-- a bit is 1 where its mask leaves something
bit_left : (bit worth : ℕ) → bit < 2 → 0 < worth → not (bit * worth == 0) ≡ (bit == 1)
bit_left zero worth h pos = grind (arith, nat_tests)
bit_left (suc zero) worth h pos = grind (arith, nat_tests)
bit_left (suc (suc bit)) worth h pos = absurd (omega arith)

pub bit_test : (n k : ℕ) → not (bit_and n (2 ^ k) == 0) ≡ (n / 2 ^ k % 2 == 1)
bit_test n k = rw (and_pow n k) (bit_left (n / 2 ^ k % 2) (2 ^ k) (omega arith) (pow_pos k))

-- the first four elements
pub take-four : (xs : List ℕ) → 4 ≤ length xs → get_or xs 0 0 ∷ get_or xs 1 0 ∷ get_or xs 2 0 ∷ get_or xs 3 0 ∷ [] ≡ take 4 xs
take-four [] h = absurd (omega arith)
take-four (a ∷ []) h = absurd (omega arith)
take-four (a ∷ b ∷ []) h = absurd (omega arith)
take-four (a ∷ b ∷ c ∷ []) h = absurd (omega arith)
take-four (a ∷ b ∷ c ∷ d ∷ xs) h = refl

-- what a test of two lists of bytes says, where each is known under another name
pub test_is : (r : Bool) (m m' d d' : List ℕ) → r ≡ pointwise nat_eq m d → m ≡ m' → d ≡ d'
    → (IsTrue r → d' ≡ m') × (d' ≡ m' → IsTrue r)
test_is r m m' d d' er em ed =
    let both = bytes_eq-Decides m d in (
      λ h. sym ed ∙ sym (both.0 (sym er ∙ h)) ∙ em,
      λ h. er ∙ both.1 (em ∙ sym h ∙ sym ed),
    )

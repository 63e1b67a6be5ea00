-- Lines that are answered in turn, and the output that they make.
use Rattle.std.specs.Prelude.{◌≡◌, ℕ, ◌+◌, Bool, false, ◌==◌, ◌||◌, nat_eq, List, [], ◌∷◌, ◌++◌, length, codes}
use Rattle.std.specs.List.{list_any, starts_with}
use Rattle.std.proofs.Common.{sym, ap, ◌∙◌, arith, append_assoc}
use Rattle.text_lines.specs.Line.{kept}

-- whether a line of output begins with `no` or `bad`
abbrev pub is_refusal : List ℕ → Bool
is_refusal line = starts_with nat_eq line (codes "no") || starts_with nat_eq line (codes "bad")

-- whether one of these lines does
abbrev pub has_refusal : List (List ℕ) → Bool
has_refusal lines = list_any is_refusal lines

-- How lines are answered by what stands when each comes; the flag says that no memory is found then.
pub record Turns (S : Type 0) : Type 0 where
  -- the lines that answer the line of this number
  pub answer : Bool → ℕ → S → List ℕ → List (List ℕ)
  -- what stands after a line
  pub after : Bool → S → List ℕ → S
  -- the lines that follow the last answer
  pub ending : S → List (List ℕ)

-- what is kept of a line does what the line does
abbrev pub TurnsByKept : {S : Type 0} → Turns S → Type 0
TurnsByKept {S} turns =
    (starved : Bool) (number : ℕ) (s : S) (line : List ℕ)
    → (turns.answer starved number s (kept line) ≡ turns.answer starved number s line)
    × (turns.after starved s (kept line) ≡ turns.after starved s line)

-- no line after the last answer begins with `no` or `bad`
abbrev pub EndsWithoutRefusal : {S : Type 0} → Turns S → Type 0
EndsWithoutRefusal {S} turns = (s : S) → has_refusal (turns.ending s) ≡ false

-- whether no memory was found at this line
abbrev pub is_starved : List ℕ → ℕ → Bool
is_starved starved number = list_any (λ other. other == number) starved

module _ {S : Type 0} (turns : Turns S) (starved : List ℕ) where
  -- what stands after the lines, which are counted from `number`
  abbrev pub reached : ℕ → S → List (List ℕ) → S
  reached number s [] = s
  reached number s (line ∷ more) = reached (number + 1) (turns.after (is_starved starved number) s line) more

  -- the lines that answer them, in turn
  abbrev pub answers : ℕ → S → List (List ℕ) → List (List ℕ)
  answers number s [] = []
  answers number s (line ∷ more) =
      turns.answer (is_starved starved number) number s line
      ++ answers (number + 1) (turns.after (is_starved starved number) s line) more

module _ {S : Type 0} (turns : Turns S) where
  -- the answers to lines after others
  pub answers-append : (starved : List ℕ) (number : ℕ) (s : S) (xs ys : List (List ℕ)) (next : ℕ) → next ≡ number + length xs
      → answers turns starved number s (xs ++ ys)
      ≡ answers turns starved number s xs ++ answers turns starved next (reached turns starved number s xs) ys
  answers-append starved number s [] ys next e = ap (λ n. answers turns starved n s ys) (sym (omega (arith, e)))
  answers-append starved number s (x ∷ xs) ys next e =
      let b : Bool = is_starved starved number in
      ap (λ l. turns.answer b number s x ++ l)
      (answers-append starved (number + 1) (turns.after b s x) xs ys next (omega (arith, e)))
      ∙ sym (append_assoc (turns.answer b number s x) _ _)

-- the whole output from what stands first on: the answers, and what follows the last of them
abbrev pub output_of : {S : Type 0} → Turns S → S → List ℕ → List (List ℕ) → List (List ℕ)
output_of turns s starved lines = answers turns starved 1 s lines ++ turns.ending (reached turns starved 1 s lines)

-- Lemmas on lines that are answered in turn: one line more.
use Rattle.std.proofs.Common.{◌≡◌, ℕ, ◌+◌, ◌<◌, ◌≤◌, Bool, true, false, ◌||◌, ◌==◌, List, [], ◌∷◌, ◌++◌, length, Option, Ok, Err}
use Rattle.std.proofs.Common.{refl, sym, ap, ◌∙◌, arith, append-nil}
use Rattle.std.specs.List.{All}
use Rattle.std.proofs.Math.Bool.{or-false}
use Rattle.std.proofs.lemmas.Bool.{ne_eqb, eq-eqb}
use Rattle.std.proofs.lemmas.List.{length_push}
use Rattle.std.proofs.lemmas.List.Elements.{All-push}
use Rattle.std.proofs.lemmas.List.Folds.{list_any-append, list_any_none}
use Rattle.text_lines.specs.Line.{text_of, text_of-append}
use Rattle.text_lines.specs.Progress.{AreTurns, AreTurnsInPart, IsTurnPut}
use Rattle.text_lines.specs.Turns.{Turns, TurnsByKept, is_refusal, has_refusal, is_starved, reached, answers}
use Rattle.text_lines.specs.Turns.{answers-append}
use Rattle.text_lines.specs.Writing.{WritesAllBut-more, WritesAllBut-trans, WritesFront-after}
use Rattle.text_lines.proofs.SoFar.{GoesOn}

-- the two lists name the same of these lines
abbrev pub AgreeFrom : List ℕ → List ℕ → ℕ → ℕ → Type 0
AgreeFrom a b low high = (n : ℕ) → low ≤ n → n < high → is_starved a n ≡ is_starved b n

-- the numbers with this one, if it found no memory
abbrev pub with_line : Bool → ℕ → List ℕ → List ℕ
with_line true number starved = starved ++ number ∷ []
with_line false number starved = starved

none_yet : (starved : List ℕ) (last : ℕ) → All (λ other. other ≤ last) starved → is_starved starved (1 + last) ≡ false
none_yet starved last earlier =
    list_any_none (λ other. other == 1 + last) starved
    (λ k d h. ne_eqb _ _ (let less = earlier k d h in λ e. absurd (omega arith)))

with_line-here : (b : Bool) (last : ℕ) (starved : List ℕ) → All (λ other. other ≤ last) starved
    → is_starved (with_line b (1 + last) starved) (1 + last) ≡ b
with_line-here true last starved earlier =
    let same : (1 + last == 1 + last) ≡ true = eq-eqb (1 + last) (1 + last) refl in
    list_any-append (λ other. other == 1 + last) starved ((1 + last) ∷ []) ∙ rw (none_yet starved last earlier, same) refl
with_line-here false last starved earlier = none_yet starved last earlier

with_line-before : (b : Bool) (number : ℕ) (starved : List ℕ) → AgreeFrom (with_line b number starved) starved 1 number
with_line-before true number starved n low high =
    let other : (number == n) ≡ false = ne_eqb number n (λ e. absurd (omega arith)) in
    list_any-append (λ o. o == n) starved (number ∷ []) ∙ rw other (or-false (is_starved starved n))
with_line-before false number starved n low high = refl

with_line-earlier : (b : Bool) (last next : ℕ) (starved : List ℕ) → next ≡ last + 1 → All (λ other. other ≤ last) starved
    → All (λ other. other ≤ next) (with_line b (1 + last) starved)
with_line-earlier true last next starved e earlier =
    All-push (λ other. other ≤ next) starved (1 + last) (λ k d h. let less = earlier k d h in omega arith) (omega arith)
with_line-earlier false last next starved e earlier = λ k d h. let less = earlier k d h in omega arith

module _ {S : Type 0} (turns : Turns S) where
  reached-append : (starved : List ℕ) (number : ℕ) (s : S) (xs ys : List (List ℕ)) (next : ℕ) → next ≡ number + length xs
      → reached turns starved number s (xs ++ ys) ≡ reached turns starved next (reached turns starved number s xs) ys
  reached-append starved number s [] ys next e = ap (λ n. reached turns starved n s ys) (sym (omega (arith, e)))
  reached-append starved number s (x ∷ xs) ys next e =
      reached-append starved (number + 1) (turns.after (is_starved starved number) s x) xs ys next (omega (arith, e))

  answers-agree : (a b : List ℕ) (number high : ℕ) (s : S) (xs : List (List ℕ)) → number + length xs ≤ high
      → AgreeFrom a b number high → answers turns a number s xs ≡ answers turns b number s xs
  answers-agree a b number high s [] h agree = refl
  answers-agree a b number high s (x ∷ xs) h agree =
      let here : is_starved a number ≡ is_starved b number = agree number (omega arith) (omega arith) in
      ap (λ t. turns.answer t number s x ++ answers turns a (number + 1) (turns.after t s x) xs) here
      ∙ ap (λ l. turns.answer (is_starved b number) number s x ++ l)
      (answers-agree a b (number + 1) high (turns.after (is_starved b number) s x) xs (omega (arith, h))
      (λ n l g. agree n (omega arith) g))

  reached-agree : (a b : List ℕ) (number high : ℕ) (s : S) (xs : List (List ℕ)) → number + length xs ≤ high
      → AgreeFrom a b number high → reached turns a number s xs ≡ reached turns b number s xs
  reached-agree a b number high s [] h agree = refl
  reached-agree a b number high s (x ∷ xs) h agree =
      let here : is_starved a number ≡ is_starved b number = agree number (omega arith) (omega arith) in
      ap (λ t. reached turns a (number + 1) (turns.after t s x) xs) here
      ∙ reached-agree a b (number + 1) high (turns.after (is_starved b number) s x) xs (omega (arith, h))
      (λ n l g. agree n (omega arith) g)

module _ {S : Type 0} (turns : Turns S) (s : S) (starved : List ℕ) (read : List (List ℕ)) (line : List ℕ) (b : Bool)
    (earlier : All (λ other. other ≤ length read) starved) where
  -- the answers to one line more
  answers-next : answers turns (with_line b (1 + length read) starved) 1 s (read ++ line ∷ [])
      ≡ answers turns starved 1 s read ++ turns.answer b (1 + length read) (reached turns starved 1 s read) line
  answers-next =
      let number : ℕ = 1 + length read in
      let all : List ℕ = with_line b number starved in
      let agree : AgreeFrom all starved 1 number = with_line-before b number starved in
      answers-append turns all 1 s read (line ∷ []) number refl
      ∙ ap (λ l. l ++ answers turns all number (reached turns all 1 s read) (line ∷ []))
      (answers-agree turns all starved 1 number s read (omega arith) agree)
      ∙ ap (λ t. answers turns starved 1 s read ++ answers turns all number t (line ∷ []))
      (reached-agree turns all starved 1 number s read (omega arith) agree)
      ∙ ap (λ l. answers turns starved 1 s read ++ l)
      (append-nil (turns.answer (is_starved all number) number (reached turns starved 1 s read) line))
      ∙ ap (λ t. answers turns starved 1 s read ++ turns.answer t number (reached turns starved 1 s read) line)
      (with_line-here b (length read) starved earlier)

  -- what stands after it
  reached-next : reached turns (with_line b (1 + length read) starved) 1 s (read ++ line ∷ [])
      ≡ turns.after b (reached turns starved 1 s read) line
  reached-next =
      let number : ℕ = 1 + length read in
      let all : List ℕ = with_line b number starved in
      reached-append turns all 1 s read (line ∷ []) number refl
      ∙ ap (λ t. reached turns all number t (line ∷ []))
      (reached-agree turns all starved 1 number s read (omega arith) (with_line-before b number starved))
      ∙ ap (λ t. turns.after t (reached turns starved 1 s read) line) (with_line-here b (length read) starved earlier)

  text-next : text_of (answers turns (with_line b (1 + length read) starved) 1 s (read ++ line ∷ []))
      ≡ text_of (answers turns starved 1 s read)
      ++ text_of (turns.answer b (1 + length read) (reached turns starved 1 s read) line)
  text-next = ap text_of answers-next ∙ text_of-append (answers turns starved 1 s read) _

module _ {S : Type 0} (turns : Turns S) (by_kept : TurnsByKept turns) (Old Mid Now : S → Type 0)
    (before mid after : Option (List ℕ)) (number : ℕ)
    (held pending pending_after : List ℕ) (refused : Bool) where
  -- one line more was answered
  pub AreTurns-next : {E : Type 0} (r : Bool)
      → IsTurnPut turns Mid {E = E} Now number held pending pending_after mid after (Ok r)
      → GoesOn number held (AreTurns turns Old Mid refused before mid pending)
      (AreTurns turns Old Now (refused || r) before after pending_after)
  AreTurns-next r turn read line numbered keeps so_far s stood =
      let far = so_far s stood in
      let now : S = reached turns far.starved 1 s read in
      let put = turn now far.stands in
      let same : turns.answer put.starved number now held ≡ turns.answer put.starved (1 + length read) now line =
      ap (turns.answer put.starved number now) keeps ∙ (by_kept put.starved number now line).0
      ∙ ap (λ n. turns.answer put.starved n now line) numbered in
      let left : turns.after put.starved now held ≡ reached turns (with_line put.starved (1 + length read) far.starved) 1 s
      (read ++ line ∷ []) =
      ap (turns.after put.starved now) keeps ∙ (by_kept put.starved number now line).1
      ∙ sym (reached-next turns s far.starved read line put.starved far.earlier) in
      record {
        starved = with_line put.starved (1 + length read) far.starved;
        earlier = with_line-earlier put.starved (length read) _ far.starved (length_push read line) far.earlier;
        stands = rw left at put.stands;
        told = ap (λ t. t || r) far.told
            ∙ ap (λ t. has_refusal (answers turns far.starved 1 s read) || t) (put.told ∙ ap has_refusal same)
            ∙ sym (list_any-append is_refusal (answers turns far.starved 1 s read) _)
            ∙ sym (ap has_refusal (answers-next turns s far.starved read line put.starved far.earlier));
        written = rw (text-next turns s far.starved read line put.starved far.earlier)
            (WritesAllBut-trans _ _ _ _ _ _ (WritesAllBut-more _ _ _ _ _ far.written) (rw same at put.written));
      }

  -- one line more was answered, and its answer not wholly written
  pub AreTurns-failed : {E : Type 0} (failure : E)
      → IsTurnPut turns Mid {E = E} Now number held pending pending_after mid after (Err failure)
      → GoesOn number held (AreTurns turns Old Mid refused before mid pending) (AreTurnsInPart turns Old before after)
  AreTurns-failed failure turn read line numbered keeps so_far s stood =
      let far = so_far s stood in
      let now : S = reached turns far.starved 1 s read in
      let put = turn now far.stands in
      let same : turns.answer put.starved number now held ≡ turns.answer put.starved (1 + length read) now line =
      ap (turns.answer put.starved number now) keeps ∙ (by_kept put.starved number now line).0
      ∙ ap (λ n. turns.answer put.starved n now line) numbered in (
        with_line put.starved (1 + length read) far.starved,
        rw (text-next turns s far.starved read line put.starved far.earlier)
            (WritesFront-after _ _ _ _ _ (WritesAllBut-more _ _ _ _ _ far.written) (rw same at put.front)),
      )

-- what is pending is yet to be written
pub AreTurns-so_far : {S : Type 0} (turns : Turns S) (Old Now : S → Type 0) (refused : Bool) (before after : Option (List ℕ))
    (pending : List ℕ) (read : List (List ℕ)) → AreTurns turns Old Now refused before after pending read
    → AreTurnsInPart turns Old before after read
AreTurns-so_far turns Old Now refused before after pending read so_far s stood =
    let far = so_far s stood in (far.starved, (pending, far.written))

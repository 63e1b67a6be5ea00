-- Lemmas on the lines of bytes that are cut behind a line feed.
use Rattle.std.proofs.Common.{◌≡◌, ℕ, suc, ◌+◌, ◌<◌, Bool, true, false, List, [], ◌∷◌, ◌++◌, length, map, take, drop}
use Rattle.std.proofs.Common.{count_by, eqb, cond, refl, sym, ap, ◌∙◌, arith, append_assoc, append-nil}
use Rattle.std.specs.Prelude.{slice_index}
use Rattle.std.specs.List.{slice_split, onto_first}
use Rattle.std.specs.Str.Lines.{lines, lines_of_parts, strip_carriage_return}
use Rattle.std.proofs.Math.Seq.{split_at, take-append_seam}
use Rattle.std.proofs.lemmas.List.{length-append, length-map, length-take-le}
use Rattle.std.proofs.lemmas.List.Splits.{length-slice_split}

-- the parts between line feeds
abbrev parts : List ℕ → List (List ℕ)
parts bytes = slice_split (λ byte. eqb byte 10) bytes

onto-append : (byte : ℕ) (front back : List (List ℕ)) → 0 < length front
    → onto_first byte (front ++ back) ≡ onto_first byte front ++ back
onto-append byte [] back some = absurd (omega arith)
onto-append byte (part ∷ front) back some = refl

parts-step : (byte : ℕ) (front back : List (List ℕ)) (t : Bool) → 0 < length front
    → cond t ([] ∷ (front ++ back)) (onto_first byte (front ++ back)) ≡ cond t ([] ∷ front) (onto_first byte front) ++ back
parts-step byte front back true some = refl
parts-step byte front back false some = onto-append byte front back some

parts-some : (bytes : List ℕ) → 0 < length (parts bytes)
parts-some bytes = omega (arith, length-slice_split (λ byte. eqb byte 10) bytes)

-- a line feed ends a part
parts-feed : (bytes more : List ℕ) → parts (bytes ++ 10 ∷ more) ≡ parts bytes ++ parts more
parts-feed [] more = refl
parts-feed (byte ∷ bytes) more =
    ap (λ l. cond (eqb byte 10) ([] ∷ l) (onto_first byte l)) (parts-feed bytes more)
    ∙ parts-step byte (parts bytes) (parts more) (eqb byte 10) (parts-some bytes)

lines-append : (front back : List (List ℕ)) → 0 < length back
    → lines_of_parts (front ++ back) ≡ map strip_carriage_return front ++ lines_of_parts back
lines-append [] back some = refl
lines-append (part ∷ []) [] some = absurd (omega arith)
lines-append (part ∷ []) (next ∷ back) some = refl
lines-append (part ∷ next ∷ front) back some =
    ap (λ l. strip_carriage_return part ∷ l) (lines-append (next ∷ front) back some)

-- the lines before a line feed, and those behind it
lines-behind : (bytes more : List ℕ)
    → lines (bytes ++ 10 ∷ more) ≡ map strip_carriage_return (parts bytes) ++ lines more
lines-behind bytes more = ap lines_of_parts (parts-feed bytes more) ∙ lines-append (parts bytes) (parts more) (parts-some more)

lines-ended : (bytes : List ℕ) → lines (bytes ++ 10 ∷ []) ≡ map strip_carriage_return (parts bytes)
lines-ended bytes = lines-behind bytes [] ∙ append-nil (map strip_carriage_return (parts bytes))

count-ended : (bytes : List ℕ) → count_by (λ byte. eqb byte 10) (bytes ++ 10 ∷ []) ≡ length (lines (bytes ++ 10 ∷ []))
count-ended bytes =
    let all = bytes ++ 10 ∷ [] in
    let many : length (parts all) ≡ length (parts bytes) + 1 =
    ap length (parts-feed bytes []) ∙ length-append (parts bytes) ([] ∷ []) in
    omega (
      arith,
      many,
      length-slice_split (λ byte. eqb byte 10) all,
      ap length (lines-ended bytes),
      length-map (parts bytes) strip_carriage_return,
    )

module _ (bytes : List ℕ) (n : ℕ) (h : n < length bytes) (at : slice_index bytes n ≡ 10) where
  whole : bytes ≡ take n bytes ++ 10 ∷ drop (n + 1) bytes
  whole =
      let e : suc n ≡ n + 1 = omega arith in
      split_at bytes n 0 h ∙ ap (λ b. take n bytes ++ b ∷ drop (suc n) bytes) at ∙ ap (λ k. take n bytes ++ 10 ∷ drop k bytes) e

  front : take (n + 1) bytes ≡ take n bytes ++ 10 ∷ []
  front =
      let begun = take n bytes ++ 10 ∷ [] in
      let len : length begun ≡ n + 1 =
      length-append (take n bytes) (10 ∷ []) ∙ ap (λ k. k + 1) (length-take-le n bytes (omega (arith, h))) in
      let all : bytes ≡ begun ++ drop (n + 1) bytes =
      whole ∙ sym (append_assoc (take n bytes) (10 ∷ []) (drop (n + 1) bytes)) in
      ap (λ k. take k bytes) (sym len) ∙ ap (take (length begun)) all ∙ take-append_seam begun (drop (n + 1) bytes)

  -- the lines up to a line feed, and those behind it
  pub lines-cut : lines bytes ≡ lines (take (n + 1) bytes) ++ lines (drop (n + 1) bytes)
  lines-cut =
      ap lines whole ∙ lines-behind (take n bytes) (drop (n + 1) bytes)
      ∙ ap (λ l. l ++ lines (drop (n + 1) bytes)) (sym (ap lines front ∙ lines-ended (take n bytes)))

  -- there are as many as line feeds
  pub count-cut : count_by (λ byte. eqb byte 10) (take (n + 1) bytes) ≡ length (lines (take (n + 1) bytes))
  count-cut = ap (count_by (λ byte. eqb byte 10)) front ∙ count-ended (take n bytes) ∙ ap (λ l. length (lines l)) (sym front)

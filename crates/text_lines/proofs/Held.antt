-- Lemmas on what is kept of a line, at a buffer and the count of its bytes in use.
use Rattle.std.proofs.Common.{◌≡◌, ◌≢◌, ℕ, ◌+◌, ◌-◌, ◌<◌, ◌≤◌, min, List, [], ◌∷◌, ◌++◌, length, take, set, get_or, sym, ap, ◌∙◌}
use Rattle.std.proofs.Common.{⊎_elim, arith, rules}
use Rattle.std.proofs.lemmas.List.{length-take-le, take-take, take_all, take_more_set, take-append-le, get_or-take, get_or_past}
use Rattle.std.proofs.lemmas.List.{length_push}
use Rattle.std.proofs.lemmas.Bool.{cases_lt, cases_eq}
use Rattle.std.specs.Str.Lines.{strip_carriage_return}
use Rattle.text_lines.specs.Line.{kept}

-- a line of at most 1,025 bytes is kept whole
pub kept_all : (line : List ℕ) → length line ≤ 1025 → kept line ≡ line
kept_all line short = take_all 1025 line short

-- a last byte other than a carriage return is not dropped
pub strip-plain : (line : List ℕ) → get_or line (length line - 1) 0 ≢ 13 → strip_carriage_return line ≡ line
strip-plain line plain = grind (arith, rules)

-- a carriage return at the end is dropped
pub strip-return : (line : List ℕ) → get_or line (length line - 1) 0 ≡ 13
    → strip_carriage_return line ≡ take (length line - 1) line
strip-return line return = grind (arith, rules)

-- of more than 1,025 bytes the first 1,025 stay, whatever the last is
pub kept-strip_long : (line : List ℕ) → 1025 < length line → kept (strip_carriage_return line) ≡ take 1025 line
kept-strip_long line long = ⊎_elim
    (λ return. ap kept (strip-return line return) ∙ take-take 1025 (length line - 1) line (omega arith))
    (λ plain. ap kept (strip-plain line plain))
    (cases_eq (get_or line (length line - 1) 0) 13)

module _ (bytes : List ℕ) (len : ℕ) (fits : len ≤ length bytes) where
  in_use : length (take len bytes) ≡ len
  in_use = length-take-le len bytes fits

  -- the end of the input
  pub kept_front : take (min len 1025) bytes ≡ kept (take len bytes)
  kept_front = ⊎_elim
      (λ more. let least : min len 1025 ≡ 1025 = omega arith in rw least (sym (take-take 1025 len bytes (omega arith))))
      (λ few. let least : min len 1025 ≡ len = omega arith in rw least (sym (kept_all (take len bytes) (omega (arith, in_use)))))
      (cases_lt 1025 len)

  -- the end of a line with more bytes than are kept
  pub kept_front_long : 1025 < len → take 1025 bytes ≡ kept (strip_carriage_return (take len bytes))
  kept_front_long long = sym (kept-strip_long (take len bytes) (omega (arith, in_use)) ∙ take-take 1025 len bytes (omega arith))

  last : 0 < len → get_or (take len bytes) (length (take len bytes) - 1) 0 ≡ get_or bytes (len - 1) 0
  last some = rw in_use (get_or-take len bytes (len - 1) 0 (omega arith))

  -- the end of a line at a carriage return
  pub kept_front_return : 0 < len → len ≤ 1025 → get_or bytes (len - 1) 0 ≡ 13
      → take (len - 1) bytes ≡ kept (strip_carriage_return (take len bytes))
  kept_front_return some short return =
      let shorter : take (length (take len bytes) - 1) (take len bytes) ≡ take (len - 1) bytes =
      rw in_use (take-take (len - 1) len bytes (omega arith)) in
      sym (ap kept (strip-return (take len bytes) (last some ∙ return) ∙ shorter)
      ∙ kept_all (take (len - 1) bytes) (omega (arith, length-take-le (len - 1) bytes (omega arith))))

  no_return : (0 < len → get_or bytes (len - 1) 0 ≢ 13) → get_or (take len bytes) (length (take len bytes) - 1) 0 ≢ 13
  no_return plain return = ⊎_elim
      (λ some. plain some (sym (last some) ∙ return))
      (λ none. let empty : get_or (take len bytes) (length (take len bytes) - 1) 0 ≡ 0 =
      get_or_past (take len bytes) (length (take len bytes) - 1) 0 (omega (arith, in_use)) in omega arith)
      (cases_lt 0 len)

  -- the end of a line without one
  pub kept_front_plain : len ≤ 1025 → (0 < len → get_or bytes (len - 1) 0 ≢ 13)
      → take len bytes ≡ kept (strip_carriage_return (take len bytes))
  kept_front_plain short plain =
      sym (ap kept (strip-plain (take len bytes) (no_return plain)) ∙ kept_all (take len bytes) (omega (arith, in_use)))

  -- one byte more, where there is room
  pub push_front : (byte : ℕ) → len < length bytes → len < 1026
      → take (len + 1) (set bytes len byte) ≡ take 1026 (take len bytes ++ byte ∷ [])
  push_front byte room short =
      take_more_set bytes len byte room ∙ sym (take_all 1026 (take len bytes ++ byte ∷ [])
      (omega (arith, length_push (take len bytes) byte, in_use)))

  -- one byte more, where there is none
  pub push_full : (byte : ℕ) → 1026 ≡ len → take len bytes ≡ take 1026 (take len bytes ++ byte ∷ [])
  push_full byte full =
      sym (take-append-le 1026 (take len bytes) (byte ∷ []) (omega (arith, in_use))
      ∙ take_all 1026 (take len bytes) (omega (arith, in_use)))

-- Lemmas on the front of a buffer that is in use.
use Rattle.std.proofs.Common.{◌≡◌, ℕ, ◌+◌, ◌<◌, ◌≤◌, List, [], ◌∷◌, ◌++◌, length, take, set, sym, ◌∙◌, arith}
use Rattle.std.proofs.lemmas.List.{length-take-le, take_all, take_more_set, take-append-le, length_push}

module _ (bytes : List ℕ) (len : ℕ) (fits : len ≤ length bytes) where
  in_use : length (take len bytes) ≡ len
  in_use = length-take-le len bytes fits

  -- one byte more, where there is room
  pub push_front : (byte : ℕ) → len < length bytes → len < 400
      → take (len + 1) (set bytes len byte) ≡ take 400 (take len bytes ++ byte ∷ [])
  push_front byte room short =
      take_more_set bytes len byte room ∙ sym (take_all 400 (take len bytes ++ byte ∷ [])
      (omega (arith, length_push (take len bytes) byte, in_use)))

  -- one byte more, where there is none
  pub push_full : (byte : ℕ) → 400 ≡ len → take len bytes ≡ take 400 (take len bytes ++ byte ∷ [])
  push_full byte full =
      sym (take-append-le 400 (take len bytes) (byte ∷ []) (omega (arith, in_use))
      ∙ take_all 400 (take len bytes) (omega (arith, in_use)))

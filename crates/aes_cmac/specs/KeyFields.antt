-- A key's fields from its bytes.
use Rattle.std.proofs.Common.{◌≡◌, ℕ, zero, suc, ◌<◌, ◌^◌, List, [], ◌∷◌, get_or, map, refl, ap, sym, ◌∙◌}
use Rattle.std.specs.Int.{w32, from_be_bytes}
use Rattle.std.proofs.lemmas.Nat.{from_be_bytes-to_be_bytes_4}
use Rattle.aes_cmac.specs.Mac.{first_subkey, second_subkey}
use Rattle.aes_cmac.specs.Words.{word_bytes, four_words, schedule_numbers, IsExpanded}
use Rattle.aes_cmac.specs.declared.keys.Key.TheInside.{Inside}

-- words are the numbers of their bytes
numbers-word_bytes : (ws : List ℕ) → ((i : ℕ) → get_or ws i 0 < 2 ^ 32) → map (from_be_bytes w32) (map word_bytes ws) ≡ ws
unfolding word_bytes
numbers-word_bytes [] h = refl
numbers-word_bytes (w ∷ ws) h =
    ap (λ (n : ℕ). n ∷ map (from_be_bytes w32) (map word_bytes ws)) (from_be_bytes-to_be_bytes_4 w (h zero))
    ∙ ap (λ (t : List ℕ). w ∷ t) (numbers-word_bytes ws (λ i. h (suc i)))

record_equal : (w w' f f' s s' : List ℕ) → w ≡ w' → f ≡ f' → s ≡ s'
    → (let a : Inside = record { words = w; first = f; second = s } in a) ≡ record { words = w'; first = f'; second = s' }
record_equal w w' f f' s s' ew ef es = cc

pub same_fields : (k : Inside) → IsExpanded k.words k.first k.second
    → (let a : Inside = record {
      words = schedule_numbers (four_words k.words 0);
      first = first_subkey (four_words k.words 0);
      second = second_subkey (four_words k.words 0);
    } in a) ≡ k
same_fields k h =
    record_equal _ _ _ _ _ _ (ap (map (from_be_bytes w32)) (sym h.schedule) ∙ numbers-word_bytes k.words h.fits) (sym h.first_is)
    (sym h.second_is)

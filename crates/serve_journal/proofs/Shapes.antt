use Rattle.std.proofs.Common.{◌≡◌, ◌<◌, ℕ, List, [], ◌∷◌, length, map, take, None, refl, arith}
use Rattle.serve_journal.specs.EntryWords.{gateway_in, device_in, queue_in, sent_in, entry_in}

-- How many words a line has, by its kind.

module _ {X : Type 0} (f : X → List ℕ) where
  pub gateway_in-fewer : (words : List X) → length words < 4 → gateway_in (map f words) ≡ None
  gateway_in-fewer [] h = refl
  gateway_in-fewer (a ∷ []) h = refl
  gateway_in-fewer (a ∷ b ∷ []) h = refl
  gateway_in-fewer (a ∷ b ∷ c ∷ []) h = refl
  gateway_in-fewer (a ∷ b ∷ c ∷ d ∷ more) h = absurd (omega arith)

  pub gateway_in-more : (words : List X) → 4 < length words → gateway_in (map f words) ≡ None
  gateway_in-more [] h = absurd (omega arith)
  gateway_in-more (a ∷ []) h = absurd (omega arith)
  gateway_in-more (a ∷ b ∷ []) h = absurd (omega arith)
  gateway_in-more (a ∷ b ∷ c ∷ []) h = absurd (omega arith)
  gateway_in-more (a ∷ b ∷ c ∷ d ∷ []) h = absurd (omega arith)
  gateway_in-more (a ∷ b ∷ c ∷ d ∷ e ∷ more) h = refl

  pub device_in-fewer : (words : List X) → length words < 4 → device_in (map f words) ≡ None
  device_in-fewer [] h = refl
  device_in-fewer (a ∷ []) h = refl
  device_in-fewer (a ∷ b ∷ []) h = refl
  device_in-fewer (a ∷ b ∷ c ∷ []) h = refl
  device_in-fewer (a ∷ b ∷ c ∷ d ∷ more) h = absurd (omega arith)

  pub device_in-more : (words : List X) → 4 < length words → device_in (map f words) ≡ None
  device_in-more [] h = absurd (omega arith)
  device_in-more (a ∷ []) h = absurd (omega arith)
  device_in-more (a ∷ b ∷ []) h = absurd (omega arith)
  device_in-more (a ∷ b ∷ c ∷ []) h = absurd (omega arith)
  device_in-more (a ∷ b ∷ c ∷ d ∷ []) h = absurd (omega arith)
  device_in-more (a ∷ b ∷ c ∷ d ∷ e ∷ more) h = refl

  pub queue_in-fewer : (words : List X) → length words < 3 → queue_in (map f words) ≡ None
  queue_in-fewer [] h = refl
  queue_in-fewer (a ∷ []) h = refl
  queue_in-fewer (a ∷ b ∷ []) h = refl
  queue_in-fewer (a ∷ b ∷ c ∷ more) h = absurd (omega arith)

  pub queue_in-more : (words : List X) → 3 < length words → queue_in (map f words) ≡ None
  queue_in-more [] h = absurd (omega arith)
  queue_in-more (a ∷ []) h = absurd (omega arith)
  queue_in-more (a ∷ b ∷ []) h = absurd (omega arith)
  queue_in-more (a ∷ b ∷ c ∷ []) h = absurd (omega arith)
  queue_in-more (a ∷ b ∷ c ∷ d ∷ more) h = refl

  pub sent_in-fewer : (words : List X) → length words < 5 → sent_in (map f words) ≡ None
  sent_in-fewer [] h = refl
  sent_in-fewer (a ∷ []) h = refl
  sent_in-fewer (a ∷ b ∷ []) h = refl
  sent_in-fewer (a ∷ b ∷ c ∷ []) h = refl
  sent_in-fewer (a ∷ b ∷ c ∷ d ∷ []) h = refl
  sent_in-fewer (a ∷ b ∷ c ∷ d ∷ e ∷ more) h = absurd (omega arith)

  pub sent_in-more : (words : List X) → 5 < length words → sent_in (map f words) ≡ None
  sent_in-more [] h = absurd (omega arith)
  sent_in-more (a ∷ []) h = absurd (omega arith)
  sent_in-more (a ∷ b ∷ []) h = absurd (omega arith)
  sent_in-more (a ∷ b ∷ c ∷ []) h = absurd (omega arith)
  sent_in-more (a ∷ b ∷ c ∷ d ∷ []) h = absurd (omega arith)
  sent_in-more (a ∷ b ∷ c ∷ d ∷ e ∷ []) h = absurd (omega arith)
  sent_in-more (a ∷ b ∷ c ∷ d ∷ e ∷ f ∷ more) h = refl

-- seven words of a line, or all, tell what it says
pub entry_in-take : (words : List (List ℕ)) → entry_in (take 7 words) ≡ entry_in words
entry_in-take [] = refl
entry_in-take (a ∷ []) = refl
entry_in-take (a ∷ b ∷ []) = refl
entry_in-take (a ∷ b ∷ c ∷ []) = refl
entry_in-take (a ∷ b ∷ c ∷ d ∷ []) = refl
entry_in-take (a ∷ b ∷ c ∷ d ∷ e ∷ []) = refl
entry_in-take (a ∷ b ∷ c ∷ d ∷ e ∷ f ∷ []) = refl
entry_in-take (a ∷ b ∷ c ∷ d ∷ e ∷ f ∷ g ∷ more) = refl

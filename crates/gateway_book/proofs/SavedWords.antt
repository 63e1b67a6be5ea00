use Rattle.std.proofs.Common.{◌≡◌, ℕ, ◌+◌, ◌<◌, false, eqb, eq-eqb, List, [], ◌∷◌, length, map, take, drop, get_or, None, refl}
use Rattle.std.proofs.Common.{ap, ◌∙◌, arith}
use Rattle.std.proofs.lemmas.List.{get_or_default}
use Rattle.std.proofs.lemmas.List.Splits.{slice_split_none, slice_split_first}
use Rattle.std.proofs.lemmas.List.Sums.{position_or_len_is}
use Rattle.std.specs.List.{slice_split, position_or_len}
use Rattle.gateway_book.specs.Loading.{version_in, gateway_in, entry_in, member_in, words_between}

-- The words of a line of a saved text.

-- the gateway's line has no fewer than four words
pub gateway_in-fewer : {X : Type 0} (version : ℕ) (f : X → List ℕ) (words : List X) → length words < 4
    → gateway_in version (map f words) ≡ None
gateway_in-fewer version f [] h = refl
gateway_in-fewer version f (a ∷ []) h = refl
gateway_in-fewer version f (a ∷ b ∷ []) h = refl
gateway_in-fewer version f (a ∷ b ∷ c ∷ []) h = refl
gateway_in-fewer version f (a ∷ b ∷ c ∷ d ∷ more) h = absurd (omega arith)

-- a member's line has no fewer than six words
pub member_in-fewer : {X : Type 0} (f : X → List ℕ) (words : List X) → length words < 6 → member_in (map f words) ≡ None
member_in-fewer f [] h = refl
member_in-fewer f (a ∷ []) h = refl
member_in-fewer f (a ∷ b ∷ []) h = refl
member_in-fewer f (a ∷ b ∷ c ∷ []) h = refl
member_in-fewer f (a ∷ b ∷ c ∷ d ∷ []) h = refl
member_in-fewer f (a ∷ b ∷ c ∷ d ∷ e ∷ []) h = refl
member_in-fewer f (a ∷ b ∷ c ∷ d ∷ e ∷ g ∷ more) h = absurd (omega arith)

-- and no more
pub member_in-more : {X : Type 0} (f : X → List ℕ) (words : List X) → 6 < length words → member_in (map f words) ≡ None
member_in-more f [] h = absurd (omega arith)
member_in-more f (a ∷ []) h = absurd (omega arith)
member_in-more f (a ∷ b ∷ []) h = absurd (omega arith)
member_in-more f (a ∷ b ∷ c ∷ []) h = absurd (omega arith)
member_in-more f (a ∷ b ∷ c ∷ d ∷ []) h = absurd (omega arith)
member_in-more f (a ∷ b ∷ c ∷ d ∷ e ∷ []) h = absurd (omega arith)
member_in-more f (a ∷ b ∷ c ∷ d ∷ e ∷ g ∷ []) h = absurd (omega arith)
member_in-more f (a ∷ b ∷ c ∷ d ∷ e ∷ g ∷ i ∷ more) h = refl

-- where no byte before is a space, the bytes before one are the first word
pub words_between-first : (line : List ℕ) (place : ℕ) → place < length line
    → ((k : ℕ) → k < place → eqb (get_or line k 0) 32 ≡ false) → get_or line place 0 ≡ 32
    → words_between line ≡ take place line ∷ words_between (drop (place + 1) line)
words_between-first line place inside before at =
    let here : position_or_len (λ b. eqb b 32) line ≡ place =
    position_or_len_is (λ b. eqb b 32) line place 0 (omega arith) before (λ h. eq-eqb (get_or line place 0) 32 at) in
    slice_split_first (λ b. eqb b 32) line 0 (omega (arith, here))
    ∙ ap (λ n. take n line ∷ slice_split (λ b. eqb b 32) (drop (n + 1) line)) here

-- where no byte is a space, the line is one word
pub words_between-none : (line : List ℕ) → ((k : ℕ) → k < length line → eqb (get_or line k 0) 32 ≡ false)
    → words_between line ≡ line ∷ []
words_between-none line none =
    slice_split_none (λ b. eqb b 32) line (λ k d h. ap (λ b. eqb b 32) (get_or_default line k d 0 h) ∙ none k h)

-- seven words, or all, tell what a line says
pub version_in-take : (words : List (List ℕ)) → version_in (take 7 words) ≡ version_in words
version_in-take [] = refl
version_in-take (a ∷ []) = refl
version_in-take (a ∷ b ∷ []) = refl
version_in-take (a ∷ b ∷ c ∷ more) = refl

pub gateway_in-take : (version : ℕ) (words : List (List ℕ)) → gateway_in version (take 7 words) ≡ gateway_in version words
gateway_in-take version [] = refl
gateway_in-take version (a ∷ []) = refl
gateway_in-take version (a ∷ b ∷ []) = refl
gateway_in-take version (a ∷ b ∷ c ∷ []) = refl
gateway_in-take version (a ∷ b ∷ c ∷ d ∷ []) = refl
gateway_in-take version (a ∷ b ∷ c ∷ d ∷ e ∷ []) = refl
gateway_in-take version (a ∷ b ∷ c ∷ d ∷ e ∷ f ∷ more) = refl

pub entry_in-take : (words : List (List ℕ)) → entry_in (take 7 words) ≡ entry_in words
entry_in-take [] = refl
entry_in-take (a ∷ []) = refl
entry_in-take (a ∷ b ∷ []) = refl
entry_in-take (a ∷ b ∷ c ∷ []) = refl
entry_in-take (a ∷ b ∷ c ∷ d ∷ []) = refl
entry_in-take (a ∷ b ∷ c ∷ d ∷ e ∷ []) = refl
entry_in-take (a ∷ b ∷ c ∷ d ∷ e ∷ f ∷ []) = refl
entry_in-take (a ∷ b ∷ c ∷ d ∷ e ∷ f ∷ g ∷ more) = refl

-- A text to which pieces were added one by one.
use Rattle.std.proofs.Common.{◌≡◌, List, ◌++◌, ap, ◌∙◌, append_assoc}

joined_two : {X : Type 0} {t u : List X} (old a b : List X) → t ≡ old ++ a → u ≡ t ++ b → u ≡ old ++ (a ++ b)
joined_two old a b e f = f ∙ ap (λ l. l ++ b) e ∙ append_assoc old a b

pub joined_three : {X : Type 0} {t u v : List X} (old a b c : List X) → t ≡ old ++ a → u ≡ t ++ b → v ≡ u ++ c → v ≡ old ++ (a ++ b ++ c)
joined_three old a b c e f g = joined_two old (a ++ b) c (joined_two old a b e f) g

pub joined_four : {X : Type 0} {t u v w : List X} (old a b c d : List X) → t ≡ old ++ a → u ≡ t ++ b → v ≡ u ++ c → w ≡ v ++ d
    → w ≡ old ++ (a ++ b ++ c ++ d)
joined_four old a b c d e f g h = joined_two old (a ++ b ++ c) d (joined_three old a b c e f g) h

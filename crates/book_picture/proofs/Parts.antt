use Rattle.std.specs.Prelude.{ℕ, ◌≡◌, List, [], ◌∷◌, ◌++◌, map, Option}
use Rattle.std.specs.Io.KnownBytes.{Appends}
use Rattle.std.proofs.Common.{sym, ap, ◌∙◌, append_assoc, subst}
use Rattle.text_lines.specs.Line.{text_of, text_of-append}
use Rattle.text_lines.specs.Writing.{WritesAllBut, WritesFront, WritesAllBut-more, WritesAllBut-trans, WritesFront-after}
use Rattle.text_lines.specs.Writing.{WritesFront-more, Appends-after}

-- A text that is put part by part behind what was gathered.

-- the parts of a text of lines
parts : (old : List ℕ) (x y : List (List ℕ)) → old ++ text_of (x ++ y) ≡ (old ++ text_of x) ++ text_of y
parts old x y = ap (λ l. old ++ l) (text_of-append x y) ∙ sym (append_assoc old (text_of x) (text_of y))

-- a line of nine pieces that is added piece by piece, with its end
pub nine_pieces : (a b c d e f g h i : List ℕ)
    → (((((((([] ++ a) ++ b) ++ c) ++ d) ++ e) ++ f) ++ g) ++ h) ++ (i ++ 10 ∷ [])
    ≡ (a ++ (b ++ (c ++ (d ++ (e ++ (f ++ (g ++ (h ++ i)))))))) ++ 10 ∷ []
nine_pieces a b c d e f g h i = simp append_assoc

-- two lines, the second of two pieces
pub two_lines : (old a b c : List ℕ)
    → ((old ++ (a ++ 10 ∷ [])) ++ b) ++ (c ++ 10 ∷ []) ≡ old ++ text_of (a ∷ (b ++ c) ∷ [])
two_lines old a b c = simp append_assoc

-- three texts of lines, one after the other
pub three_texts : (x y z : List (List ℕ)) → text_of (x ++ (y ++ z)) ≡ (([] ++ text_of x) ++ text_of y) ++ text_of z
three_texts x y z = rw (text_of-append x (y ++ z), text_of-append y z) (sym (append_assoc (text_of x) (text_of y) (text_of z)))

module _ (a b : Option (List ℕ)) (old : List ℕ) (x : List (List ℕ)) where
  -- the first part was put
  pub put_first : (bytes pending : List ℕ) → bytes ≡ text_of x → WritesAllBut a b (old ++ bytes) pending
      → WritesAllBut a b (old ++ text_of x) pending
  put_first bytes pending e put =
      let P : List ℕ → Type 0 = λ l. WritesAllBut a b (old ++ l) pending in
      subst P e put

  -- of the first part a front was written
  pub front_first : (y : List (List ℕ)) (bytes : List ℕ) → bytes ≡ text_of x → WritesFront a b (old ++ bytes)
      → WritesFront a b (old ++ text_of (x ++ y))
  front_first y bytes e front =
      let P : List ℕ → Type 0 = λ l. WritesFront a b (old ++ l) in
      let Q : List ℕ → Type 0 = λ l. WritesFront a b l in
      subst Q (sym (parts old x y)) (WritesFront-more a b (old ++ text_of x) (text_of y) (subst P e front))

  module _ (c : Option (List ℕ)) (y : List (List ℕ)) (pending bytes : List ℕ) (e : bytes ≡ text_of y)
      (first : WritesAllBut a b (old ++ text_of x) pending) where
    whole : (P : List ℕ → Type 0) → P ((old ++ text_of x) ++ bytes) → P (old ++ text_of (x ++ y))
    whole P p = subst P (ap (λ l. (old ++ text_of x) ++ l) e ∙ sym (parts old x y)) p

    -- the second part was put behind it
    pub put_second : (rest : List ℕ) → WritesAllBut b c (pending ++ bytes) rest → WritesAllBut a c (old ++ text_of (x ++ y)) rest
    put_second rest put =
        whole (λ l. WritesAllBut a c l rest)
        (WritesAllBut-trans a b c ((old ++ text_of x) ++ bytes) (pending ++ bytes) rest
        (WritesAllBut-more a b (old ++ text_of x) pending bytes first) put)

    -- of the second part a front was written
    pub front_second : WritesFront b c (pending ++ bytes) → WritesFront a c (old ++ text_of (x ++ y))
    front_second front =
        whole (λ l. WritesFront a c l)
        (WritesFront-after a b c ((old ++ text_of x) ++ bytes) (pending ++ bytes)
        (WritesAllBut-more a b (old ++ text_of x) pending bytes first) front)

    -- the second part was written with all before it
    pub all_second : Appends b c (pending ++ bytes) → Appends a c (old ++ text_of (x ++ y))
    all_second put =
        whole (λ l. Appends a c l)
        (Appends-after a b c ((old ++ text_of x) ++ bytes) (pending ++ bytes)
        (WritesAllBut-more a b (old ++ text_of x) pending bytes first) put)

-- A text of lines that is put line by line, from one member to the next.
module _ (a b : Option (List ℕ)) {X : Type 0} (line_of : X → List ℕ) (text pending : List ℕ) (ahead rest : List X) (x : X)
    (line : List ℕ) (e : line ≡ line_of x ++ 10 ∷ []) (next : ahead ≡ x ∷ rest)
    (part : WritesAllBut a b text (pending ++ text_of (map line_of ahead))) where
  -- the next line behind what is pending
  line_ahead : pending ++ text_of (map line_of ahead) ≡ (pending ++ line) ++ text_of (map line_of rest)
  line_ahead =
      ap (λ (xs : List X). pending ++ text_of (map line_of xs)) next
      ∙ ap (λ l. pending ++ l) (sym (append_assoc (line_of x) (10 ∷ []) (text_of (map line_of rest))))
      ∙ ap (λ l. pending ++ (l ++ text_of (map line_of rest))) (sym e)
      ∙ sym (append_assoc pending line (text_of (map line_of rest)))

  before : WritesAllBut a b text ((pending ++ line) ++ text_of (map line_of rest))
  before = let P : List ℕ → Type 0 = λ l. WritesAllBut a b text l in subst P line_ahead part

  pub line_put : (c : Option (List ℕ)) (pending_after : List ℕ) → WritesAllBut b c (pending ++ line) pending_after
      → WritesAllBut a c text (pending_after ++ text_of (map line_of rest))
  line_put c pending_after put =
      WritesAllBut-trans a b c text ((pending ++ line) ++ text_of (map line_of rest))
      (pending_after ++ text_of (map line_of rest)) before
      (WritesAllBut-more b c (pending ++ line) pending_after (text_of (map line_of rest)) put)

  pub line_front : (c : Option (List ℕ)) → WritesFront b c (pending ++ line) → WritesFront a c text
  line_front c front =
      WritesFront-after a b c text ((pending ++ line) ++ text_of (map line_of rest)) before
      (WritesFront-more b c (pending ++ line) (text_of (map line_of rest)) front)

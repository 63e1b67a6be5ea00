-- Texts that are put behind what is gathered, one after the other.
use Rattle.std.proofs.Common.{◌≡◌, ℕ, ◌+◌, ◌/◌, ◌%◌, ◌<◌, slice_index, List, [], ◌∷◌, ◌++◌}
use Rattle.std.proofs.Common.{length, take, drop, get_or, codes}
use Rattle.std.proofs.Common.{Option, Result, Ok, Err, IsErr, OnOk, OnErr, refl, sym, ap, ◌∙◌, subst, append_assoc, append-nil}
use Rattle.std.proofs.lemmas.List.{take_more, take-append-drop}
use Rattle.hex.specs.Hex.{encode_with, encode_lower, lower_digits}
use Rattle.text_lines.specs.Writing.{WritesAllBut, WritesFront, WritesAllBut-refl, WritesAllBut-more, WritesAllBut-trans}
use Rattle.text_lines.specs.Writing.{WritesFront-more, WritesFront-after}
use Rattle.text_lines.specs.Calls.{CountsFailure}
use Rattle.text_words.specs.Words.{spaced}
use Rattle.run_lines.specs.Putting.{Puts}

-- at first nothing was put
pub put-none : (a : Option (List ℕ)) (out : List ℕ) → WritesAllBut a a (out ++ []) out
put-none a out = rw append-nil (WritesAllBut-refl a out)

-- one text was put, and then another
pub put-both : (a b c : Option (List ℕ)) (out x mid y now : List ℕ) → WritesAllBut a b (out ++ x) mid
    → WritesAllBut b c (mid ++ y) now → WritesAllBut a c (out ++ (x ++ y)) now
put-both a b c out x mid y now first second =
    rw (← append_assoc out x y) (WritesAllBut-trans a b c ((out ++ x) ++ y) (mid ++ y) now
    (WritesAllBut-more a b (out ++ x) mid y first) second)

-- one text was put, and of another a front
pub put-front : (a b c : Option (List ℕ)) (out x mid y : List ℕ) → WritesAllBut a b (out ++ x) mid → WritesFront b c (mid ++ y)
    → WritesFront a c (out ++ (x ++ y))
put-front a b c out x mid y first second =
    rw (← append_assoc out x y) (WritesFront-after a b c ((out ++ x) ++ y) (mid ++ y)
    (WritesAllBut-more a b (out ++ x) mid y first) second)

-- of one text a front was put, and nothing of what comes after it
pub front-of_both : (a b : Option (List ℕ)) (out x y : List ℕ) → WritesFront a b (out ++ x) → WritesFront a b (out ++ (x ++ y))
front-of_both a b out x y front = rw (← append_assoc out x y) (WritesFront-more a b (out ++ x) y front)

-- the same where the second ends the call
pub OnOk-both : {T E : Type 0} (r : Result T E) (a b c : Option (List ℕ)) (out x mid y now : List ℕ)
    → WritesAllBut a b (out ++ x) mid → OnOk r (WritesAllBut b c (mid ++ y) now) → OnOk r (WritesAllBut a c (out ++ (x ++ y)) now)
OnOk-both (Ok done) a b c out x mid y now first second = put-both a b c out x mid y now first second
OnOk-both (Err fault) a b c out x mid y now first second = tt

pub OnErr-both : {T E : Type 0} (r : Result T E) (a b c : Option (List ℕ)) (out x mid y : List ℕ)
    → WritesAllBut a b (out ++ x) mid → OnErr r (WritesFront b c (mid ++ y)) → OnErr r (WritesFront a c (out ++ (x ++ y)))
OnErr-both (Ok done) a b c out x mid y first second = tt
OnErr-both (Err fault) a b c out x mid y first second = put-front a b c out x mid y first second

pub puts-then : {T U E F : Type 0} {done : U} (r : Result T E) (a b c : Option (List ℕ)) (k l m : ℕ) (out x mid y now : List ℕ)
    → Puts {T = U} {E = F} a b k l (out ++ x) mid (Ok done) → Puts b c l m (mid ++ y) now r → Puts a c k m (out ++ (x ++ y)) now r
puts-then r a b c k l m out x mid y now first second = record {
  ok = OnOk-both r a b c out x mid y now first.ok second.ok;
  err = OnErr-both r a b c out x mid y first.ok second.err;
  failed = subst (λ n. CountsFailure n m r) first.failed second.failed;
}

-- the same where the first ends it
pub puts-stopped : {T U E F : Type 0} {fault : F} (r : Result T E) (a b : Option (List ℕ)) (k l : ℕ) (out x mid y now : List ℕ)
    → Puts {T = U} {E = F} a b k l (out ++ x) mid (Err fault) → IsErr r → Puts a b k l (out ++ (x ++ y)) now r
puts-stopped (Ok done) a b k l out x mid y now first stopped = absurd (cc)
puts-stopped (Err fault) a b k l out x mid y now first stopped =
    record { ok = tt; err = front-of_both a b out x y first.err; failed = first.failed }

-- what is known anyway is known after an Err
pub on_err_anyway : {T E P : Type 0} (r : Result T E) → P → OnErr r P
on_err_anyway (Ok done) known = tt
on_err_anyway (Err fault) known = known

-- the text of items is that of each, one after the other
module _ {X : Type 0} (text : List X → List ℕ) (joins : (xs ys : List X) → text (xs ++ ys) ≡ text xs ++ text ys) where
  -- one item more was put
  pub put-more : (a b c : Option (List ℕ)) (out mid now : List ℕ) (xs : List X) (i : ℕ) (d : X) → i < length xs
      → WritesAllBut a b (out ++ text (take i xs)) mid → WritesAllBut b c (mid ++ text (get_or xs i d ∷ [])) now
      → WritesAllBut a c (out ++ text (take (i + 1) xs)) now
  put-more a b c out mid now xs i d h first second =
      rw (take_more xs i d h, joins (take i xs) (get_or xs i d ∷ []))
      (put-both a b c out (text (take i xs)) mid (text (get_or xs i d ∷ [])) now first second)

  -- of one item more a front was put, and the rest is not put
  pub put-stopped : (a b c : Option (List ℕ)) (out mid : List ℕ) (xs : List X) (i : ℕ) (d : X) → i < length xs
      → WritesAllBut a b (out ++ text (take i xs)) mid → WritesFront b c (mid ++ text (get_or xs i d ∷ []))
      → WritesFront a c (out ++ text xs)
  put-stopped a b c out mid xs i d h first second =
      let one : text (take (i + 1) xs) ≡ text (take i xs) ++ text (get_or xs i d ∷ []) =
      ap text (take_more xs i d h) ∙ joins (take i xs) (get_or xs i d ∷ []) in
      let whole : text xs ≡ text (take (i + 1) xs) ++ text (drop (i + 1) xs) =
      sym (ap text (take-append-drop (i + 1) xs)) ∙ joins (take (i + 1) xs) (drop (i + 1) xs) in
      let front : WritesFront a c (out ++ text (take (i + 1) xs)) =
      rw one (put-front a b c out (text (take i xs)) mid (text (get_or xs i d ∷ [])) first second) in
      rw whole (front-of_both a c out (text (take (i + 1) xs)) (text (drop (i + 1) xs)) front)

-- the digits of some bytes and then of others
pub digits-append : (xs ys : List ℕ) → encode_lower (xs ++ ys) ≡ encode_lower xs ++ encode_lower ys
unfolding encode_with
digits-append [] ys = refl
digits-append (x ∷ xs) ys =
    ap (λ l. slice_index lower_digits (x / 16) ∷ slice_index lower_digits (x % 16) ∷ l) (digits-append xs ys)

-- a frame's line is put in three parts
pub frame-parts : (number : List ℕ) (hex : List ℕ) → spaced (codes "frame" ∷ number ∷ hex ∷ []) ++ (10 ∷ [])
    ≡ (codes "frame " ++ (number ++ (32 ∷ []))) ++ (hex ++ (10 ∷ []))
frame-parts number hex = simp append_assoc

use Rattle.std.proofs.Common.{ℕ, zero, suc, ◌≡◌, ◌+◌, ◌<◌, Bool, true, false, cond, not, if◌then◌else◌, List, [], ◌∷◌}
use Rattle.std.proofs.Common.{map, length, slice_get, Option, Some, None, refl, sym, ap, subst, ◌∙◌, arith}
use Rattle.std.specs.List.{position_or_len}
use Rattle.std.specs.Option.{option_map, option_map_or}
use Rattle.std.specs.Map.{keys_of, lookup}
use Rattle.std.specs.Str.{bytes_eq}
use Rattle.std.proofs.lemmas.Slice.Eq.{bytes_eq-Decides}
use Rattle.indexmap.specs.IndexMap.{insert_entry}
use Rattle.uplink_gather.specs.Indexed.{Index, text_at, number_of, Renews}

-- Lemmas on the index of bytes.

-- the entries of a map whose keys are seen as bytes
abbrev pub as_index : {K : Type 0} → (K → List ℕ) → List (K × ℕ) → Index
as_index text es = map (λ e. (text e.0, e.1)) es

module _ {K : Type 0} (text : K → List ℕ) where
  -- a look-up by bytes finds the same in both
  pub lookup-as_index : (bytes : List ℕ) (es : List (K × ℕ))
      → lookup (λ k. bytes_eq bytes (text k)) es ≡ number_of bytes (as_index text es)
  lookup-as_index bytes [] = refl
  lookup-as_index bytes (e ∷ es) = ap (cond (bytes_eq bytes (text e.0)) (Some e.1)) (lookup-as_index bytes es)

  pub as_index-get : (es : List (K × ℕ)) (i : ℕ) → slice_get (as_index text es) i
      ≡ option_map (λ e. (text e.0, e.1)) (slice_get es i)
  as_index-get [] i = refl
  as_index-get (e ∷ es) zero = refl
  as_index-get (e ∷ es) (suc i) = as_index-get es i

  or_len-as_index : (t : List ℕ → Bool) (es : List (K × ℕ)) → position_or_len (λ k. t (text k)) (keys_of es)
      ≡ position_or_len t (keys_of (as_index text es))
  or_len-as_index t [] = refl
  or_len-as_index t (e ∷ es) = ap (λ n. cond (not (t (text e.0))) (1 + n) 0) (or_len-as_index t es)

  -- a key that is put in is put in at its bytes
  as_index-insert : (k : K) (n : ℕ) (es : List (K × ℕ)) → as_index text (insert_entry (λ a b. bytes_eq (text a) (text b)) es k n)
      ≡ insert_entry bytes_eq (as_index text es) (text k) n
  as_index-insert k n [] = refl
  as_index-insert k n (e ∷ es) = by (bytes_eq (text k) (text e.0)) (as_index-insert k n es)
    where
      by : (t : Bool) → as_index text (insert_entry (λ a b. bytes_eq (text a) (text b)) es k n)
          ≡ insert_entry bytes_eq (as_index text es) (text k) n
          → as_index text (if t then (e.0, n) ∷ es else e ∷ insert_entry (λ a b. bytes_eq (text a) (text b)) es k n)
          ≡ (if t then (text e.0, n) ∷ as_index text es
          else (text e.0, e.1) ∷ insert_entry bytes_eq (as_index text es) (text k) n)
      by true rest = refl
      by false rest = ap (λ r. (text e.0, e.1) ∷ r) rest

-- equal bytes pass the same tests
same_bytes : (a b : List ℕ) → bytes_eq a b ≡ true → a ≡ b
same_bytes a b h = (bytes_eq-Decides a b).0 h

-- where bytes that are put in stand then
abbrev place_in : List ℕ → Index → ℕ
place_in bytes index = position_or_len (bytes_eq bytes) (keys_of index)

-- bytes that are put in lead to their number, and others where they led
number_of-insert : (bytes other : List ℕ) (n : ℕ) (index : Index)
    → number_of other (insert_entry bytes_eq index bytes n) ≡ (if bytes_eq other bytes then Some n else number_of other index)
number_of-insert bytes other n [] = refl
number_of-insert bytes other n (e ∷ es) =
    by (bytes_eq bytes e.0) (bytes_eq other bytes) (bytes_eq other e.0) refl refl refl (number_of-insert bytes other n es)
  where
    by : (t s u : Bool) → bytes_eq bytes e.0 ≡ t → bytes_eq other bytes ≡ s → bytes_eq other e.0 ≡ u
        → number_of other (insert_entry bytes_eq es bytes n) ≡ (if bytes_eq other bytes then Some n else number_of other es)
        → number_of other (if t then (e.0, n) ∷ es else e ∷ insert_entry bytes_eq es bytes n)
        ≡ (if s then Some n else cond u (Some e.1) (number_of other es))
    by true s u p q r rest = rw (r, sym r ∙ ap (bytes_eq other) (sym (same_bytes bytes e.0 p)) ∙ q) (ends s)
      where
        ends : (s : Bool) → cond s (Some n) (number_of other es) ≡ (if s then Some n else cond s (Some e.1) (number_of other es))
        ends true = refl
        ends false = refl
    by false true u p q r rest =
        let none : bytes_eq other e.0 ≡ false = ap (λ b. bytes_eq b e.0) (same_bytes other bytes q) ∙ p in
        rw none (rest ∙ rw q refl)
    by false false u p q r rest = rw r (ap (cond u (Some e.1)) (rest ∙ rw q refl))

-- the other bytes stand where they stood
text_at-head : (bytes : List ℕ) (m n : ℕ) (es : Index) (i : ℕ) → text_at ((bytes, m) ∷ es) i ≡ text_at ((bytes, n) ∷ es) i
text_at-head bytes m n es zero = refl
text_at-head bytes m n es (suc i) = refl

text_at-behind : (e : List ℕ × ℕ) (old new : Index) → ((i : ℕ) → i < length old → text_at new i ≡ text_at old i) → (i : ℕ)
    → i < length (e ∷ old) → text_at (e ∷ new) i ≡ text_at (e ∷ old) i
text_at-behind e old new rest zero h = refl
text_at-behind e old new rest (suc i) h = rest i (omega arith)

-- bytes that are put in
renews : (bytes : List ℕ) (n : ℕ) (index : Index)
    → Renews index (insert_entry bytes_eq index bytes n) bytes n (place_in bytes index)
renews bytes n [] =
    record {
      numbers = λ other. number_of-insert bytes other n [];
      within = omega arith;
      here = refl;
      longer = omega arith;
      kept = λ i h. absurd (omega arith);
    }
renews bytes n (e ∷ es) =
    by (bytes_eq bytes e.0) refl (λ other. number_of-insert bytes other n (e ∷ es)) (renews bytes n es)
  where
    by : (t : Bool) → bytes_eq bytes e.0 ≡ t
        → ((other : List ℕ) → number_of other (insert_entry bytes_eq (e ∷ es) bytes n)
        ≡ (if bytes_eq other bytes then Some n else number_of other (e ∷ es)))
        → Renews es (insert_entry bytes_eq es bytes n) bytes n (place_in bytes es)
        → Renews (e ∷ es) (insert_entry bytes_eq (e ∷ es) bytes n) bytes n (place_in bytes (e ∷ es))
    by true p numbers rest =
        rw p (record {
          numbers = rw p at numbers;
          within = omega arith;
          here = sym (same_bytes bytes e.0 p);
          longer = omega arith;
          kept = λ i h. text_at-head e.0 n e.1 es i;
        })
    by false p numbers rest =
        let place : suc (place_in bytes es) ≡ 1 + place_in bytes es = omega arith in
        let new : Index = insert_entry bytes_eq es bytes n in
        let P : ℕ → Type 0 = λ i. Renews (e ∷ es) (e ∷ new) bytes n i in
        rw p (subst P place (record {
          numbers = rw p at numbers;
          within = omega (arith, rest.within);
          here = rest.here;
          longer = omega (arith, rest.longer);
          kept = text_at-behind e es new rest.kept;
        }))

-- a key that is put in, of which the bytes are known
pub key_renews : {K : Type 0} (text : K → List ℕ) (es : List (K × ℕ)) (k : K) (n : ℕ) (bytes : List ℕ) → text k ≡ bytes
    → Renews (as_index text es) (as_index text (insert_entry (λ a b. bytes_eq (text a) (text b)) es k n)) bytes n
    (position_or_len (λ x. bytes_eq (text k) (text x)) (keys_of es))
key_renews text es k n bytes e =
    let index = as_index text es in
    let At : List ℕ → Type 0 = λ b. Renews index (insert_entry bytes_eq index (text k) n) b n (place_in (text k) index) in
    rw (as_index-insert text k n es, or_len-as_index text (bytes_eq (text k)) es) (subst At e (renews (text k) n index))

-- the bytes at a place, by the entry that stands there
pub text_at-as_index : {K : Type 0} (text : K → List ℕ) (es : List (K × ℕ)) (i : ℕ) (o : Option (K × ℕ)) → slice_get es i ≡ o
    → text_at (as_index text es) i ≡ option_map_or (λ e. text e.0) o []
text_at-as_index {K} text es i o e = ap (λ (r : Option (List ℕ × ℕ)). option_map_or (λ (e : List ℕ × ℕ). e.0) r [])
    (as_index-get text es i ∙ ap (option_map (λ e. (text e.0, e.1))) e) ∙ by o
  where
    by : (o : Option (K × ℕ)) → option_map_or (λ (e : List ℕ × ℕ). e.0) (option_map (λ e. (text e.0, e.1)) o) []
        ≡ option_map_or (λ e. text e.0) o []
    by None = refl
    by (Some e) = refl

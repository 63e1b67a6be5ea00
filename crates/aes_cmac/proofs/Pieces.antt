-- A message that grows, and the code of the whole.
use Rattle.std.proofs.Common.{◌≡◌, ℕ, zero, suc, ◌+◌, ◌-◌, ◌*◌, ◌/◌, ◌%◌, ◌<◌, ◌≤◌, List, [], ◌∷◌, ◌++◌, length, take, drop}
use Rattle.std.proofs.Common.{replicate, true, false, nat_lt, refl, inl, inr, ap, sym, ◌∙◌, arith}
use Rattle.std.specs.Prelude.{◌==◌, ◌&&◌}
use Rattle.std.proofs.lemmas.Bool.{cases_lt}
use Rattle.std.proofs.lemmas.Bool.Decides.{nat_tests}
use Rattle.std.proofs.lemmas.List.{take-append-le, drop-append-le, take_all, drop_at, append_assoc, drop-take, take-take}
use Rattle.std.proofs.lemmas.List.{take-append-drop, length-append, length-drop, length-take-le, length-replicate}
use Rattle.aes_cmac.specs.Aes.{xor_bytes, ciphertext}
use Rattle.aes_cmac.specs.Mac.{chain_after, cmac, padded_message, last_subkey, first_subkey, second_subkey}
use Rattle.aes_cmac.specs.Progress.{Progress, HasTaken, full_blocks}

-- every block of p, which has whole blocks, was added to X
pub record HasChained (s : Progress) (key p : List ℕ) : Type 0 where
  pub same_key : s.key ≡ key
  pub chain_is : s.chain ≡ chain_after key p (length p / 16)
  pub whole : length p % 16 ≡ 0
  pub empty : s.tail ≡ []

-- chain_after reads only the blocks that it counts
pub chain_after-append : (key p x : List ℕ) (n : ℕ) → 16 * n ≤ length p → chain_after key (p ++ x) n ≡ chain_after key p n
unfolding chain_after
chain_after-append key p x zero h = refl
chain_after-append key p x (suc n) h =
    let fits : 16 ≤ length (drop (16 * n) p) = omega (arith, length-drop (16 * n) p) in
    let block : take 16 (drop (16 * n) (p ++ x)) ≡ take 16 (drop (16 * n) p) =
    rw (drop-append-le (16 * n) p x (omega arith)) (take-append-le 16 (drop (16 * n) p) x fits) in
    rw (block, chain_after-append key p x n (omega arith)) refl

-- one block more
chain_after-block : (key p x : List ℕ) (n : ℕ) → length p ≡ 16 * n → length x ≡ 16
    → chain_after key (p ++ x) (suc n) ≡ ciphertext key (xor_bytes (chain_after key p n) x)
unfolding chain_after
chain_after-block key p x n at width =
    let block : take 16 (drop (16 * n) (p ++ x)) ≡ x = ap (take 16) (drop_at p x (16 * n) at) ∙ take_all 16 x (omega arith) in
    rw (block, chain_after-append key p x n (omega arith)) refl

pub HasChained_more : (s : Progress) (key p x : List ℕ) → HasChained s key p → length x ≡ 16
    → HasChained (record { key = s.key; chain = ciphertext s.key (xor_bytes s.chain x); tail = s.tail }) key (p ++ x)
HasChained_more s key p x held width =
    let len : length (p ++ x) ≡ length p + 16 = length-append p x ∙ ap (λ (k : ℕ). length p + k) width in
    let at : length p ≡ 16 * (length p / 16) = omega (arith, held.whole) in
    let count : length (p ++ x) / 16 ≡ suc (length p / 16) = omega (arith, held.whole) in
    record {
      same_key = held.same_key;
      chain_is =
          ap (λ (k : List ℕ). ciphertext k (xor_bytes s.chain x)) held.same_key
          ∙ ap (λ (c : List ℕ). ciphertext key (xor_bytes c x)) held.chain_is
          ∙ sym (chain_after-block key p x (length p / 16) at width) ∙ ap (chain_after key (p ++ x)) (sym count);
      whole = omega (arith, held.whole);
      empty = held.empty;
    }

-- the bytes after the blocks of p are held back
pub HasTaken_from : (s : Progress) (key p t : List ℕ) → s.key ≡ key → s.chain ≡ chain_after key p (length p / 16) → s.tail ≡ t
    → 16 * full_blocks (length p + length t) ≡ length p → HasTaken s key (p ++ t)
HasTaken_from s key p t same chain tail split =
    let len : length (p ++ t) ≡ length p + length t = length-append p t in
    let count : full_blocks (length (p ++ t)) ≡ length p / 16 = omega arith in
    record {
      same_key = same;
      chain_is = chain ∙ sym (chain_after-append key p t (length p / 16) (omega arith))
          ∙ ap (chain_after key (p ++ t)) (sym count);
      tail_is = tail ∙ sym (drop_at p t (16 * full_blocks (length (p ++ t))) (omega arith));
    }

-- the blocks of a message but the last
pub front : List ℕ → List ℕ
front m = take (16 * full_blocks (length m)) m

pub length-front : (m : List ℕ) → length (front m) ≡ 16 * full_blocks (length m)
unfolding front
length-front m = length-take-le (16 * full_blocks (length m)) m (omega arith)

pub front-tail : (s : Progress) (key m : List ℕ) → HasTaken s key m → m ≡ front m ++ s.tail
unfolding front
front-tail s key m held = rw held.tail_is (sym (take-append-drop (16 * full_blocks (length m)) m))

pub chain-front : (s : Progress) (key m : List ℕ) → HasTaken s key m → s.chain ≡ chain_after key (front m) (length (front m) / 16)
chain-front s key m held =
    let count : full_blocks (length m) ≡ length (front m) / 16 = omega (arith, length-front m) in
    held.chain_is ∙ ap (λ (x : List ℕ). chain_after key x (full_blocks (length m))) (front-tail s key m held)
    ∙ chain_after-append key (front m) s.tail (full_blocks (length m)) (omega (arith, length-front m))
    ∙ ap (chain_after key (front m)) count

pub length-tail : (s : Progress) (key m : List ℕ) → HasTaken s key m → length m ≡ 16 * full_blocks (length m) + length s.tail
length-tail s key m held =
    ap (λ (x : List ℕ). length x) (front-tail s key m held) ∙ length-append (front m) s.tail
    ∙ ap (λ (k : ℕ). k + length s.tail) (length-front m)

-- a piece that leaves what is held within a block
pub HasTaken_short : (s : Progress) (key m d : List ℕ) → HasTaken s key m → length s.tail + length d ≤ 16
    → HasTaken (record { key = s.key; chain = s.chain; tail = s.tail ++ d }) key (m ++ d)
HasTaken_short s key m d held room =
    let len : length (s.tail ++ d) ≡ length s.tail + length d = length-append s.tail d in
    let whole : m ++ d ≡ front m ++ (s.tail ++ d) = ap (λ (x : List ℕ). x ++ d) (front-tail s key m held)
    ∙ append_assoc (front m) s.tail d in
    rw whole
    (HasTaken_from (record { key = s.key; chain = s.chain; tail = s.tail ++ d }) key (front m) (s.tail ++ d) held.same_key
    (chain-front s key m held) refl
    (omega (arith, length-front m, length-tail s key m held)))

-- a piece that fills the block that is held, which is then added
pub HasChained_first : (s : Progress) (key m d : List ℕ) → HasTaken s key m → length s.tail + length d ≡ 16
    → HasChained (record { key = s.key; chain = ciphertext s.key (xor_bytes s.chain (s.tail ++ d)); tail = [] }) key (m ++ d)
HasChained_first s key m d held full =
    let len : length (s.tail ++ d) ≡ length s.tail + length d = length-append s.tail d in
    let whole : m ++ d ≡ front m ++ (s.tail ++ d) = ap (λ (x : List ℕ). x ++ d) (front-tail s key m held)
    ∙ append_assoc (front m) s.tail d in
    rw whole
    (HasChained_more (record { key = s.key; chain = s.chain; tail = [] }) key (front m) (s.tail ++ d)
    (record {
      same_key = held.same_key;
      chain_is = chain-front s key m held;
      whole = omega (arith, length-front m);
      empty = refl;
    })
    (omega arith))

-- sixteen bytes more of a piece
pub HasChained_block : (s : Progress) (key m d x : List ℕ) (a : ℕ) → HasChained s key (m ++ take a d) → a + 16 ≤ length d
    → x ≡ take 16 (drop a d)
    → HasChained (record { key = s.key; chain = ciphertext s.key (xor_bytes s.chain x); tail = s.tail }) key
    (m ++ take (a + 16) d)
HasChained_block s key m d x a held fits ex =
    let width : length (take 16 (drop a d)) ≡ 16 = length-take-le 16 (drop a d) (omega (arith, length-drop a d)) in
    let grown : take (a + 16) d ≡ take a d ++ take 16 (drop a d) =
    sym (rw (take-take a (a + 16) d (omega arith), drop-take a 16 d) at (take-append-drop a (take (a + 16) d))) in
    let whole : m ++ take (a + 16) d ≡ (m ++ take a d) ++ take 16 (drop a d) =
    ap (λ (y : List ℕ). m ++ y) grown ∙ sym (append_assoc m (take a d) (take 16 (drop a d))) in
    rw (whole, ex) (HasChained_more s key (m ++ take a d) (take 16 (drop a d)) held width)

-- the rest of a piece, which is held
pub HasTaken_rest : (s : Progress) (key m d x : List ℕ) (a : ℕ) → HasChained s key (m ++ take a d) → a < length d
    → length d ≤ a + 16
    → x ≡ drop a d → HasTaken (record { key = s.key; chain = s.chain; tail = s.tail ++ x }) key (m ++ d)
HasTaken_rest s key m d x a held more short ex =
    let whole : m ++ d ≡ (m ++ take a d) ++ drop a d =
    ap (λ (y : List ℕ). m ++ y) (sym (take-append-drop a d)) ∙ sym (append_assoc m (take a d) (drop a d)) in
    rw whole
    (HasTaken_from (record { key = s.key; chain = s.chain; tail = s.tail ++ x }) key (m ++ take a d)
    (drop a d) held.same_key held.chain_is
    (ap (λ (y : List ℕ). y ++ x) held.empty ∙ ex) (omega (arith, length-drop a d, held.whole)))

-- ---- the code of the whole message

pub cmac-whole : (s : Progress) (key m x : List ℕ) → HasTaken s key m → length s.tail ≡ 16
    → x ≡ xor_bytes s.tail (first_subkey s.key)
    → ciphertext s.key (xor_bytes s.chain x) ≡ cmac key m
unfolding cmac padded_message last_subkey
cmac-whole s key m x held full ex =
    let len = length-tail s key m held in
    let some : nat_lt 0 (length m) ≡ true = grind (arith, nat_tests) in
    let even : (length m % 16 == 0) ≡ true = grind (arith, nat_tests) in
    let count : length m / 16 - 1 ≡ full_blocks (length m) = omega arith in
    let block : take 16 (drop (16 * full_blocks (length m)) m) ≡ s.tail =
    ap (take 16) (sym held.tail_is) ∙ take_all 16 s.tail (omega arith) in
    rw (some, even, count, block, ex, held.same_key, held.chain_is) refl

not_whole : (n t : ℕ) → n % 16 ≡ t → n ≡ 16 * full_blocks n + t → t < 16 → (nat_lt 0 n && (n % 16 == 0)) ≡ false
not_whole zero t rest split short = refl
not_whole (suc n) t rest split short =
    let some : nat_lt 0 (suc n) ≡ true = grind (arith, nat_tests) in
    let odd : (suc n % 16 == 0) ≡ false = grind (arith, nat_tests) in
    rw (some, odd) refl

pub cmac-filled : (s : Progress) (key m x : List ℕ) → HasTaken s key m → length s.tail < 16
    → x ≡ xor_bytes (s.tail ++ 0x80 ∷ replicate (15 - length s.tail) 0) (second_subkey s.key)
    → ciphertext s.key (xor_bytes s.chain x) ≡ cmac key m
unfolding cmac padded_message last_subkey
cmac-filled s key m x held short ex =
    let len = length-tail s key m held in
    let rest : length m % 16 ≡ length s.tail = omega arith in
    let test : (nat_lt 0 (length m) && (length m % 16 == 0)) ≡ false = not_whole (length m) (length s.tail) rest len short in
    let last : List ℕ = s.tail ++ 0x80 ∷ replicate (15 - length s.tail) 0 in
    let width : length last ≡ 16 =
    length-append s.tail (0x80 ∷ replicate (15 - length s.tail) 0)
    ∙ ap (λ (k : ℕ). length s.tail + suc k) (length-replicate (15 - length s.tail) 0) ∙ omega arith in
    let padded : m ++ 0x80 ∷ replicate (15 - length m % 16) 0 ≡ front m ++ last =
    ap (λ (k : ℕ). m ++ 0x80 ∷ replicate (15 - k) 0) rest
    ∙ ap (λ (y : List ℕ). y ++ 0x80 ∷ replicate (15 - length s.tail) 0) (front-tail s key m held)
    ∙ append_assoc (front m) s.tail (0x80 ∷ replicate (15 - length s.tail) 0) in
    let count : length (front m ++ last) / 16 - 1 ≡ length (front m) / 16 =
    omega (arith, length-append (front m) last, length-front m) in
    let chain : chain_after key (front m ++ last) (length (front m) / 16) ≡ s.chain =
    chain_after-append key (front m) last (length (front m) / 16) (omega (arith, length-front m))
    ∙ sym (chain-front s key m held) in
    let block : take 16 (drop (16 * (length (front m) / 16)) (front m ++ last)) ≡ last =
    ap (take 16) (drop_at (front m) last (16 * (length (front m) / 16)) (omega (arith, length-front m)))
    ∙ take_all 16 last (omega arith) in
    rw (test, padded, count, chain, block, ex, held.same_key) refl

-- the cipher of the last block, from what the state holds and the last block xored with its subkey
pub cmac-last : (s : Progress) (key m x k y : List ℕ) → HasTaken s key m → k ≡ s.key → y ≡ s.chain
    → (length s.tail ≡ 16 → x ≡ xor_bytes s.tail (first_subkey s.key))
    → (length s.tail < 16 → x ≡ xor_bytes (s.tail ++ 0x80 ∷ replicate (15 - length s.tail) 0) (second_subkey s.key))
    → ciphertext k (xor_bytes y x) ≡ cmac key m
cmac-last s key m x k y held ek ey whole filled =
    rw (ek, ey)
    (elim (cases_lt (length s.tail) 16) [
      | inl short ↦ cmac-filled s key m x held short (filled short)
      | inr long ↦
          let full : length s.tail ≡ 16 = omega (arith, length-tail s key m held) in
          cmac-whole s key m x held full (whole full)
    ])

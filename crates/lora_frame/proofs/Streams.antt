-- A payload xored with the key stream, block by block.
use Rattle.std.proofs.Common.{◌≡◌, ℕ, zero, suc, min, ◌+◌, ◌*◌, ◌/◌, ◌<◌, ◌≤◌, List, [], ◌∷◌, ◌++◌, length, take, drop, get_or}
use Rattle.std.proofs.Common.{set, refl, ap, sym, ◌∙◌, arith}
use Rattle.std.specs.Prelude.{bit_xor}
use Rattle.std.proofs.lemmas.List.{append_assoc, take-append-drop, take-take, drop-take, take_all, take_more, take_more_set}
use Rattle.std.proofs.lemmas.List.{length-take-le, length-append, length-drop, drop-drop, append-nil}
use Rattle.aes_cmac.specs.Aes.{xor_bytes, ciphertext}
use Rattle.lora_frame.specs.Blocks.{key_stream, stream_seed, crypted}

pub xor_bytes-append : (a b c d : List ℕ) → length a ≡ length c → xor_bytes (a ++ b) (c ++ d) ≡ xor_bytes a c ++ xor_bytes b d
xor_bytes-append [] b [] d h = refl
xor_bytes-append [] b (y ∷ ys) d h = absurd (omega arith)
xor_bytes-append (x ∷ xs) b [] d h = absurd (omega arith)
xor_bytes-append (x ∷ xs) b (y ∷ ys) d h = ap (λ (t : List ℕ). bit_xor x y ∷ t) (xor_bytes-append xs b ys d (omega arith))

xor_bytes_push : (xs b : List ℕ) (x : ℕ) → length xs < length b
    → xor_bytes (xs ++ x ∷ []) b ≡ xor_bytes xs b ++ bit_xor x (get_or b (length xs) 0) ∷ []
xor_bytes_push [] [] x h = absurd (omega arith)
xor_bytes_push [] (y ∷ ys) x h = refl
xor_bytes_push (z ∷ xs) [] x h = absurd (omega arith)
xor_bytes_push (z ∷ xs) (y ∷ ys) x h = ap (λ (t : List ℕ). bit_xor z y ∷ t) (xor_bytes_push xs ys x (omega arith))

-- one byte more, xored
pub xored_more : (out piece block : List ℕ) (i v : ℕ) → i < length out → i < length piece → i < length block
    → v ≡ bit_xor (get_or piece i 0) (get_or block i 0) → take i out ≡ xor_bytes (take i piece) block
    → take (i + 1) (set out i v) ≡ xor_bytes (take (i + 1) piece) block
xored_more out piece block i v room within under ev done =
    let len : length (take i piece) ≡ i = length-take-le i piece (omega arith) in
    take_more_set out i v room ∙ ap (λ (t : List ℕ). t ++ v ∷ []) done
    ∙ ap (λ (n : ℕ). xor_bytes (take i piece) block ++ n ∷ [])
    (ev ∙ ap (λ (k : ℕ). bit_xor (get_or piece i 0) (get_or block k 0)) (sym len))
    ∙ sym (xor_bytes_push (take i piece) block (get_or piece i 0) (omega arith))
    ∙ ap (λ (t : List ℕ). xor_bytes t block) (sym (take_more piece i 0 within))

-- one block more of a list
take_block : (p : List ℕ) (i : ℕ) → take (16 * (i + 1)) p ≡ take (16 * i) p ++ take 16 (drop (16 * i) p)
take_block p i =
    let next : 16 * (i + 1) ≡ 16 * i + 16 = omega arith in
    let whole : take (16 * i) (take (16 * i + 16) p) ++ drop (16 * i) (take (16 * i + 16) p) ≡ take (16 * i + 16) p =
    take-append-drop (16 * i) (take (16 * i + 16) p) in
    rw next (sym (rw (take-take (16 * i) (16 * i + 16) p (omega arith), drop-take (16 * i) 16 p) at whole))

-- one block more of the key stream
pub key_stream-more : (key block : List ℕ) (direction addr counter i : ℕ)
    → block ≡ ciphertext key (stream_seed direction addr counter (i + 1))
    → key_stream key direction addr counter (i + 1) ≡ key_stream key direction addr counter i ++ block
unfolding key_stream
key_stream-more key block direction addr counter i eb =
    let next : i + 1 ≡ suc i = omega arith in
    rw (eb, next) refl

-- one block more of an encrypted payload
pub crypted_more : (start items added payload key block : List ℕ) (direction addr counter i : ℕ)
    → items ≡ start ++ xor_bytes (take (16 * i) payload) (key_stream key direction addr counter i)
    → length (key_stream key direction addr counter i) ≡ 16 * i → 16 * i ≤ length payload
    → block ≡ ciphertext key (stream_seed direction addr counter (i + 1))
    → added ≡ xor_bytes (take 16 (drop (16 * i) payload)) block
    → items ++ added ≡ start ++ xor_bytes (take (16 * (i + 1)) payload) (key_stream key direction addr counter (i + 1))
crypted_more start items added payload key block direction addr counter i done width within eb ea =
    let same : length (take (16 * i) payload) ≡ length (key_stream key direction addr counter i) =
    length-take-le (16 * i) payload within ∙ sym width in
    ap (λ (x : List ℕ). x ++ added) done ∙ append_assoc start _ added
    ∙ ap (λ (x : List ℕ). start ++ (xor_bytes (take (16 * i) payload) (key_stream key direction addr counter i) ++ x)) ea
    ∙ ap (λ (x : List ℕ). start ++ x)
    (sym (xor_bytes-append (take (16 * i) payload) (take 16 (drop (16 * i) payload))
    (key_stream key direction addr counter i) block same)
    ∙ ap (λ (x : List ℕ). xor_bytes x (key_stream key direction addr counter i ++ block)) (sym (take_block payload i))
    ∙ ap (λ (x : List ℕ). xor_bytes (take (16 * (i + 1)) payload) x)
    (sym (key_stream-more key block direction addr counter i eb)))

-- a whole payload
pub crypted_all : (start items payload key : List ℕ) (direction addr counter i : ℕ) → i ≡ (length payload + 15) / 16
    → items ≡ start ++ xor_bytes (take (16 * i) payload) (key_stream key direction addr counter i)
    → items ≡ start ++ crypted key direction addr counter payload
unfolding crypted
crypted_all start items payload key direction addr counter i last done =
    done ∙ ap (λ (x : List ℕ). start ++ xor_bytes x (key_stream key direction addr counter i))
    (take_all (16 * i) payload (omega arith))
    ∙ ap (λ (n : ℕ). start ++ xor_bytes payload (key_stream key direction addr counter n)) last

-- the first piece of a list, of n elements where there are as many
first_piece : (n : ℕ) (piece later : List ℕ) → length piece ≡ min n (length (piece ++ later))
    → (take n (piece ++ later) ≡ piece) × (drop n (piece ++ later) ≡ later)
first_piece zero [] later h = (refl, refl)
first_piece zero (x ∷ piece) later h = absurd (omega (arith, h))
first_piece (suc n) [] [] h = (refl, refl)
first_piece (suc n) [] (y ∷ later) h = absurd (omega (arith, h))
first_piece (suc n) (x ∷ piece) later h =
    let more = first_piece n piece later (omega (arith, h)) in (ap (λ (l : List ℕ). x ∷ l) more.0, more.1)

module _ (start payload key : List ℕ) (direction addr counter : ℕ) where
  -- n blocks of a payload were appended to what was there, and the rest is left
  pub record IsAfterBlocks (n : ℕ) (items rest : List ℕ) : Type 0 where
    pub left : rest ≡ drop (16 * n) payload
    pub within : 16 * n < length payload + 16
    pub front : items ≡ start ++ xor_bytes (take (16 * n) payload) (key_stream key direction addr counter n)
    pub width : length (key_stream key direction addr counter n) ≡ 16 * n

  pub after_none : IsAfterBlocks 0 start payload
  unfolding key_stream
  after_none = record { left = refl; within = omega arith; front = sym (append-nil start); width = refl }

  pub after_more : (n next : ℕ) (items longer rest piece later block : List ℕ) → IsAfterBlocks n items rest
      → rest ≡ piece ++ later → length piece ≡ min 16 (length rest) → 0 < length rest → next ≡ n + 1
      → block ≡ ciphertext key (stream_seed direction addr counter (n + 1)) → length block ≡ 16
      → longer ≡ items ++ xor_bytes piece block → IsAfterBlocks next longer later
  after_more n next items longer rest piece later block was parts short some en eb eight el =
      let whole : piece ++ later ≡ drop (16 * n) payload = sym parts ∙ was.left in
      let cut = first_piece 16 piece later (rw parts at short) in
      let inside : 16 * n < length payload = omega (arith, ap length was.left, length-drop (16 * n) payload, some) in
      let further : 16 * n + 16 ≡ 16 * (n + 1) = omega arith in
      let stream = key_stream-more key block direction addr counter n eb in
      rw (en, el)
      (record {
        left = sym cut.1 ∙ ap (drop 16) whole ∙ drop-drop 16 (16 * n) payload ∙ ap (λ k. drop k payload) further;
        within = omega (arith, inside);
        front = crypted_more start items (xor_bytes piece block) payload key block direction addr counter n was.front was.width
            (omega (arith, inside)) eb (ap (λ (x : List ℕ). xor_bytes x block) (sym cut.0 ∙ ap (take 16) whole));
        width = ap length stream ∙ length-append (key_stream key direction addr counter n) block
            ∙ omega (arith, was.width, eight);
      })

  pub after_all : (n : ℕ) (items rest : List ℕ) → IsAfterBlocks n items rest → length rest ≡ 0
      → items ≡ start ++ crypted key direction addr counter payload
  after_all n items rest was none =
      crypted_all start items payload key direction addr counter n
      (omega (arith, was.within, none, ap length was.left, length-drop (16 * n) payload)) was.front

-- How the code holds bytes: a column of the state, or a word of the key schedule, is a number of 32
-- bits whose highest byte comes first.
use Rattle.std.specs.Prelude.{ℕ, ◌+◌, List, ◌++◌, slice_index, ◌≡◌, ◌<◌, ◌^◌, map}
use Rattle.aes_cmac.specs.Aes.{key_words}
use Rattle.aes_cmac.specs.Mac.{first_subkey, second_subkey}
use Rattle.std.specs.Int.{w32, to_be_bytes, from_be_bytes}

-- the bytes of a word
unfoldable pub word_bytes : ℕ → List ℕ
word_bytes n = to_be_bytes w32 n

-- the byte of a word in row r
unfoldable pub byte_of : ℕ → ℕ → ℕ
byte_of n r = slice_index (to_be_bytes w32 n) r

-- the bytes of four words, from word i on
abbrev pub four_words : List ℕ → ℕ → List ℕ
four_words ws i =
    word_bytes (slice_index ws i) ++ word_bytes (slice_index ws (i + 1)) ++ word_bytes (slice_index ws (i + 2))
    ++ word_bytes (slice_index ws (i + 3))

-- the state of four columns
abbrev pub state_bytes : List ℕ → List ℕ
state_bytes v = four_words v 0

-- the words of a key's schedule, as numbers
abbrev pub schedule_numbers : List ℕ → List ℕ
schedule_numbers key = map (from_be_bytes w32) (key_words key 40)

-- the words, 44 numbers, are a key's schedule
abbrev pub IsSchedule : List ℕ → List ℕ → Type 0
IsSchedule words key = map word_bytes words ≡ key_words key 40

-- what a key holds: the words of its schedule, each of 32 bits, and its two subkeys
pub record IsExpanded (words first second : List ℕ) : Type 0 where
  pub schedule : IsSchedule words (four_words words 0)
  pub fits : (i : ℕ) → slice_index words i < 2 ^ 32
  pub first_is : first ≡ first_subkey (four_words words 0)
  pub second_is : second ≡ second_subkey (four_words words 0)

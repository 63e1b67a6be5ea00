-- What is written of a transmission is JSON, and says what was asked for.
use Rattle.std.proofs.Common.{◌≡◌, ℕ, zero, suc, ◌+◌, ◌*◌, ◌/◌, ◌%◌, ◌<◌, ◌≤◌, Bool, true, false, not, List, [], ◌∷◌, ◌++◌, length, replicate, slice_index, Some, decimal, refl, sym, ap, ap₂, ◌∙◌, arith, append_assoc, length-append, codes, lit≤}
use Rattle.std.proofs.lemmas.Fmt.{length-decimal-le}
use Rattle.std.proofs.lemmas.List.{length-replicate}
use Rattle.radio_airtime.specs.declared.data_rate.DataRate.{DataRate}
use Rattle.radio_airtime.specs.declared.data_rate.DataRate.TheVariants.{Dr0, Dr1, Dr2, Dr3, Dr4, Dr5, Dr6}
use Rattle.json.specs.Json.{Json, object, boolean, number, string, no_members, member, document}
use Rattle.json.specs.Word.{after_number}
use Rattle.json.specs.Print.{print, print_from, escape, escape_byte, IsNumber}
use Rattle.json.specs.Tree.{json_tokens, HasNumbers}
use Rattle.json.proofs.Printed.Decimals.{IsNumber-decimal}
use Rattle.json.proofs.Printed.Strings.{escape_byte_plain}
use Rattle.json.proofs.Printed.Trees.{document-print}
use Rattle.std.specs.Prelude.{nat_le, ◌&&◌, ◌==◌}
use Rattle.std.proofs.lemmas.Bool.{and_parts, eqb-false, not-true, leb-true}
use Rattle.base64.specs.Rfc4648.{encode_symbols, encode_one, encode_two, encode_group, padding_len}
use Rattle.base64.specs.GeneralPurpose.{encode_of, IsBytes}
use Rattle.base64.specs.Engines.{standard, standard_pad_indifferent}
use Rattle.base64.proofs.Tables.{all_below_at}
use Rattle.base64.proofs.EngineFacts.{decode_of-encode_of}
use Rattle.base64.proofs.RoundTrip.{length-encode_symbols}
use Rattle.forwarder_packets.specs.Entry.{rate_name, rate_named}
use Rattle.forwarder_packets.specs.PullResp.{Sent, megahertz, six_digits, timing_of, radio_of, frame_of, fields_of, text_of, pull_resp_of, IsShort, IsSendable, PullRespsReadBack}
use Rattle.forwarder_packets.proofs.Decimals.{whole-decimal, frequency-megahertz, IsNumber-megahertz}

-- ---- base64 needs no escape

escape-append : (a b : List ℕ) → escape (a ++ b) ≡ escape a ++ escape b
escape-append [] b = refl
escape-append (x ∷ a) b = ap (λ l. escape_byte x ++ l) (escape-append a b) ∙ sym (append_assoc (escape_byte x) (escape a) (escape b))

-- the 64 symbols
abbrev symbols : List ℕ
symbols = standard.encode_table

-- neither a quote nor a backslash nor a control byte
is_clear : ℕ → Bool
is_clear i = not (slice_index symbols i == 34) && not (slice_index symbols i == 92) && nat_le 32 (slice_index symbols i)

symbol : (i : ℕ) → i < 64 → escape_byte (slice_index symbols i) ≡ slice_index symbols i ∷ []
unfolding is_clear
symbol i small =
    let clear = and_parts _ _ (all_below_at is_clear 64 i refl small) in
    let quotes = and_parts _ _ clear.0 in
    escape_byte_plain (slice_index symbols i) (eqb-false _ 34 (not-true _ quotes.0)) (eqb-false _ 92 (not-true _ quotes.1)) (leb-true 32 _ clear.1)

one_clear : (a : ℕ) → a < 256 → escape (encode_one symbols a) ≡ encode_one symbols a
one_clear a small = rw (symbol (a / 4) (omega arith), symbol (a % 4 * 16) (omega arith)) refl

two_clear : (a b : ℕ) → a < 256 → b < 256 → escape (encode_two symbols a b) ≡ encode_two symbols a b
two_clear a b sa sb =
    rw (symbol (a / 4) (omega arith), symbol (a % 4 * 16 + b / 16) (omega arith), symbol (b % 16 * 4) (omega arith)) refl

group_clear : (a b c : ℕ) → a < 256 → b < 256 → c < 256 → escape (encode_group symbols a b c) ≡ encode_group symbols a b c
group_clear a b c sa sb sc =
    rw (
      symbol (a / 4) (omega arith),
      symbol (a % 4 * 16 + b / 16) (omega arith),
      symbol (b % 16 * 4 + c / 64) (omega arith),
      symbol (c % 64) (omega arith),
    ) refl

symbols_clear : (m : List ℕ) → IsBytes m → escape (encode_symbols symbols m) ≡ encode_symbols symbols m
unfolding encode_symbols
symbols_clear [] bytes = refl
symbols_clear (a ∷ []) bytes = one_clear a (bytes 0)
symbols_clear (a ∷ b ∷ []) bytes = two_clear a b (bytes 0) (bytes 1)
symbols_clear (a ∷ b ∷ c ∷ rest) bytes =
    escape-append (encode_group symbols a b c) (encode_symbols symbols rest)
    ∙ ap₂ (λ l r. l ++ r) (group_clear a b c (bytes 0) (bytes 1) (bytes 2)) (symbols_clear rest (λ i. bytes (suc (suc (suc i)))))

pad_clear : escape_byte 61 ≡ 61 ∷ []
unfolding escape_byte
pad_clear = refl

padding_clear : (n : ℕ) → escape (replicate n 61) ≡ replicate n 61
padding_clear zero = refl
padding_clear (suc n) = ap₂ (λ l r. l ++ r) pad_clear (padding_clear n)

encoding_clear : (m : List ℕ) → IsBytes m → escape (encode_of standard m) ≡ encode_of standard m
encoding_clear m bytes =
    escape-append (encode_symbols symbols m) (replicate (padding_len (length m)) 61)
    ∙ ap₂ (λ l r. l ++ r) (symbols_clear m bytes) (padding_clear (padding_len (length m)))

-- ---- the text is the writing of its value

-- the value with these texts of numbers
abbrev value_with : List ℕ → List ℕ → List ℕ → List ℕ → List ℕ → DataRate → Json
value_with tmst freq powe size text rate =
    object (member (codes "txpk") (object
    (member (codes "imme") (boolean false) (member (codes "tmst") (number tmst)
    (member (codes "freq") (number freq) (member (codes "rfch") (number (codes "0"))
    (member (codes "powe") (number powe) (member (codes "modu") (string (codes "LORA"))
    (member (codes "datr") (string (rate_name rate)) (member (codes "codr") (string (codes "4/5"))
    (member (codes "ipol") (boolean true) (member (codes "size") (number size)
    (member (codes "ncrc") (boolean true) (member (codes "data") (string text) no_members))))))))))))) no_members)

abbrev value_of_sent : Sent → Json
value_of_sent t =
    value_with (decimal t.tmst) (megahertz t.freq_hz) (decimal t.power_dbm) (decimal (length t.frame)) (encode_of standard t.frame) t.rate

closed : (shown plain : List ℕ) → shown ≡ plain → plain ++ codes "\"}}" ≡ (shown ++ 34 ∷ []) ++ 125 ∷ 125 ∷ []
closed shown plain e = sym (append_assoc plain (34 ∷ []) (125 ∷ 125 ∷ [])) ∙ ap (λ l. (l ++ 34 ∷ []) ++ 125 ∷ 125 ∷ []) (sym e)

-- the pieces of a text in one row
in_a_row : (a n b f c p d r e s g x : List ℕ)
    → (a ++ n ++ b ++ f) ++ (c ++ p ++ d ++ r) ++ (e ++ s ++ g) ++ x
    ≡ a ++ (n ++ (b ++ (f ++ (c ++ (p ++ (d ++ (r ++ (e ++ (s ++ (g ++ x))))))))))
in_a_row a n b f c p d r e s g x = search append_assoc

written : (tmst freq powe size text : List ℕ) (rate : DataRate)
    → codes "{\"txpk\":{\"imme\":false,\"tmst\":" ++ (tmst ++ (codes ",\"freq\":" ++ (freq ++ (codes ",\"rfch\":0,\"powe\":" ++ (powe
    ++ (codes ",\"modu\":\"LORA\",\"datr\":\"" ++ (rate_name rate ++ (codes "\",\"codr\":\"4/5\",\"ipol\":true,\"size\":" ++ (size
    ++ (codes ",\"ncrc\":true,\"data\":\"" ++ (escape text ++ 34 ∷ [] ++ 125 ∷ 125 ∷ [])))))))))))
    ≡ print (json_tokens (value_with tmst freq powe size text rate))
unfolding print_from escape_byte
written tmst freq powe size text Dr0 = refl
written tmst freq powe size text Dr1 = refl
written tmst freq powe size text Dr2 = refl
written tmst freq powe size text Dr3 = refl
written tmst freq powe size text Dr4 = refl
written tmst freq powe size text Dr5 = refl
written tmst freq powe size text Dr6 = refl

spelled : (t : Sent) → escape (encode_of standard t.frame) ≡ encode_of standard t.frame → text_of t ≡ print (json_tokens (value_of_sent t))
spelled t clear =
    append_assoc (fields_of t) (encode_of standard t.frame) (codes "\"}}")
    ∙ ap (λ l. fields_of t ++ l) (closed (escape (encode_of standard t.frame)) (encode_of standard t.frame) clear)
    ∙ in_a_row (codes "{\"txpk\":{\"imme\":false,\"tmst\":") (decimal t.tmst) (codes ",\"freq\":") (megahertz t.freq_hz)
    (codes ",\"rfch\":0,\"powe\":") (decimal t.power_dbm) (codes ",\"modu\":\"LORA\",\"datr\":\"") (rate_name t.rate)
    (codes "\",\"codr\":\"4/5\",\"ipol\":true,\"size\":") (decimal (length t.frame)) (codes ",\"ncrc\":true,\"data\":\"")
    ((escape (encode_of standard t.frame) ++ 34 ∷ []) ++ 125 ∷ 125 ∷ [])
    ∙ written (decimal t.tmst) (megahertz t.freq_hz) (decimal t.power_dbm) (decimal (length t.frame)) (encode_of standard t.frame) t.rate

zero_is_number : IsNumber (codes "0")
unfolding after_number
zero_is_number = refl

numbers : (t : Sent) → IsSendable t → HasNumbers (value_of_sent t)
numbers t sendable = (
  (
    tt,
    (
      IsNumber-decimal t.tmst (omega (arith, sendable.tmst)),
      (
        IsNumber-megahertz t.freq_hz sendable.freq_hz,
        (
          zero_is_number,
          (
            IsNumber-decimal t.power_dbm (omega (arith, sendable.power_dbm)),
            (
              tt,
              (
                tt,
                (
                  tt,
                  (
                    tt,
                    (IsNumber-decimal (length t.frame) (omega (arith, sendable.size)), (tt, (tt, tt))),
                  ),
                ),
              ),
            ),
          ),
        ),
      ),
    ),
  ),
  tt,
)

-- ---- what each field says

named : (rate : DataRate) → rate_named (rate_name rate) ≡ Some rate
named Dr0 = refl
named Dr1 = refl
named Dr2 = refl
named Dr3 = refl
named Dr4 = refl
named Dr5 = refl
named Dr6 = refl

pub reads_back : PullRespsReadBack
reads_back t sendable =
    record {
      value = ap document (spelled t (encoding_clear t.frame sendable.frame)) ∙ document-print (value_of_sent t) (numbers t sendable) (lit≤ tt);
      tmst = whole-decimal t.tmst sendable.tmst;
      freq = frequency-megahertz t.freq_hz sendable.freq_hz;
      powe = whole-decimal t.power_dbm (omega (arith, sendable.power_dbm));
      datr = named t.rate;
      size = whole-decimal (length t.frame) sendable.size;
      frame = ap Some (decode_of-encode_of standard_pad_indifferent t.frame tt sendable.frame);
    }

-- ---- how long it is

short_name : (rate : DataRate) → length (rate_name rate) ≤ 9
short_name Dr0 = lit≤ tt
short_name Dr1 = lit≤ tt
short_name Dr2 = lit≤ tt
short_name Dr3 = lit≤ tt
short_name Dr4 = lit≤ tt
short_name Dr5 = lit≤ tt
short_name Dr6 = lit≤ tt

short_data : (m : List ℕ) → length m < 256 → length (encode_of standard m) ≤ 340
short_data m short =
    omega (
      arith,
      length-append (encode_symbols symbols m) (replicate (padding_len (length m)) 61),
      length-encode_symbols symbols m,
      length-replicate {A = ℕ} (padding_len (length m)) 61,
    )

pub short_enough : (token : ℕ) (t : Sent) → IsShort t → length (pull_resp_of token t) ≤ 513
short_enough token t short =
    let whole : ℕ = t.freq_hz / 1000000 in
    let timing : length (timing_of t) ≤ 57 =
    omega (
      arith,
      length-append (decimal t.tmst ++ codes ",\"freq\":") (megahertz t.freq_hz),
      length-append (decimal t.tmst) (codes ",\"freq\":"),
      length-append (decimal whole) (46 ∷ six_digits t.freq_hz),
      length-decimal-le 10 t.tmst (omega arith) (omega (arith, short.tmst)) (omega (arith, short.tmst)),
      length-decimal-le 3 whole (omega arith) (omega (arith, short.freq_hz)) (omega (arith, short.freq_hz)),
    ) in
    let radio : length (radio_of t) ≤ 51 =
    omega (
      arith,
      length-append (decimal t.power_dbm ++ codes ",\"modu\":\"LORA\",\"datr\":\"") (rate_name t.rate),
      length-append (decimal t.power_dbm) (codes ",\"modu\":\"LORA\",\"datr\":\""),
      short_name t.rate,
      length-decimal-le 2 t.power_dbm (omega arith) (omega (arith, short.power_dbm)) (omega (arith, short.power_dbm)),
    ) in
    let frame : length (frame_of t) ≤ 58 =
    omega (
      arith,
      length-append (decimal (length t.frame)) (codes ",\"ncrc\":true,\"data\":\""),
      length-decimal-le 3 (length t.frame) (omega arith) (omega (arith, short.frame)) (omega (arith, short.frame)),
    ) in
    omega (
      arith,
      length-append (fields_of t ++ encode_of standard t.frame) (codes "\"}}"),
      length-append (fields_of t) (encode_of standard t.frame),
      length-append (timing_of t ++ radio_of t) (frame_of t),
      length-append (timing_of t) (radio_of t),
      timing,
      radio,
      frame,
      short_data t.frame short.frame,
    )

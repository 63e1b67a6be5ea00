use Rattle.std.proofs.Common.{◌≡◌, ℕ, ◌+◌, ◌/◌, ◌^◌, ◌<◌, ◌≤◌, ◌&&◌, Bool, true, false, List, [], ◌∷◌, length}
use Rattle.std.proofs.Common.{Option, Some, None, refl, sym, ap, subst, ◌∙◌, arith, codes, decimal}
use Rattle.std.specs.Prelude.{if◌then◌else◌, option_and_then, nat_lt, nat_le, ◌==◌}
use Rattle.std.specs.Option.{option_map}
use Rattle.std.specs.Int.{w32, from_be_bytes}
use Rattle.std.specs.Cmp.Lexicographic.{bytes_decides}
use Rattle.std.proofs.lemmas.Bool.{and_parts, ltb-true, leb-true, eqb-true}
use Rattle.std.proofs.lemmas.Nat.{be_bytes_4}
use Rattle.std.proofs.lemmas.Option.{same_Some}
use Rattle.std.proofs.lemmas.List.Splits.{join_with_byte-slice_split}
use Rattle.hex.specs.Hex.{IsBytes, encode_lower, encode_with}
use Rattle.radio_airtime.specs.DataRate.{number_of, rates, known_rate}
use Rattle.radio_airtime.specs.declared.data_rate.DataRate.{DataRate}
use Rattle.lora_frame.specs.Ports.{is_application_port}
use Rattle.resv_list.proofs.Walk.{found_passes}
use Rattle.text_lines.specs.Words.{is_named, spaced}
use Rattle.gateway_book.specs.Loading.{words_between, plain_number}
use Rattle.gateway_book.proofs.SavedSpelling.{plain_is_spelled}
use Rattle.serve_journal.specs.declared.entry.Entry.{Entry}
use Rattle.serve_journal.specs.declared.entry.Entry.TheVariants.{Gateway, Device, Queue, Taken, Clock, Sent}
use Rattle.serve_journal.specs.EntryText.{addr_digits, up_word, bytes_word, entry_words}
use Rattle.serve_journal.specs.EntryWords.{hex_sized, addr_in, up_in, down_in, digits_in, bytes_in, payload_in, gateway_with, device_with}
use Rattle.serve_journal.specs.EntryWords.{queue_with, taken_with, clock_with, sent_with, gateway_in, device_in, queue_in, taken_in, clock_in}
use Rattle.serve_journal.specs.EntryWords.{sent_in, entry_in}
use Rattle.serve_journal.specs.LineLaws.{IsPayload, IsUp, IsEntry, LinesHaveOneSpelling}
use Rattle.serve_journal.specs.Payload.{Waiting, payload_of}
use Rattle.serve_journal.proofs.HexDigits.{hex_is}

-- A line that is read as an entry is that entry's line.

named : (name word : List ℕ) → is_named name word ≡ true → word ≡ name
named name word e = (bytes_decides word name).0 e

mapped : {A B : Type 0} (f : A → B) (o : Option A) (y : B) → option_map f o ≡ Some y → (x : A) × (o ≡ Some x) × (f x ≡ y)
mapped f (Some x) y e = (x, refl, same_Some (f x) y e)
mapped f None y e = absurd (cc)

chained : {A B : Type 0} (f : A → Option B) (o : Option A) (y : B) → option_and_then f o ≡ Some y
    → (x : A) × (o ≡ Some x) × (f x ≡ Some y)
chained f (Some x) y e = (x, refl, e)
chained f None y e = absurd (cc)

-- a rate's number
rate_is : (word : List ℕ) (rate : DataRate) → option_and_then known_rate (plain_number (2 ^ 8) word) ≡ Some rate
    → word ≡ decimal (number_of rate)
rate_is word rate e =
    let p = chained known_rate (plain_number (2 ^ 8) word) rate e in
    let number : number_of rate ≡ p.0 =
    eqb-true (number_of rate) p.0 (found_passes number_of (λ r. number_of r == p.0) rate rates p.2) in
    (plain_is_spelled (2 ^ 8) word p.0 p.1 (omega arith)).written ∙ ap decimal (sym number)

-- an address
pub record IsAddr (word : List ℕ) (addr : ℕ) : Type 0 where
  pub written : word ≡ addr_digits addr
  pub small : addr < 2 ^ 32

four_small : (bytes : List ℕ) → length bytes ≡ 4 → IsBytes bytes → from_be_bytes w32 bytes < 2 ^ 32
four_small [] e are = absurd (omega arith)
four_small (a ∷ []) e are = absurd (omega arith)
four_small (a ∷ b ∷ []) e are = absurd (omega arith)
four_small (a ∷ b ∷ c ∷ []) e are = absurd (omega arith)
four_small (a ∷ b ∷ c ∷ d ∷ []) e are = omega (arith, are 0, are 1, are 2, are 3)
four_small (a ∷ b ∷ c ∷ d ∷ f ∷ more) e are = absurd (omega arith)

addr_is : (word : List ℕ) (addr : ℕ) → addr_in word ≡ Some addr → IsAddr word addr
addr_is word addr e =
    let p = mapped (from_be_bytes w32) (hex_sized 4 word) addr e in
    let hex = hex_is 4 word p.0 p.1 in
    record {
      written = hex.written ∙ ap encode_lower (sym (be_bytes_4 p.0 addr hex.sized hex.small (sym p.2)));
      small = subst (λ n. n < 2 ^ 32) p.2 (four_small p.0 hex.sized hex.small);
    }

-- an uplink counter, or none
up_by : (word : List ℕ) (up : Option ℕ) (t : Bool) → is_named (codes "-") word ≡ t
    → (if t then Some None else option_map Some (plain_number (2 ^ 32) word)) ≡ Some up → (word ≡ up_word up) × IsUp up
up_by word up true n e =
    let same : None ≡ up = same_Some None up e in
    let P : Option ℕ → Type 0 = λ u. (word ≡ up_word u) × IsUp u in
    subst P same (named (codes "-") word n, tt)
up_by word up false n e =
    let p = mapped Some (plain_number (2 ^ 32) word) up e in
    let a = plain_is_spelled (2 ^ 32) word p.0 p.1 (omega arith) in
    let P : Option ℕ → Type 0 = λ u. (word ≡ up_word u) × IsUp u in
    subst P p.2 (a.written, a.small)

up_is : (word : List ℕ) (up : Option ℕ) → up_in word ≡ Some up → (word ≡ up_word up) × IsUp up
up_is word up e = up_by word up (is_named (codes "-") word) refl e

-- bytes, or none
some_bytes : (bytes : List ℕ) → 0 < length bytes → encode_lower bytes ≡ bytes_word bytes
some_bytes [] some = absurd (omega arith)
some_bytes (b ∷ bytes) some = refl

bytes_or : (word bytes : List ℕ) → word ≡ encode_lower bytes → length bytes ≡ length word / 2 → IsBytes bytes → 0 < length word
    → length word ≤ 484 → (word ≡ bytes_word bytes) × (length bytes ≤ 242) × IsBytes bytes
unfolding encode_with
bytes_or word [] written sized small some most =
    let none : length word ≡ 0 = ap length written in
    absurd (omega arith)
bytes_or word (b ∷ bytes) written sized small some most = (written, omega arith, small)

digits_by : (word bytes : List ℕ) (t : Bool) → (nat_lt 0 (length word) && nat_le (length word) 484) ≡ t
    → (if t then hex_sized (length word / 2) word else None) ≡ Some bytes
    → (word ≡ bytes_word bytes) × (length bytes ≤ 242) × IsBytes bytes
digits_by word bytes true h e =
    let parts = and_parts (nat_lt 0 (length word)) (nat_le (length word) 484) h in
    let hex = hex_is (length word / 2) word bytes e in
    bytes_or word bytes hex.written hex.sized hex.small (ltb-true 0 (length word) parts.0) (leb-true (length word) 484 parts.1)
digits_by word bytes false h e = absurd (cc)

bytes_by : (word bytes : List ℕ) (t : Bool) → is_named (codes "-") word ≡ t
    → (if t then Some [] else digits_in word) ≡ Some bytes → (word ≡ bytes_word bytes) × (length bytes ≤ 242) × IsBytes bytes
bytes_by word bytes true n e =
    let same : [] ≡ bytes = same_Some [] bytes e in
    let P : List ℕ → Type 0 = λ l. (word ≡ bytes_word l) × (length l ≤ 242) × IsBytes l in
    subst P same (named (codes "-") word n, omega arith, λ k. omega arith)
bytes_by word bytes false n e =
    digits_by word bytes (nat_lt 0 (length word) && nat_le (length word) 484) refl e

-- a payload
pub record IsSaid (first second : List ℕ) (p : Waiting) : Type 0 where
  pub port : first ≡ decimal p.port
  pub bytes : second ≡ bytes_word p.bytes
  pub payload : IsPayload p

made_by : (number : ℕ) (bytes : List ℕ) (p : Waiting) (t : Bool) → (is_application_port number && nat_le (length bytes) 242) ≡ t
    → (if t then Some (let w : Waiting = record { port = number; bytes = bytes } in w) else None) ≡ Some p
    → (number ≡ p.port) × (bytes ≡ p.bytes) × (is_application_port number ≡ true)
made_by number bytes p true h e =
    let same = same_Some (let w : Waiting = record { port = number; bytes = bytes } in w) p e in
    (ap (λ (w : Waiting). w.port) same, ap (λ (w : Waiting). w.bytes) same, (and_parts _ _ h).0)
made_by number bytes p false h e = absurd (cc)

payload_is : (port bytes : List ℕ) (p : Waiting) → payload_in port bytes ≡ Some p → IsSaid port bytes p
payload_is port bytes p e =
    let a = chained (λ number. option_and_then (payload_of number) (bytes_in bytes)) (plain_number (2 ^ 8) port) p e in
    let b = chained (payload_of a.0) (bytes_in bytes) p a.2 in
    let made = made_by a.0 b.0 p (is_application_port a.0 && nat_le (length b.0) 242) refl b.2 in
    let said = bytes_by bytes b.0 (is_named (codes "-") bytes) refl b.1 in
    let P : List ℕ → Type 0 = λ l. (bytes ≡ bytes_word l) × (length l ≤ 242) × IsBytes l in
    let told = subst P made.1 said in
    record {
      port = (plain_is_spelled (2 ^ 8) port a.0 a.1 (omega arith)).written ∙ ap decimal made.0;
      bytes = told.0;
      payload =
          record {
            port = ap is_application_port (sym made.0) ∙ made.2;
            few = told.1;
            small = told.2;
          };
    }

-- the words are those of the entry
abbrev IsSpelledAs : List (List ℕ) → Entry → Type 0
IsSpelledAs words e = IsEntry e × (words ≡ entry_words e)

gateway_from : (id eui cap gap : List ℕ) (e : Entry) (a : Option ℕ) (b : Option (List ℕ)) (c d : Option ℕ)
    → plain_number (2 ^ 16) id ≡ a → hex_sized 8 eui ≡ b → plain_number (2 ^ 32) cap ≡ c → plain_number (2 ^ 32) gap ≡ d
    → gateway_with a b c d ≡ Some e → IsSpelledAs (codes "gateway" ∷ id ∷ eui ∷ cap ∷ gap ∷ []) e
gateway_from id eui cap gap e (Some i) (Some u) (Some c) (Some g) ei eu ec eg h =
    let hi = plain_is_spelled (2 ^ 16) id i ei (omega arith) in
    let hu = hex_is 8 eui u eu in
    let hc = plain_is_spelled (2 ^ 32) cap c ec (omega arith) in
    let hg = plain_is_spelled (2 ^ 32) gap g eg (omega arith) in
    subst (IsSpelledAs (codes "gateway" ∷ id ∷ eui ∷ cap ∷ gap ∷ [])) (same_Some (Gateway i u c g) e h) (
      (hi.small, record { sized = hu.sized; small = hu.small }, hc.small, hg.small),
      rw (hi.written, hu.written, hc.written, hg.written) refl,
    )
gateway_from id eui cap gap e a b c d ei eu ec eg h = absurd (cc)

gateway_is : (fields : List (List ℕ)) (e : Entry) → gateway_in fields ≡ Some e → IsSpelledAs (codes "gateway" ∷ fields) e
gateway_is (id ∷ eui ∷ cap ∷ gap ∷ []) e h = gateway_from id eui cap gap e _ _ _ _ refl refl refl refl h
gateway_is [] e h = absurd (cc)
gateway_is (a ∷ []) e h = absurd (cc)
gateway_is (a ∷ b ∷ []) e h = absurd (cc)
gateway_is (a ∷ b ∷ c ∷ []) e h = absurd (cc)
gateway_is (a ∷ b ∷ c ∷ d ∷ f ∷ more) e h = absurd (cc)

device_from : (addr session up down : List ℕ) (e : Entry) (a : Option ℕ) (b : Option (List ℕ)) (c : Option (Option ℕ)) (d : Option ℕ)
    → addr_in addr ≡ a → hex_sized 4 session ≡ b → up_in up ≡ c → down_in down ≡ d
    → device_with a b c d ≡ Some e → IsSpelledAs (codes "device" ∷ addr ∷ session ∷ up ∷ down ∷ []) e
device_from addr session up down e (Some i) (Some s) (Some u) (Some d) ei es eu ed h =
    let hi = addr_is addr i ei in
    let hs = hex_is 4 session s es in
    let hu = up_is up u eu in
    let hd = plain_is_spelled (2 ^ 32 + 1) down d ed (omega arith) in
    subst (IsSpelledAs (codes "device" ∷ addr ∷ session ∷ up ∷ down ∷ [])) (same_Some (Device i s u d) e h) (
      (hi.small, record { sized = hs.sized; small = hs.small }, hu.1, omega (arith, hd.small)),
      rw (hi.written, hs.written, hu.0, hd.written) refl,
    )
device_from addr session up down e a b c d ei es eu ed h = absurd (cc)

device_is : (fields : List (List ℕ)) (e : Entry) → device_in fields ≡ Some e → IsSpelledAs (codes "device" ∷ fields) e
device_is (addr ∷ session ∷ up ∷ down ∷ []) e h = device_from addr session up down e _ _ _ _ refl refl refl refl h
device_is [] e h = absurd (cc)
device_is (a ∷ []) e h = absurd (cc)
device_is (a ∷ b ∷ []) e h = absurd (cc)
device_is (a ∷ b ∷ c ∷ []) e h = absurd (cc)
device_is (a ∷ b ∷ c ∷ d ∷ f ∷ more) e h = absurd (cc)

queue_from : (addr port bytes : List ℕ) (e : Entry) (a : Option ℕ) (b : Option Waiting) → addr_in addr ≡ a
    → payload_in port bytes ≡ b → queue_with a b ≡ Some e → IsSpelledAs (codes "queue" ∷ addr ∷ port ∷ bytes ∷ []) e
queue_from addr port bytes e (Some i) (Some p) ei ep h =
    let hi = addr_is addr i ei in
    let hp = payload_is port bytes p ep in
    subst (IsSpelledAs (codes "queue" ∷ addr ∷ port ∷ bytes ∷ [])) (same_Some (Queue i p) e h)
    ((hi.small, hp.payload), rw (hi.written, hp.port, hp.bytes) refl)
queue_from addr port bytes e a b ei ep h = absurd (cc)

queue_is : (fields : List (List ℕ)) (e : Entry) → queue_in fields ≡ Some e → IsSpelledAs (codes "queue" ∷ fields) e
queue_is (addr ∷ port ∷ bytes ∷ []) e h = queue_from addr port bytes e _ _ refl refl h
queue_is [] e h = absurd (cc)
queue_is (a ∷ []) e h = absurd (cc)
queue_is (a ∷ b ∷ []) e h = absurd (cc)
queue_is (a ∷ b ∷ c ∷ d ∷ more) e h = absurd (cc)

taken_from : (addr : List ℕ) (e : Entry) (a : Option ℕ) → addr_in addr ≡ a → taken_with a ≡ Some e
    → IsSpelledAs (codes "taken" ∷ addr ∷ []) e
taken_from addr e (Some i) ei h =
    let hi = addr_is addr i ei in
    subst (IsSpelledAs (codes "taken" ∷ addr ∷ [])) (same_Some (Taken i) e h) (hi.small, rw hi.written refl)
taken_from addr e None ei h = absurd (cc)

taken_is : (fields : List (List ℕ)) (e : Entry) → taken_in fields ≡ Some e → IsSpelledAs (codes "taken" ∷ fields) e
taken_is (addr ∷ []) e h = taken_from addr e _ refl h
taken_is [] e h = absurd (cc)
taken_is (a ∷ b ∷ more) e h = absurd (cc)

clock_from : (id high floor : List ℕ) (e : Entry) (a b c : Option ℕ) → plain_number (2 ^ 16) id ≡ a
    → plain_number (2 ^ 64) high ≡ b → plain_number (2 ^ 64) floor ≡ c → clock_with a b c ≡ Some e
    → IsSpelledAs (codes "clock" ∷ id ∷ high ∷ floor ∷ []) e
clock_from id high floor e (Some i) (Some g) (Some f) ei eg ef h =
    let hi = plain_is_spelled (2 ^ 16) id i ei (omega arith) in
    let hg = plain_is_spelled (2 ^ 64) high g eg (omega arith) in
    let hf = plain_is_spelled (2 ^ 64) floor f ef (omega arith) in
    subst (IsSpelledAs (codes "clock" ∷ id ∷ high ∷ floor ∷ [])) (same_Some (Clock i g f) e h)
    ((hi.small, hg.small, hf.small), rw (hi.written, hg.written, hf.written) refl)
clock_from id high floor e a b c ei eg ef h = absurd (cc)

clock_is : (fields : List (List ℕ)) (e : Entry) → clock_in fields ≡ Some e → IsSpelledAs (codes "clock" ∷ fields) e
clock_is (id ∷ high ∷ floor ∷ []) e h = clock_from id high floor e _ _ _ refl refl refl h
clock_is [] e h = absurd (cc)
clock_is (a ∷ []) e h = absurd (cc)
clock_is (a ∷ b ∷ []) e h = absurd (cc)
clock_is (a ∷ b ∷ c ∷ d ∷ more) e h = absurd (cc)

sent_from : (id start freq_hz rate len : List ℕ) (e : Entry) (a b c : Option ℕ) (d : Option DataRate) (f : Option ℕ)
    → plain_number (2 ^ 16) id ≡ a → plain_number (2 ^ 64) start ≡ b → plain_number (2 ^ 32) freq_hz ≡ c
    → option_and_then known_rate (plain_number (2 ^ 8) rate) ≡ d → plain_number (2 ^ 8) len ≡ f
    → sent_with a b c d f ≡ Some e → IsSpelledAs (codes "sent" ∷ id ∷ start ∷ freq_hz ∷ rate ∷ len ∷ []) e
sent_from id start freq_hz rate len e (Some i) (Some s) (Some q) (Some r) (Some l) ei es eq er el h =
    let hi = plain_is_spelled (2 ^ 16) id i ei (omega arith) in
    let hs = plain_is_spelled (2 ^ 64) start s es (omega arith) in
    let hq = plain_is_spelled (2 ^ 32) freq_hz q eq (omega arith) in
    let hr = rate_is rate r er in
    let hl = plain_is_spelled (2 ^ 8) len l el (omega arith) in
    subst (IsSpelledAs (codes "sent" ∷ id ∷ start ∷ freq_hz ∷ rate ∷ len ∷ [])) (same_Some (Sent i s q r l) e h)
    ((hi.small, hs.small, hq.small, hl.small), rw (hi.written, hs.written, hq.written, hr, hl.written) refl)
sent_from id start freq_hz rate len e a b c d f ei es eq er el h = absurd (cc)

sent_is : (fields : List (List ℕ)) (e : Entry) → sent_in fields ≡ Some e → IsSpelledAs (codes "sent" ∷ fields) e
sent_is (id ∷ start ∷ freq_hz ∷ rate ∷ len ∷ []) e h =
    sent_from id start freq_hz rate len e _ _ _ _ _ refl refl refl refl refl h
sent_is [] e h = absurd (cc)
sent_is (a ∷ []) e h = absurd (cc)
sent_is (a ∷ b ∷ []) e h = absurd (cc)
sent_is (a ∷ b ∷ c ∷ []) e h = absurd (cc)
sent_is (a ∷ b ∷ c ∷ d ∷ []) e h = absurd (cc)
sent_is (a ∷ b ∷ c ∷ d ∷ f ∷ g ∷ more) e h = absurd (cc)

-- one name, or the next
pick : {P : Type 0} (name word : List ℕ) (t : Bool) (here rest : Option Entry) (e : Entry) → is_named name word ≡ t
    → (if t then here else rest) ≡ Some e → (word ≡ name → here ≡ Some e → P) → (rest ≡ Some e → P) → P
pick name word true here rest e n h this other = this (named name word n) h
pick name word false here rest e n h this other = other h

module _ (name : List ℕ) (fields : List (List ℕ)) (e : Entry) where
  abbrev Goal : Type 0
  Goal = IsSpelledAs (name ∷ fields) e

  under : (word : List ℕ) → IsSpelledAs (word ∷ fields) e → name ≡ word → Goal
  under word s same = subst (λ w. IsSpelledAs (w ∷ fields) e) (sym same) s

  pub named_entry : entry_in (name ∷ fields) ≡ Some e → Goal
  named_entry h =
      pick (codes "sent") name (is_named (codes "sent") name) _ _ e refl h (λ n x. under (codes "sent") (sent_is fields e x) n)
      (λ h1.
      pick (codes "clock") name (is_named (codes "clock") name) _ _ e refl h1 (λ n x. under (codes "clock") (clock_is fields e x) n)
      (λ h2.
      pick (codes "device") name (is_named (codes "device") name) _ _ e refl h2 (λ n x. under (codes "device") (device_is fields e x) n)
      (λ h3.
      pick (codes "taken") name (is_named (codes "taken") name) _ _ e refl h3 (λ n x. under (codes "taken") (taken_is fields e x) n)
      (λ h4.
      pick (codes "queue") name (is_named (codes "queue") name) _ _ e refl h4 (λ n x. under (codes "queue") (queue_is fields e x) n)
      (λ h5.
      pick (codes "gateway") name (is_named (codes "gateway") name) _ _ e refl h5
      (λ n x. under (codes "gateway") (gateway_is fields e x) n) (λ none. absurd (cc)))))))

entry_is : (words : List (List ℕ)) (e : Entry) → entry_in words ≡ Some e → IsSpelledAs words e
entry_is [] e h = absurd (cc)
entry_is (name ∷ fields) e h = named_entry name fields e h

pub one_spelling : LinesHaveOneSpelling
one_spelling line e h =
    let s = entry_is (words_between line) e h in
    (s.0, sym (join_with_byte-slice_split 32 line) ∙ ap spaced s.1)

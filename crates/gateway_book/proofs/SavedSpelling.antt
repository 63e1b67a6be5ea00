use Rattle.std.specs.Prelude.{ℕ, ◌≡◌, ◌^◌, ◌<◌, ◌≤◌, ◌&&◌, Bool, true, false, List, [], ◌∷◌, length, codes, decimal}
use Rattle.std.specs.Prelude.{Option, Some, None, cond, option_and_then}
use Rattle.std.proofs.Common.{refl, sym, ap, ◌∙◌, arith, eqb, ltb, get_or, true≢false}
use Rattle.std.proofs.lemmas.Bool.{and_parts, ltb-true, ltb-false, leb-true, eqb-true, eq-eqb}
use Rattle.std.proofs.lemmas.Option.{same_Some}
use Rattle.std.specs.Cmp.Lexicographic.{bytes_decides}
use Rattle.radio_airtime.specs.DataRate.{number_of, rates, known_rate}
use Rattle.radio_airtime.specs.declared.data_rate.DataRate.{DataRate}
use Rattle.resv_list.proofs.Walk.{found_passes}
use Rattle.text_lines.specs.Number.{is_digits, value_of, number_below}
use Rattle.text_lines.specs.Words.{is_named}
use Rattle.text_lines.proofs.NumberLemmas.{decimal-value_of}
use Rattle.gateway_book.specs.declared.ask.Ask.{Ask}
use Rattle.gateway_book.specs.declared.saved_line.SavedGateway.{SavedGateway}
use Rattle.gateway_book.specs.Loading.{leads_zero, plain_number, version_in, gateway_in, gateway_with, gap_in, member_in}
use Rattle.gateway_book.specs.Loading.{member_with}
use Rattle.gateway_book.specs.Loading.{count_in, saved_empty}
use Rattle.gateway_book.specs.Saved.{gateway_words, gap_words}

-- Words that are read are spelled as they are written.

-- a word that is read as a number is what is written of it
pub record IsSpelled (bound : ℕ) (word : List ℕ) (number : ℕ) : Type 0 where
  pub written : word ≡ decimal number
  pub small : number < bound

below_by : (bound : ℕ) (word : List ℕ) (number : ℕ) (t : Bool) → (is_digits 20 word && ltb (value_of word) bound) ≡ t
    → cond t (Some (value_of word)) None ≡ Some number → leads_zero word ≡ false → bound ≤ 2 ^ 64
    → IsSpelled bound word number
below_by bound word number true read e zero fits =
    let parts = and_parts (is_digits 20 word) (ltb (value_of word) bound) read in
    let same : value_of word ≡ number = same_Some _ _ e in
    let small : value_of word < bound = ltb-true (value_of word) bound parts.1 in
    let some : 1 ≤ length word = leb-true 1 (length word) (and_parts _ _ (and_parts _ _ parts.0).0).0 in
    record {
      written = sym (decimal-value_of word parts.0 (λ h. one_digit word h zero (ltb 1 (length word)) refl some) (omega arith))
          ∙ ap decimal same;
      small = omega arith;
    }
  where
    one_digit : (word : List ℕ) → get_or word 0 0 ≡ 48 → leads_zero word ≡ false → (t : Bool) → ltb 1 (length word) ≡ t
        → 1 ≤ length word → length word ≡ 1
    one_digit word h zero true e some =
        absurd (true≢false (rw (e, eq-eqb (get_or word 0 0) 48 h) at zero))
    one_digit word h zero false e some = omega (arith, ltb-false 1 (length word) e)
below_by bound word number false read e zero fits = absurd (cc)

plain_by : (bound : ℕ) (word : List ℕ) (number : ℕ) (t : Bool) → leads_zero word ≡ t
    → cond t None (number_below bound word) ≡ Some number → bound ≤ 2 ^ 64 → IsSpelled bound word number
plain_by bound word number true zero e fits = absurd (cc)
plain_by bound word number false zero e fits =
    below_by bound word number (is_digits 20 word && ltb (value_of word) bound) refl e zero fits

pub plain_is_spelled : (bound : ℕ) (word : List ℕ) (number : ℕ) → plain_number bound word ≡ Some number → bound ≤ 2 ^ 64
    → IsSpelled bound word number
plain_is_spelled bound word number e fits = plain_by bound word number (leads_zero word) refl e fits

named : (name word : List ℕ) → is_named name word ≡ true → word ≡ name
named name word e = (bytes_decides word name).0 e

-- a rate that is read is numbered so
rate_is : (number : ℕ) (rate : DataRate) → known_rate number ≡ Some rate → number_of rate ≡ number
rate_is number rate e =
    eqb-true (number_of rate) number (found_passes number_of (λ r. eqb (number_of r) number) rate rates e)

rate_word_by : (word : List ℕ) (o : Option ℕ) (rate : DataRate) → plain_number (2 ^ 8) word ≡ o
    → option_and_then known_rate o ≡ Some rate → word ≡ decimal (number_of rate)
rate_word_by word None rate e f = absurd (cc)
rate_word_by word (Some number) rate e f =
    (plain_is_spelled (2 ^ 8) word number e (omega arith)).written ∙ ap decimal (sym (rate_is number rate f))

-- what each field of a member was read from
record AreMember (ask : Ask) (a b c : Option ℕ) (d : Option DataRate) (e : Option ℕ) : Type 0 where
  number : a ≡ Some ask.number
  start : b ≡ Some ask.start
  freq_hz : c ≡ Some ask.freq_hz
  rate : d ≡ Some ask.rate
  len : e ≡ Some ask.len

are_member : (ask : Ask) (a b c : Option ℕ) (d : Option DataRate) (e : Option ℕ) → member_with a b c d e ≡ Some ask
    → AreMember ask a b c d e
are_member ask (Some n) (Some s) (Some f) (Some r) (Some l) h =
    let same = same_Some _ _ h in
    record {
      number = ap (λ (u : Ask). Some u.number) same;
      start = ap (λ (u : Ask). Some u.start) same;
      freq_hz = ap (λ (u : Ask). Some u.freq_hz) same;
      rate = ap (λ (u : Ask). Some u.rate) same;
      len = ap (λ (u : Ask). Some u.len) same;
    }
are_member ask (Some n) (Some s) (Some f) (Some r) None h = absurd (cc)
are_member ask (Some n) (Some s) (Some f) None e h = absurd (cc)
are_member ask (Some n) (Some s) None d e h = absurd (cc)
are_member ask (Some n) None c d e h = absurd (cc)
are_member ask None b c d e h = absurd (cc)

-- the words of a line that says a member
pub record IsMemberLine (words : List (List ℕ)) (ask : Ask) : Type 0 where
  pub written : words ≡ codes "r" ∷ decimal ask.number ∷ decimal ask.start ∷ decimal ask.freq_hz ∷ decimal (number_of ask.rate)
      ∷ decimal ask.len ∷ []
  pub number : ask.number < 2 ^ 64
  pub freq_hz : ask.freq_hz < 2 ^ 32
  pub len : ask.len < 2 ^ 8

member_by : (name number start freq_hz rate len : List ℕ) (ask : Ask) (t : Bool) → is_named (codes "r") name ≡ t
    → cond t (member_with (plain_number (2 ^ 64) number) (plain_number (2 ^ 64) start) (plain_number (2 ^ 32) freq_hz)
    (option_and_then known_rate (plain_number (2 ^ 8) rate)) (plain_number (2 ^ 8) len)) None ≡ Some ask
    → IsMemberLine (name ∷ number ∷ start ∷ freq_hz ∷ rate ∷ len ∷ []) ask
member_by name number start freq_hz rate len ask true n e =
    let read = are_member ask _ _ _ _ _ e in
    let a = plain_is_spelled (2 ^ 64) number ask.number read.number (omega arith) in
    let b = plain_is_spelled (2 ^ 64) start ask.start read.start (omega arith) in
    let c = plain_is_spelled (2 ^ 32) freq_hz ask.freq_hz read.freq_hz (omega arith) in
    let d = rate_word_by rate (plain_number (2 ^ 8) rate) ask.rate refl read.rate in
    let f = plain_is_spelled (2 ^ 8) len ask.len read.len (omega arith) in
    record {
      written = rw (named (codes "r") name n, a.written, b.written, c.written, d, f.written) refl;
      number = a.small;
      freq_hz = c.small;
      len = f.small;
    }
member_by name number start freq_hz rate len ask false n e = absurd (cc)

pub member_line : (words : List (List ℕ)) (ask : Ask) → member_in words ≡ Some ask → IsMemberLine words ask
member_line [] ask e = absurd (cc)
member_line (a ∷ []) ask e = absurd (cc)
member_line (a ∷ b ∷ []) ask e = absurd (cc)
member_line (a ∷ b ∷ c ∷ []) ask e = absurd (cc)
member_line (a ∷ b ∷ c ∷ d ∷ []) ask e = absurd (cc)
member_line (a ∷ b ∷ c ∷ d ∷ f ∷ []) ask e = absurd (cc)
member_line (a ∷ b ∷ c ∷ d ∷ f ∷ g ∷ []) ask e = member_by a b c d f g ask (is_named (codes "r") a) refl e
member_line (a ∷ b ∷ c ∷ d ∷ f ∷ g ∷ i ∷ more) ask e = absurd (cc)

-- two words, a name and a number
two_by : (name word number : List ℕ) (bound n : ℕ) (t : Bool) → is_named name word ≡ t
    → cond t (plain_number bound number) None ≡ Some n → bound ≤ 2 ^ 64
    → ((word ∷ number ∷ []) ≡ name ∷ decimal n ∷ []) × (n < bound)
two_by name word number bound n true e f fits =
    let spelled = plain_is_spelled bound number n f fits in
    (rw (named name word e, spelled.written) refl, spelled.small)
two_by name word number bound n false e f fits = absurd (cc)

pub count_line : (words : List (List ℕ)) (count : ℕ) → count_in words ≡ Some count → words ≡ codes "end" ∷ decimal count ∷ []
count_line [] count e = absurd (cc)
count_line (a ∷ []) count e = absurd (cc)
count_line (a ∷ b ∷ []) count e = (two_by (codes "end") a b (2 ^ 32) count (is_named (codes "end") a) refl e (omega arith)).0
count_line (a ∷ b ∷ c ∷ more) count e = absurd (cc)

pub version_line : (words : List (List ℕ)) (version : ℕ) → version_in words ≡ Some version
    → words ≡ codes "airbook" ∷ decimal version ∷ []
version_line [] version e = absurd (cc)
version_line (a ∷ []) version e = absurd (cc)
version_line (a ∷ b ∷ []) version e =
    (two_by (codes "airbook") a b (2 ^ 32) version (is_named (codes "airbook") a) refl e (omega arith)).0
version_line (a ∷ b ∷ c ∷ more) version e = absurd (cc)

-- GAP, or none in the first version
gap_line : (version : ℕ) (words : List (List ℕ)) (gap : ℕ) (t : Bool) → eqb version 1 ≡ t → gap_in version words ≡ Some gap
    → (words ≡ gap_words version gap) × (version ≡ 1 → gap ≡ 0)
gap_line version [] gap true v e =
    let none : gap_words version gap ≡ [] = ap (λ t. cond t [] (decimal gap ∷ [])) v in
    let zero : Some 0 ≡ Some gap = rw v at e in
    (sym none, λ _. sym (same_Some _ _ zero))
gap_line version [] gap false v e = let no : None ≡ Some gap = rw v at e in absurd (cc)
gap_line version (a ∷ []) gap true v e = let no : None ≡ Some gap = rw v at e in absurd (cc)
gap_line version (a ∷ []) gap false v e =
    let read : plain_number (2 ^ 32) a ≡ Some gap = rw v at e in
    let one : gap_words version gap ≡ decimal gap ∷ [] = ap (λ t. cond t [] (decimal gap ∷ [])) v in (
      ap (λ w. w ∷ []) (plain_is_spelled (2 ^ 32) a gap read (omega arith)).written ∙ sym one,
      λ h. absurd (true≢false (sym (eq-eqb version 1 h) ∙ v)),
    )
gap_line version (a ∷ b ∷ more) gap t v e = absurd (cc)

record AreGateway (g : SavedGateway) (a b c d : Option ℕ) : Type 0 where
  id : a ≡ Some g.id
  cap : b ≡ Some g.cap
  floor : c ≡ Some g.floor
  gap : d ≡ Some g.gap

are_gateway : (g : SavedGateway) (a b c d : Option ℕ) → gateway_with a b c d ≡ Some g → AreGateway g a b c d
are_gateway g (Some i) (Some c) (Some f) (Some n) h =
    let same = same_Some _ _ h in
    record {
      id = ap (λ (u : SavedGateway). Some u.id) same;
      cap = ap (λ (u : SavedGateway). Some u.cap) same;
      floor = ap (λ (u : SavedGateway). Some u.floor) same;
      gap = ap (λ (u : SavedGateway). Some u.gap) same;
    }
are_gateway g (Some i) (Some c) (Some f) None h = absurd (cc)
are_gateway g (Some i) (Some c) None d h = absurd (cc)
are_gateway g (Some i) None c d h = absurd (cc)
are_gateway g None b c d h = absurd (cc)

-- the words of a line that says a gateway
pub record IsGatewayLine (version : ℕ) (words : List (List ℕ)) (g : SavedGateway) : Type 0 where
  pub written : words ≡ gateway_words version (saved_empty g)
  pub id : g.id < 2 ^ 16
  pub floor : g.floor < 2 ^ 64
  pub gap : version ≡ 1 → g.gap ≡ 0

gateway_by : (version : ℕ) (name id cap floor : List ℕ) (gap : List (List ℕ)) (g : SavedGateway) (t : Bool)
    → is_named (codes "gateway") name ≡ t
    → cond t (gateway_with (plain_number (2 ^ 16) id) (plain_number (2 ^ 32) cap) (plain_number (2 ^ 64) floor)
    (gap_in version gap)) None ≡ Some g → IsGatewayLine version (name ∷ id ∷ cap ∷ floor ∷ gap) g
gateway_by version name id cap floor gap g true n e =
    let read = are_gateway g _ _ _ _ e in
    let a = plain_is_spelled (2 ^ 16) id g.id read.id (omega arith) in
    let b = plain_is_spelled (2 ^ 32) cap g.cap read.cap (omega arith) in
    let c = plain_is_spelled (2 ^ 64) floor g.floor read.floor (omega arith) in
    let d = gap_line version gap g.gap (eqb version 1) refl read.gap in
    record {
      written = rw (named (codes "gateway") name n, a.written, b.written, c.written, d.0) refl;
      id = a.small;
      floor = c.small;
      gap = d.1;
    }
gateway_by version name id cap floor gap g false n e = absurd (cc)

pub gateway_line : (version : ℕ) (words : List (List ℕ)) (g : SavedGateway) → gateway_in version words ≡ Some g
    → IsGatewayLine version words g
gateway_line version [] g e = absurd (cc)
gateway_line version (a ∷ []) g e = absurd (cc)
gateway_line version (a ∷ b ∷ []) g e = absurd (cc)
gateway_line version (a ∷ b ∷ c ∷ []) g e = absurd (cc)
gateway_line version (a ∷ b ∷ c ∷ d ∷ gap) g e = gateway_by version a b c d gap g (is_named (codes "gateway") a) refl e

-- Lemmas on the bytes of a part of the input, up to a line feed.
use Rattle.std.proofs.Common.{◌≡◌, ◌≢◌, ℕ, ◌+◌, ◌<◌, List, [], ◌∷◌, ◌++◌, length, take, Option, None, Some, sym, ap, ◌∙◌, ⊎_elim}
use Rattle.std.proofs.Common.{arith, append_assoc, append-nil, subst}
use Rattle.std.proofs.lemmas.Bool.{cases_lt}
use Rattle.std.proofs.lemmas.List.{take_all, take-append-le, take-take, length-take-le, length_push}
use Rattle.std.proofs.lemmas.List.Elements.{All-push}
use Rattle.std.proofs.KnownBytes.{Consumes-trans}
use Rattle.std.specs.Io.KnownBytes.{Consumes, IsAtEnd}
use Rattle.std.specs.Str.Lines.{lines, strip_carriage_return}
use Rattle.text_lines.specs.declared.ahead.NextLine.TheVariants.{Whole, Last}
use Rattle.text_lines.specs.Ahead.{Ahead, unread, TakesFront}
use Rattle.text_lines.specs.Line.{HasNoLineFeed, kept, lines-first, lines-last}
use Rattle.text_lines.specs.Reading.{GivesPart, GivesLine}
use Rattle.text_lines.proofs.Held.{kept-strip_long}

-- since a part began some bytes were taken, none of them a line feed, and `held` is their front
pub record ReadsOn (old : Ahead) (left : Option (List ℕ)) (new : Ahead) (left_after : Option (List ℕ))
    (held : List ℕ) : Type 0 where
  pub so_far : List ℕ
  pub consumed : Consumes (unread old left) (unread new left_after) so_far
  pub counted : new.taken ≡ old.taken + length so_far
  pub unbroken : HasNoLineFeed so_far
  pub holds : held ≡ take 1026 so_far

-- the front of a front and more
take-take_append : (n : ℕ) (xs ys : List ℕ) → take n (take n xs ++ ys) ≡ take n (xs ++ ys)
take-take_append n xs ys = ⊎_elim
    (λ short. ap (λ front. take n (front ++ ys)) (take_all n xs (omega arith)))
    (λ long. take-append-le n (take n xs) ys (omega (arith, length-take-le n xs long)) ∙ take-take n n xs (omega arith)
    ∙ sym (take-append-le n xs ys long))
    (cases_lt (length xs) n)

-- one byte more
pub ReadsOn-push : (old : Ahead) (left : Option (List ℕ)) (mid : Ahead) (left_mid : Option (List ℕ)) (held : List ℕ) (new : Ahead)
    (left_after : Option (List ℕ)) (byte : ℕ) (more : List ℕ)
    → ReadsOn old left mid left_mid held → Consumes (unread mid left_mid) (unread new left_after) (byte ∷ [])
    → new.taken ≡ mid.taken + 1
    → byte ≢ 10 → more ≡ take 1026 (held ++ byte ∷ []) → ReadsOn old left new left_after more
ReadsOn-push old left mid left_mid held new left_after byte more before taken counted other pushed = record {
  so_far = before.so_far ++ byte ∷ [];
  consumed = Consumes-trans _ _ _ before.so_far (byte ∷ []) before.consumed taken;
  counted = omega (arith, counted, before.counted, length_push before.so_far byte);
  unbroken = All-push (λ b. b ≢ 10) before.so_far byte before.unbroken other;
  holds = pushed ∙ ap (λ front. take 1026 (front ++ byte ∷ [])) before.holds ∙ take-take_append 1026 before.so_far (byte ∷ []);
}

-- the bytes so far, and the line feed after them, were taken off the front
pub ReadsOn-feed_front : (old : Ahead) (left : Option (List ℕ)) (mid : Ahead) (left_mid : Option (List ℕ)) (held : List ℕ)
    (new : Ahead) (left_after : Option (List ℕ))
    → ReadsOn old left mid left_mid held → Consumes (unread mid left_mid) (unread new left_after) (10 ∷ [])
    → new.taken ≡ mid.taken + 1
    → TakesFront old left new left_after
ReadsOn-feed_front old left mid left_mid held new left_after before taken counted = record {
  front = before.so_far ++ 10 ∷ [];
  consumed = Consumes-trans _ _ _ before.so_far (10 ∷ []) before.consumed taken;
  counted = omega (arith, counted, before.counted, length_push before.so_far 10);
}

feed : (a b c : Option (List ℕ)) (held so_far : List ℕ) → Consumes a b so_far → Consumes b c (10 ∷ []) → HasNoLineFeed so_far
    → held ≡ take 1026 so_far → GivesPart a c Whole held
feed None b c held so_far before taken unbroken holds = tt
feed (Some x) None c held so_far before taken unbroken holds = absurd before
feed (Some x) (Some y) None held so_far before taken unbroken holds = absurd taken
feed (Some x) (Some y) (Some z) held so_far before taken unbroken holds = record {
  raw = so_far;
  front = before ∙ ap (λ l. so_far ++ l) taken;
  unbroken = unbroken;
  keeps = holds;
}

-- a line feed ends the part
pub ReadsOn-feed : (old : Ahead) (left : Option (List ℕ)) (mid : Ahead) (left_mid : Option (List ℕ)) (held : List ℕ) (new : Ahead)
    (left_after : Option (List ℕ))
    → ReadsOn old left mid left_mid held → Consumes (unread mid left_mid) (unread new left_after) (10 ∷ [])
    → GivesPart (unread old left) (unread new left_after) Whole held
ReadsOn-feed old left mid left_mid held new left_after before taken =
    feed _ _ _ held before.so_far before.consumed taken before.unbroken before.holds

some_from_held : (held so_far : List ℕ) → held ≡ take 1026 so_far → (held ≡ [] → ⊥) → 0 < length so_far
some_from_held held [] holds some = absurd (some holds)
some_from_held held (x ∷ so_far) holds some = omega arith

last : (a b c : Option (List ℕ)) (held so_far : List ℕ) → Consumes a b so_far → Consumes b c [] → IsAtEnd c → HasNoLineFeed so_far
    → held ≡ take 1026 so_far → (held ≡ [] → ⊥) → GivesPart a c Last held
last None b c held so_far before taken end unbroken holds some = tt
last (Some x) None c held so_far before taken end unbroken holds some = absurd before
last (Some x) (Some y) None held so_far before taken end unbroken holds some = absurd taken
last (Some x) (Some y) (Some z) held so_far before taken end unbroken holds some =
    let whole : x ≡ so_far = before ∙ ap (λ l. so_far ++ l) (taken ∙ end) ∙ append-nil so_far in
    record {
      some = subst (λ l. 0 < length l) (sym whole) (some_from_held held so_far holds some);
      unbroken = subst HasNoLineFeed (sym whole) unbroken;
      keeps = subst (λ l. held ≡ take 1026 l) (sym whole) holds;
      none = end;
    }

-- the end of the input ends the part
pub ReadsOn-last : (old : Ahead) (left : Option (List ℕ)) (mid : Ahead) (left_mid : Option (List ℕ)) (held : List ℕ) (new : Ahead)
    (left_after : Option (List ℕ))
    → ReadsOn old left mid left_mid held → Consumes (unread mid left_mid) (unread new left_after) []
    → IsAtEnd (unread new left_after) → (held ≡ [] → ⊥)
    → GivesPart (unread old left) (unread new left_after) Last held
ReadsOn-last old left mid left_mid held new left_after before taken end some =
    last _ _ _ held before.so_far before.consumed taken end before.unbroken before.holds some

-- what is kept of a line can be told from the first 1,026 bytes before its line feed
kept-strip_take : (raw : List ℕ) → kept (strip_carriage_return (take 1026 raw)) ≡ kept (strip_carriage_return raw)
kept-strip_take raw = ⊎_elim
    (λ long. kept-strip_long (take 1026 raw) (omega (arith, length-take-le 1026 raw (omega arith)))
    ∙ take-take 1025 1026 raw (omega arith) ∙ sym (kept-strip_long raw (omega arith)))
    (λ short. ap (λ l. kept (strip_carriage_return l)) (take_all 1026 raw (omega arith)))
    (cases_lt 1026 (length raw))

-- a part before a line feed, without its carriage return, is the first line
pub GivesLine-whole : (a b : Option (List ℕ)) (held line : List ℕ) → GivesPart a b Whole held
    → line ≡ kept (strip_carriage_return held) → GivesLine a b Whole line
GivesLine-whole None b held line part same = tt
GivesLine-whole (Some x) None held line part same = absurd part
GivesLine-whole (Some x) (Some y) held line part same = record {
  line = strip_carriage_return part.raw;
  taken = part.raw ++ 10 ∷ [];
  front = part.front ∙ sym (append_assoc part.raw (10 ∷ []) y);
  first = λ more. ap lines (append_assoc part.raw (10 ∷ []) more) ∙ lines-first part.raw more part.unbroken;
  keeps = same ∙ ap (λ l. kept (strip_carriage_return l)) part.keeps ∙ kept-strip_take part.raw;
}

-- a last part is the last line
pub GivesLine-last : (a b : Option (List ℕ)) (held line : List ℕ) → GivesPart a b Last held → line ≡ kept held
    → GivesLine a b Last line
GivesLine-last None b held line part same = tt
GivesLine-last (Some x) None held line part same = absurd part
GivesLine-last (Some x) (Some y) held line part same = record {
  last = lines-last x part.some part.unbroken;
  keeps = same ∙ ap kept part.keeps ∙ take-take 1025 1026 x (omega arith);
  none = part.none;
}

-- What was said in some turns, and then in others.
use Rattle.std.proofs.Common.{◌≡◌, ℕ, ◌+◌, Bool, ◌||◌, List, [], ◌∷◌, ◌++◌, length, Option}
use Rattle.std.proofs.Common.{refl, sym}
use Rattle.std.proofs.Common.{ap, ◌∙◌, arith, subst, append_assoc, append-nil}
use Rattle.std.specs.Global.{Global}
use Rattle.std.specs.Io.KnownBytes.{Appends}
use Rattle.std.proofs.lemmas.List.Folds.{list_any-append}
use Rattle.text_lines.specs.Line.{text_of, text_of-append}
use Rattle.text_lines.specs.Writing.{WritesAllBut-from_all, WritesAllBut-more, Appends-after}
use Rattle.text_words.specs.Words.{is_refusal, has_refusal}
use Rattle.server_desk.specs.declared.setting.DeviceSetting.{DeviceSetting}
use Rattle.server_core.specs.declared.entry.Entry.{Entry}
use Rattle.airbook_text.specs.Receives.{Received}
use Rattle.airbook_text.specs.ListenTurns.{Account, Said, nothing, said_both, IsTurn, AreTurns}

abbrev said_of : List (Entry Global) → List (List ℕ) → Said
said_of entries lines = record { entries = entries; lines = lines }

said_same : (a b : Said) → a.entries ≡ b.entries → a.lines ≡ b.lines → a ≡ b
said_same a b e l = ap (λ x. said_of x a.lines) e ∙ ap (λ y. said_of b.entries y) l

said_then_nothing : (s : Said) → s ≡ said_both s nothing
said_then_nothing s = said_same s (said_both s nothing) (sym (append-nil s.entries)) (sym (append-nil s.lines))

said_three : (a b c : Said) → said_both (said_both a b) c ≡ said_both a (said_both b c)
said_three a b c =
    said_same (said_both (said_both a b) c) (said_both a (said_both b c)) (append_assoc a.entries b.entries c.entries)
    (append_assoc a.lines b.lines c.lines)

-- some turns, and one more
pub turns_more : (ids : List ℕ) (devices : List DeviceSetting) (turn : ℕ) (rs : List Received) (r : Received)
    (old mid new : Account) (said more : Said) → AreTurns ids devices turn rs old mid said
    → IsTurn ids devices (turn + length rs) r mid new more
    → AreTurns ids devices turn (rs ++ r ∷ []) old new (said_both said more)
turns_more ids devices turn [] r old mid new said more none last = (
  new,
  more,
  nothing,
  subst (λ n. IsTurn ids devices n r old new more) (omega arith)
      (subst (λ b. IsTurn ids devices (turn + 0) r b new more) none.0 last),
  (refl, refl),
  ap (λ s. said_both s more) none.1 ∙ said_then_nothing more,
)
turns_more ids devices turn (q ∷ rs) r old mid new said more some last = (
  some.0,
  some.1,
  said_both some.2 more,
  some.3,
  turns_more ids devices (turn + 1) rs r some.0 mid new some.2 more some.4
      (subst (λ n. IsTurn ids devices n r mid new more) (omega arith) last),
  ap (λ s. said_both s more) some.5 ∙ said_three some.1 some.2 more,
)

-- lines were written, and then others
pub appends_both : (a b c : Option (List ℕ)) (first second : List (List ℕ)) → Appends a b (text_of first)
    → Appends b c (text_of second) → Appends a c (text_of (first ++ second))
appends_both a b c first second one two =
    subst (Appends a c) (sym (text_of-append first second))
    (Appends-after a b c (text_of first ++ text_of second) (text_of second)
    (WritesAllBut-more a b (text_of first) [] (text_of second) (WritesAllBut-from_all a b (text_of first) one)) two)

-- a line of one or of the other begins with `no` or `bad`
pub refused_both : (first second : List (List ℕ)) (old new : Bool) → old ≡ has_refusal first
    → new ≡ old || has_refusal second → new ≡ has_refusal (first ++ second)
refused_both first second old new e n =
    n ∙ ap (λ t. t || has_refusal second) e ∙ sym (list_any-append is_refusal first second)

-- What a writer has taken of a text that is written in order.
use Rattle.std.specs.Prelude.{◌≡◌, ◌≤◌, ℕ, List, [], ◌++◌, length, ⊤, Option, None, Some, refl}
use Rattle.std.specs.Io.KnownBytes.{Appends}
use Rattle.std.proofs.Common.{sym, ap, ◌∙◌, arith, length-append, append_assoc, append-nil}

-- of the text, the writer took all but `pending`, which is the text's end
abbrev pub WritesAllBut : Option (List ℕ) → Option (List ℕ) → List ℕ → List ℕ → Type 0
WritesAllBut None after text pending = ⊤
WritesAllBut (Some before) None text pending = ⊥
WritesAllBut (Some before) (Some after) text pending = (before ++ text ≡ after ++ pending) × (length before ≤ length after)

-- the writer took a front of the text
abbrev pub WritesFront : Option (List ℕ) → Option (List ℕ) → List ℕ → Type 0
WritesFront before after text = (rest : List ℕ) × WritesAllBut before after text rest

-- at first nothing was taken
pub WritesAllBut-refl : (a : Option (List ℕ)) (text : List ℕ) → WritesAllBut a a text text
WritesAllBut-refl None text = tt
WritesAllBut-refl (Some x) text = (refl, omega arith)

-- where nothing is pending, all was taken
pub Appends-from_all : (a b : Option (List ℕ)) (text : List ℕ) → WritesAllBut a b text [] → Appends a b text
Appends-from_all None b text all = tt
Appends-from_all (Some x) None text all = absurd all
Appends-from_all (Some x) (Some y) text all = sym (append-nil y) ∙ sym all.0

-- where all was taken, nothing is pending
pub WritesAllBut-from_all : (a b : Option (List ℕ)) (text : List ℕ) → Appends a b text → WritesAllBut a b text []
WritesAllBut-from_all None b text all = tt
WritesAllBut-from_all (Some x) None text all = absurd all
WritesAllBut-from_all (Some x) (Some y) text all = (
  sym all ∙ sym (append-nil y),
  omega (arith, ap length all, length-append x text),
)

-- a text that goes on has more pending
pub WritesAllBut-more : (a b : Option (List ℕ)) (text pending more : List ℕ) → WritesAllBut a b text pending
    → WritesAllBut a b (text ++ more) (pending ++ more)
WritesAllBut-more None b text pending more part = tt
WritesAllBut-more (Some x) None text pending more part = absurd part
WritesAllBut-more (Some x) (Some y) text pending more part =
    (sym (append_assoc x text more) ∙ ap (λ l. l ++ more) part.0 ∙ append_assoc y pending more, part.1)

-- what was pending was taken in turn, but for its own end
pub WritesAllBut-trans : (a b c : Option (List ℕ)) (text pending rest : List ℕ) → WritesAllBut a b text pending
    → WritesAllBut b c pending rest → WritesAllBut a c text rest
WritesAllBut-trans None b c text pending rest part next = tt
WritesAllBut-trans (Some x) None c text pending rest part next = absurd part
WritesAllBut-trans (Some x) (Some y) None text pending rest part next = absurd next
WritesAllBut-trans (Some x) (Some y) (Some z) text pending rest part next = (part.0 ∙ next.0, omega (arith, part.1, next.1))

-- what was pending was taken whole
pub Appends-after : (a b c : Option (List ℕ)) (text pending : List ℕ) → WritesAllBut a b text pending → Appends b c pending
    → Appends a c text
Appends-after a b c text pending part all =
    Appends-from_all a c text (WritesAllBut-trans a b c text pending [] part (WritesAllBut-from_all b c pending all))

-- a front of a text is a front of a text that goes on
pub WritesFront-more : (a b : Option (List ℕ)) (text more : List ℕ) → WritesFront a b text → WritesFront a b (text ++ more)
WritesFront-more a b text more front = (front.0 ++ more, WritesAllBut-more a b text front.0 more front.1)

-- a front of what was pending was taken
pub WritesFront-after : (a b c : Option (List ℕ)) (text pending : List ℕ) → WritesAllBut a b text pending
    → WritesFront b c pending → WritesFront a c text
WritesFront-after a b c text pending part front = (front.0, WritesAllBut-trans a b c text pending front.0 part front.1)

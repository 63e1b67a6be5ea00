-- Lemmas on tills together.
use Rattle.std.proofs.Common.{ℕ, ◌≡◌, ◌+◌, ◌≤◌, Bool, true, false, List, [], ◌∷◌, ◌++◌, refl, sym, ap, subst, ◌∙◌, arith, nat_lt}
use Rattle.std.specs.Prelude.{if◌then◌else◌, Option, Some, None}
use Rattle.std.specs.Option.{is_some}
use Rattle.std.proofs.lemmas.Bool.{ltb-false}
use Rattle.air_ledger.specs.Tills.{Holding, all_parts, together, gathered, parts_of, amount_of}

-- tills that are not too many
within_by : (k : ℕ) (b : Bool) → nat_lt all_parts k ≡ b → is_some (if b then None else Some k) ≡ true → k ≤ all_parts
within_by k true e s = absurd (cc)
within_by k false e s = ltb-false all_parts k e

pub within : (l m : List Holding) (o : Option ℕ) → m ≡ l
    → o ≡ (if nat_lt all_parts (parts_of m) then None else Some (parts_of m)) → is_some o ≡ true → parts_of l ≤ all_parts
within l m o same e s = subst (λ x. parts_of x ≤ all_parts) same
    (within_by (parts_of m) (nat_lt all_parts (parts_of m)) refl (sym (ap is_some e) ∙ s))

parts_of-last : (l : List Holding) (h : Holding) → parts_of (l ++ h ∷ []) ≡ h.parts + parts_of l
parts_of-last [] h = refl
parts_of-last (g ∷ l) h = omega (arith, parts_of-last l h)

amount_of-last : (l : List Holding) (h : Holding) → amount_of (l ++ h ∷ []) ≡ h.amount + amount_of l
amount_of-last [] h = refl
amount_of-last (g ∷ l) h = omega (arith, amount_of-last l h)

-- the last till and the others
pub gathered-last : (all l : List Holding) (h : Holding) → all ≡ l ++ h ∷ [] → gathered all ≡ together h (gathered l)
gathered-last all l h e =
    ap gathered e ∙ ap (λ p. record { parts = p; amount = amount_of (l ++ h ∷ []) }) (parts_of-last l h)
    ∙ ap (λ a. record { parts = h.parts + parts_of l; amount = a }) (amount_of-last l h)

-- one more till is taken in
pub gathered-on : (whole left new : Holding) (h : Holding) (old l : List Holding) → left ≡ together whole (gathered old)
    → old ≡ l ++ h ∷ [] → new ≡ together whole h → left ≡ together new (gathered l)
gathered-on whole left new h old l e cut n =
    let p : whole.parts + (h.parts + parts_of l) ≡ whole.parts + h.parts + parts_of l = omega arith in
    let a : whole.amount + (h.amount + amount_of l) ≡ whole.amount + h.amount + amount_of l = omega arith in
    e ∙ ap (together whole) (gathered-last old l h cut)
    ∙ ap (λ k. record { parts = k; amount = whole.amount + (h.amount + amount_of l) }) p
    ∙ ap (λ k. record { parts = whole.parts + h.parts + parts_of l; amount = k }) a
    ∙ ap (λ k. together k (gathered l)) (sym n)

-- a till that is left fits
pub fits-on : (whole all h : Holding) (old l : List Holding) → all ≡ together whole (gathered old) → old ≡ l ++ h ∷ []
    → all.parts ≤ all_parts → whole.parts + h.parts ≤ all_parts
fits-on whole all h old l e cut most =
    let p : all.parts ≡ whole.parts + parts_of old = ap (λ k. k.parts) e in
    let q : parts_of old ≡ h.parts + parts_of l = ap parts_of cut ∙ parts_of-last l h in
    omega (arith, p, q, most)

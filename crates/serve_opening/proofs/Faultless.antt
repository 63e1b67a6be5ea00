use Rattle.std.proofs.Common.{◌≡◌, ◌≤◌, Bool, true, false, List, [], ◌∷◌, ◌||◌, Some, None, All, if◌then◌else◌, refl, arith}
use Rattle.std.specs.List.{list_any}
use Rattle.std.proofs.lemmas.Bool.Decides.{nat_tests}
use Rattle.std.proofs.lemmas.List.Elements.{All-nil, All-cons}
use Rattle.serve_journal.specs.Journal.{Journal, Mast, Node}
use Rattle.serve_opening.specs.declared.fault.OpeningFault.TheVariants.{Clock, Counter}
use Rattle.serve_opening.specs.Faults.{most_high, most_down, is_late, is_overspent, opening_fault}

-- What a journal without a fault has.

none_is : {X : Type 0} (test : X → Bool) (P : X → Type 0) → ((x : X) → test x ≡ false → P x) → (xs : List X)
    → list_any test xs ≡ false → All P xs
none_is test P f [] h = All-nil P
none_is test P f (x ∷ xs) h = All-cons P x xs (f x (first (test x) (list_any test xs) h)) (none_is test P f xs (rest (test x) _ h))
  where
    first : (a b : Bool) → (a || b) ≡ false → a ≡ false
    first true b e = e
    first false b e = refl

    rest : (a b : Bool) → (a || b) ≡ false → b ≡ false
    rest true b e = absurd (cc)
    rest false b e = e

both_by : (a b : Bool) → (if a then Some Clock else (if b then Some Counter else None)) ≡ None → (a ≡ false) × (b ≡ false)
both_by true b e = absurd (cc)
both_by false true e = absurd (cc)
both_by false false e = (refl, refl)

early_mast : (m : Mast) → is_late m ≡ false → m.high ≤ most_high
early_mast m e = grind (arith, nat_tests)

low_node : (n : Node) → is_overspent n ≡ false → n.down ≤ most_down
low_node n e = grind (arith, nat_tests)

pub clocks_early : (j : Journal) → opening_fault j ≡ None → All (λ m. m.high ≤ most_high) j.gateways
clocks_early j e =
    none_is is_late (λ m. m.high ≤ most_high) early_mast j.gateways
    (both_by (list_any is_late j.gateways) (list_any is_overspent j.devices) e).0

pub counters_low : (j : Journal) → opening_fault j ≡ None → All (λ n. n.down ≤ most_down) j.devices
counters_low j e =
    none_is is_overspent (λ n. n.down ≤ most_down) low_node j.devices
    (both_by (list_any is_late j.gateways) (list_any is_overspent j.devices) e).1

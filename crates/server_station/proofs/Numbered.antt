-- The gateways of a station, by their numbers.
use Rattle.std.specs.Prelude.{ℕ, ◌≡◌, ◌==◌, Bool, true, false, ◌||◌, cond, List, [], ◌∷◌, Option, Some, None, MatchOption, find}
use Rattle.std.specs.Option.{option_map}
use Rattle.std.proofs.Common.{ap, ◌∙◌, refl}
use Rattle.std.proofs.lemmas.Bool.{eqb-true}
use Rattle.server_desk.specs.Register.{is_among}

find_first : (first id : ℕ) (ids : List ℕ) (b : Bool) → (first == id) ≡ b
    → find (λ x. x == id) ids ≡ cond (is_among ids id) (Some id) None
    → cond b (Some first) (find (λ x. x == id) ids) ≡ cond (b || is_among ids id) (Some id) None
find_first first id ids true same more = ap Some (eqb-true first id same)
find_first first id ids false same more = more

-- a number is found where it is, and nowhere else
pub find_number : (ids : List ℕ) (id : ℕ) → find (λ x. x == id) ids ≡ cond (is_among ids id) (Some id) None
find_number [] id = refl
find_number (first ∷ ids) id = find_first first id ids (first == id) refl (find_number ids id)

found_or_not : {X : Type 0} (shown : X → ℕ) (ids : List ℕ) (id : ℕ) (o : Option X) (b : Bool) → is_among ids id ≡ b
    → option_map shown o ≡ cond b (Some id) None
    → MatchOption o (is_among ids id ≡ false) (λ x. (is_among ids id ≡ true) × (shown x ≡ id))
found_or_not shown ids id (Some x) true e same = let at : shown x ≡ id = cc in (e, at)
found_or_not shown ids id None true e same = absurd (cc)
found_or_not shown ids id (Some x) false e same = absurd (cc)
found_or_not shown ids id None false e same = e

-- what a look-up by a number finds
pub found_number : {X : Type 0} (shown : X → ℕ) (ids : List ℕ) (id : ℕ) (o : Option X)
    → option_map shown o ≡ find (λ x. x == id) ids
    → MatchOption o (is_among ids id ≡ false) (λ x. (is_among ids id ≡ true) × (shown x ≡ id))
found_number shown ids id o e = found_or_not shown ids id o (is_among ids id) refl (e ∙ find_number ids id)

use Rattle.std.proofs.Common.{ℕ, suc, ◌≡◌, ◌+◌, Bool, true, false, if◌then◌else◌, List, [], ◌∷◌, slice_get, Option, Some, None}
use Rattle.std.proofs.Common.{refl, sym, ap, subst, ◌∙◌, arith}
use Rattle.std.specs.Option.{option_or}
use Rattle.std.proofs.lemmas.Slice.Eq.{bytes_eq-Decides}
use Rattle.uplink_gather.specs.Gatherings.{Gathering, numbered, has_bytes, newest_from, newest}

-- Where the newest gathering of some bytes stands.

-- the number of the newest says where it stands
pub record StandsAt (bytes : List ℕ) (n : ℕ) (l : List Gathering) (e : ℕ × Gathering) : Type 0 where
  pub place : ℕ
  pub number : e.0 ≡ n + place
  pub there : slice_get l place ≡ Some e.1
  pub same : has_bytes bytes e.1 ≡ true

stands_behind : (bytes : List ℕ) (n : ℕ) (g : Gathering) (l : List Gathering) (e : ℕ × Gathering) → StandsAt bytes (n + 1) l e
    → StandsAt bytes n (g ∷ l) e
stands_behind bytes n g l e s =
    record { place = suc s.place; number = omega (arith, s.number); there = s.there; same = s.same }

newest_from_stands : (n : ℕ) (bytes : List ℕ) (l : List Gathering) (e : ℕ × Gathering) → newest_from n bytes l ≡ Some e
    → StandsAt bytes n l e
newest_from_stands n bytes [] e h = absurd (cc)
newest_from_stands n bytes (g ∷ l) e h =
    by (newest_from (n + 1) bytes l) refl (λ x p. stands_behind bytes n g l x (newest_from_stands (n + 1) bytes l x p))
  where
    own : (t : Bool) → has_bytes bytes g ≡ t → (if t then Some (n, g) else None) ≡ Some e → StandsAt bytes n (g ∷ l) e
    own true p q =
        let P : ℕ × Gathering → Type 0 = λ x. StandsAt bytes n (g ∷ l) x in
        let same : (n, g) ≡ e = cc in
        subst P same (record { place = 0; number = omega arith; there = refl; same = p })
    own false p q = absurd (cc)

    by : (o : Option (ℕ × Gathering)) → newest_from (n + 1) bytes l ≡ o
        → ((x : ℕ × Gathering) → newest_from (n + 1) bytes l ≡ Some x → StandsAt bytes n (g ∷ l) x) → StandsAt bytes n (g ∷ l) e
    by None p rest = own (has_bytes bytes g) refl (sym (ap (λ o. option_or o (if has_bytes bytes g then Some (n, g) else None)) p)
        ∙ h)
    by (Some x) p rest =
        let same : Some x ≡ Some e = sym (ap (λ o. option_or o (if has_bytes bytes g then Some (n, g) else None)) p) ∙ h in
        rest e (p ∙ same)

pub newest_stands : (bytes : List ℕ) (l : List Gathering) (e : ℕ × Gathering) → newest bytes l ≡ Some e
    → (numbered e.0 l ≡ Some e.1) × (bytes ≡ e.1.bytes)
unfolding newest
newest_stands bytes l e h =
    let s = newest_from_stands 1 bytes l e h in
    let P : ℕ → Type 0 = λ n. numbered n l ≡ Some e.1 in
    let number : suc s.place ≡ e.0 = omega (arith, s.number) in
    (subst P number s.there, (bytes_eq-Decides bytes e.1.bytes).0 s.same)

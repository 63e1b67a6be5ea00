use Rattle.std.proofs.Common.{ℕ, zero, suc, ◌≡◌, ◌+◌, Bool, true, false, if◌then◌else◌, List, [], ◌∷◌, ◌++◌, length, slice_get}
use Rattle.std.proofs.Common.{slice_set, Option, Some, None, refl, sym, ap, ◌∙◌, true≢false, arith}
use Rattle.std.specs.Option.{option_map, option_or}
use Rattle.std.specs.Str.{bytes_eq}
use Rattle.uplink_gather.specs.Gatherings.{Gathering, has_bytes, newest_from, newest}

-- The newest gathering of some bytes, where one more is put behind the others or one is rewritten.

-- one more gathering is the newest of its bytes, and of no others
newest_from-push : (n : ℕ) (bytes : List ℕ) (l : List Gathering) (g : Gathering)
    → newest_from n bytes (l ++ g ∷ []) ≡ (if has_bytes bytes g then Some (n + length l, g) else newest_from n bytes l)
newest_from-push n bytes [] g = ap (λ m. if has_bytes bytes g then Some (m, g) else None) (omega arith)
newest_from-push n bytes (h ∷ l) g =
    let own : Option (ℕ × Gathering) = if has_bytes bytes h then Some (n, h) else None in
    let more : (n + 1) + length l ≡ n + suc (length l) = omega arith in
    let step : (t : Bool) (m : ℕ) (rest : Option (ℕ × Gathering))
    → option_or (if t then Some (m, g) else rest) own ≡ (if t then Some (m, g) else option_or rest own) =
    λ t m rest. elim t as (λ t. option_or (if t then Some (m, g) else rest) own
    ≡ (if t then Some (m, g) else option_or rest own)) [ true ↦ refl | false ↦ refl ] in
    ap (λ o. option_or o own) (newest_from-push (n + 1) bytes l g
    ∙ ap (λ m. if has_bytes bytes g then Some (m, g) else newest_from (n + 1) bytes l) more)
    ∙ step (has_bytes bytes g) (n + suc (length l)) (newest_from (n + 1) bytes l)

pub newest_push : (bytes : List ℕ) (l : List Gathering) (g : Gathering)
    → newest bytes (l ++ g ∷ []) ≡ (if has_bytes bytes g then Some (length l + 1, g) else newest bytes l)
unfolding newest
newest_push bytes l g =
    newest_from-push 1 bytes l g ∙ ap (λ m. if has_bytes bytes g then Some (m, g) else newest_from 1 bytes l) (omega arith)

-- a rewriting that leaves the bytes leaves which number is the newest
newest_from-set : (n : ℕ) (bytes : List ℕ) (l : List Gathering) (i : ℕ) (g h : Gathering) → slice_get l i ≡ Some g
    → h.bytes ≡ g.bytes → option_map (λ e. e.0) (newest_from n bytes (slice_set l i h))
    ≡ option_map (λ e. e.0) (newest_from n bytes l)
newest_from-set n bytes [] i g h e same = refl
newest_from-set n bytes (x ∷ l) zero g h e same =
    let is : x ≡ g = cc in
    let alike : bytes_eq bytes h.bytes ≡ bytes_eq bytes x.bytes = ap (bytes_eq bytes) (same ∙ ap (λ y. y.bytes) (sym is)) in
    by (newest_from (n + 1) bytes l) (bytes_eq bytes h.bytes) (bytes_eq bytes x.bytes) alike
  where
    by : (o : Option (ℕ × Gathering)) (s t : Bool) → s ≡ t → option_map (λ (e : ℕ × Gathering). e.0)
        (option_or o (if s then Some (n, h) else None)) ≡ option_map (λ (e : ℕ × Gathering). e.0)
        (option_or o (if t then Some (n, x) else None))
    by (Some y) s t p = refl
    by None true true p = refl
    by None false false p = refl
    by None true false p = absurd (true≢false p)
    by None false true p = absurd (true≢false (sym p))
newest_from-set n bytes (x ∷ l) (suc i) g h e same =
    by (newest_from (n + 1) bytes (slice_set l i h)) (newest_from (n + 1) bytes l) (newest_from-set (n + 1) bytes l i g h e same)
  where
    by : (o p : Option (ℕ × Gathering)) → option_map (λ (e : ℕ × Gathering). e.0) o ≡ option_map (λ (e : ℕ × Gathering). e.0) p
        → option_map (λ (e : ℕ × Gathering). e.0) (option_or o (if has_bytes bytes x then Some (n, x) else None))
        ≡ option_map (λ (e : ℕ × Gathering). e.0) (option_or p (if has_bytes bytes x then Some (n, x) else None))
    by None None q = refl
    by (Some a) (Some b) q = q
    by None (Some b) q = absurd (cc)
    by (Some a) None q = absurd (cc)

pub newest-set : (bytes : List ℕ) (l : List Gathering) (i : ℕ) (g h : Gathering) → slice_get l i ≡ Some g → h.bytes ≡ g.bytes
    → option_map (λ e. e.0) (newest bytes (slice_set l i h)) ≡ option_map (λ e. e.0) (newest bytes l)
unfolding newest
newest-set bytes l i g h e same = newest_from-set 1 bytes l i g h e same

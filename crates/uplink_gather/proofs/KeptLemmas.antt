use Rattle.std.proofs.Common.{ℕ, zero, suc, ◌≡◌, ◌+◌, ◌-◌, ◌<◌, ◌≤◌, Bool, true, false, if◌then◌else◌, List, [], ◌∷◌, ◌++◌}
use Rattle.std.proofs.Common.{length, map, slice_get, slice_set, Option, Some, None, refl, sym, ap, subst, ◌∙◌, arith}
use Rattle.std.specs.List.{remove}
use Rattle.std.specs.Option.{option_map}
use Rattle.std.specs.Str.{bytes_eq}
use Rattle.std.proofs.Math.ListN.{length-set}
use Rattle.std.proofs.lemmas.List.{length-append, length-map, map-set}
use Rattle.uplink_gather.specs.declared.limits.Limits.{Limits}
use Rattle.uplink_gather.specs.declared.stored.Stored.{Stored}
use Rattle.uplink_gather.specs.Gatherings.{Gathering, numbered, newest}
use Rattle.uplink_gather.proofs.NumberedLemmas.{numbered_at, numbered_within}
use Rattle.uplink_gather.proofs.NewestLemmas.{newest_push, newest-set}
use Rattle.uplink_gather.proofs.GatheringLaws.{newest_stands}
use Rattle.uplink_gather.specs.Indexed.{Index, text_at, number_of, Renews, shown, open_from, IsWhole}
use Rattle.uplink_gather.proofs.UnclosedLemmas.{open_from-push, open_from-set}

-- What the type of the gatherings keeps, and after each change.

-- no gatherings
pub whole_empty : {A : Type 0} (limits : Limits) → IsWhole {A = A} limits [] [] []
unfolding newest
whole_empty limits =
    record { texts = λ i s e. absurd (cc); newest_is = λ bytes. refl; open_is = refl; bounded = omega arith }

module _ {X Y : Type 0} where
  pub get_map : (f : X → Y) (xs : List X) (i : ℕ) → slice_get (map f xs) i ≡ option_map f (slice_get xs i)
  get_map f [] i = refl
  get_map f (x ∷ xs) zero = refl
  get_map f (x ∷ xs) (suc i) = get_map f xs i

-- what stands at a place, written there again
pub set_same : {X : Type 0} (xs : List X) (i : ℕ) (x : X) → slice_get xs i ≡ Some x → slice_set xs i x ≡ xs
set_same [] i x e = refl
set_same (y ∷ ys) zero x e = let is : y ≡ x = cc in ap (λ z. z ∷ ys) (sym is)
set_same (y ∷ ys) (suc i) x e = ap (λ zs. y ∷ zs) (set_same ys i x e)

-- the stored gathering that a number names
pub record IsStoredAt {A : Type 0} (index : Index) (stored : List (Stored A)) (n : ℕ) (g : Gathering) : Type 0 where
  pub kept : Stored A
  pub above : 0 < n
  pub within : n ≤ length stored
  pub there : slice_get stored (n - 1) ≡ Some kept
  pub same : shown index kept ≡ g

pub stored_at : {A : Type 0} (index : Index) (stored : List (Stored A)) (n : ℕ) (g : Gathering)
    → numbered n (map (shown index) stored) ≡ Some g → IsStoredAt index stored n g
stored_at {A} index stored n g e =
    let at = numbered_within n (map (shown index) stored) g e in
    let there : option_map (shown index) (slice_get stored (n - 1)) ≡ Some g =
    sym (get_map (shown index) stored (n - 1)) ∙ sym (numbered_at n (map (shown index) stored) at.0) ∙ e in
    by (slice_get stored (n - 1)) refl there at.0 (omega (arith, at.1, length-map stored (shown index)))
  where
    by : (o : Option (Stored A)) → slice_get stored (n - 1) ≡ o → option_map (shown index) o ≡ Some g → 0 < n → n ≤ length stored
        → IsStoredAt index stored n g
    by None p q h k = absurd (cc)
    by (Some s) p q h k = record { kept = s; above = h; within = k; there = p; same = cc }

-- the gathering to which the index leads from some bytes
pub record LeadsTo (bytes : List ℕ) (n : ℕ) (l : List Gathering) : Type 0 where
  pub gathering : Gathering
  pub newest_is : newest bytes l ≡ Some (n, gathering)
  pub there : numbered n l ≡ Some gathering

pub leads : (bytes : List ℕ) (n : ℕ) (l : List Gathering) → Some n ≡ option_map (λ e. e.0) (newest bytes l) → LeadsTo bytes n l
leads bytes n l e = by (newest bytes l) refl e
  where
    by : (o : Option (ℕ × Gathering)) → newest bytes l ≡ o → Some n ≡ option_map (λ (e : ℕ × Gathering). e.0) o
        → LeadsTo bytes n l
    by None p q = absurd (cc)
    by (Some x) p q =
        let number : x.0 ≡ n = cc in
        let found = newest_stands bytes l x p in
        let P : ℕ → Type 0 = λ m. numbered m l ≡ Some x.1 in
        record { gathering = x.1; newest_is = p ∙ ap (λ m. Some (m, x.1)) number; there = subst P number found.0 }

pub leads_to : {A : Type 0} (limits : Limits) (index : Index) (stored : List (Stored A)) (open_numbers bytes : List ℕ) (n : ℕ)
    → IsWhole limits index stored open_numbers → number_of bytes index ≡ Some n → LeadsTo bytes n (map (shown index) stored)
leads_to limits index stored open_numbers bytes n w e = leads bytes n (map (shown index) stored) (sym e ∙ w.newest_is bytes)

-- the bytes of what is stored already stay where they stand
pub shown_kept : {A : Type 0} (old new : Index) (stored : List (Stored A))
    → ((i : ℕ) (s : Stored A) → slice_get stored i ≡ Some s → s.text < length old)
    → ((i : ℕ) → i < length old → text_at new i ≡ text_at old i) → map (shown new) stored ≡ map (shown old) stored
shown_kept old new [] within kept = refl
shown_kept old new (s ∷ stored) within kept =
    let head : shown new s ≡ shown old s = ap (λ b. record {
      bytes = b;
      opened = s.opened;
      copies = s.copies.items;
      closed =
          s.closed;
    }) (kept s.text (within 0 s refl)) in
    let rest = shown_kept old new stored (λ i x e. within (suc i) x e) kept in
    (λ j. head j ∷ rest j)

texts_set : {A : Type 0} (stored : List (Stored A)) (i : ℕ) (s t : Stored A) (bound : ℕ) → slice_get stored i ≡ Some s
    → t.text ≡ s.text → ((j : ℕ) (x : Stored A) → slice_get stored j ≡ Some x → x.text < bound) → (j : ℕ) (x : Stored A)
    → slice_get (slice_set stored i t) j ≡ Some x → x.text < bound
texts_set [] i s t bound e same h j x p = absurd (cc)
texts_set (y ∷ stored) zero s t bound e same h zero x p =
    let is : t ≡ x = cc in
    let was : y ≡ s = cc in
    let P : ℕ → Type 0 = λ k. k < bound in
    subst P (ap (λ z. z.text) was ∙ sym same ∙ ap (λ z. z.text) is) (h 0 y refl)
texts_set (y ∷ stored) zero s t bound e same h (suc j) x p = h (suc j) x p
texts_set (y ∷ stored) (suc i) s t bound e same h zero x p = h 0 x p
texts_set (y ∷ stored) (suc i) s t bound e same h (suc j) x p = texts_set stored i s t bound e same (λ k z q. h (suc k) z q) j x p

texts_push : {A : Type 0} (stored : List (Stored A)) (s : Stored A) (bound : ℕ) → s.text < bound
    → ((j : ℕ) (x : Stored A) → slice_get stored j ≡ Some x → x.text < bound) → (j : ℕ) (x : Stored A)
    → slice_get (stored ++ s ∷ []) j ≡ Some x → x.text < bound
texts_push [] s bound h k zero x p = let is : s ≡ x = cc in let P : ℕ → Type 0 = λ m. m < bound in subst P (ap (λ z. z.text) is) h
texts_push [] s bound h k (suc j) x p = absurd (cc)
texts_push (y ∷ stored) s bound h k zero x p = k 0 x p
texts_push (y ∷ stored) s bound h k (suc j) x p = texts_push stored s bound h (λ i z q. k (suc i) z q) j x p

-- how the list looks with one stored gathering rewritten
pub shown_set : {A : Type 0} (index : Index) (stored : List (Stored A)) (i : ℕ) (t : Stored A)
    → map (shown index) (slice_set stored i t) ≡ slice_set (map (shown index) stored) i (shown index t)
shown_set index stored i t = map-set (shown index) stored i t

-- a gathering is rewritten, but for its bytes and its flag
pub whole_rewritten : {A : Type 0} (limits : Limits) (index : Index) (stored : List (Stored A)) (open_numbers : List ℕ) (i : ℕ)
    (s t : Stored A) → IsWhole limits index stored open_numbers → slice_get stored i ≡ Some s → t.text ≡ s.text
    → t.closed ≡ s.closed → IsWhole limits index (slice_set stored i t) open_numbers
whole_rewritten limits index stored open_numbers i s t w e same flag =
    let there : slice_get (map (shown index) stored) i ≡ Some (shown index s) =
    get_map (shown index) stored i ∙ ap (option_map (shown index)) e in
    let looks = shown_set index stored i t in
    record {
      texts = texts_set stored i s t (length index) e same w.texts;
      newest_is = λ bytes. w.newest_is bytes ∙ sym (newest-set bytes (map (shown index) stored) i (shown index s)
          (shown index t) there (ap (text_at index) same)) ∙ ap (λ l. option_map (λ e. e.0) (newest bytes l)) (sym looks);
      open_is = w.open_is ∙ sym (open_from-set 1 (map (shown index) stored) i (shown index s) (shown index t) there flag)
          ∙ ap (open_from 1) (sym looks);
      bounded = omega (arith, w.bounded, length-set stored i t);
    }

-- one of the unclosed is closed
pub whole_closed : {A : Type 0} (limits : Limits) (index : Index) (stored : List (Stored A)) (open_numbers : List ℕ) (p i : ℕ)
    (s t : Stored A) → IsWhole limits index stored open_numbers → slice_get stored i ≡ Some s → t.text ≡ s.text
    → remove (open_from 1 (map (shown index) stored)) p ≡ open_from 1 (slice_set (map (shown index) stored) i (shown index t))
    → IsWhole limits index (slice_set stored i t) (remove open_numbers p)
whole_closed limits index stored open_numbers p i s t w e same left =
    let there : slice_get (map (shown index) stored) i ≡ Some (shown index s) =
    get_map (shown index) stored i ∙ ap (option_map (shown index)) e in
    let looks = shown_set index stored i t in
    record {
      texts = texts_set stored i s t (length index) e same w.texts;
      newest_is = λ bytes. w.newest_is bytes ∙ sym (newest-set bytes (map (shown index) stored) i (shown index s)
          (shown index t) there (ap (text_at index) same)) ∙ ap (λ l. option_map (λ e. e.0) (newest bytes l)) (sym looks);
      open_is = ap (λ m. remove m p) w.open_is ∙ left ∙ ap (open_from 1) (sym looks);
      bounded = omega (arith, w.bounded, length-set stored i t);
    }

-- how the list looks with one gathering more
pub shown_push : {A : Type 0} (old new : Index) (stored : List (Stored A)) (s : Stored A)
    → map (shown new) stored ≡ map (shown old) stored → map (shown new) (stored ++ s ∷ []) ≡ map (shown old) stored ++ shown new s
    ∷ []
shown_push {A} old new stored s kept = append stored ∙ ap (λ l. l ++ shown new s ∷ []) kept
  where
    append : (xs : List (Stored A)) → map (shown new) (xs ++ s ∷ []) ≡ map (shown new) xs ++ shown new s ∷ []
    append [] = refl
    append (x ∷ xs) = ap (λ r. shown new x ∷ r) (append xs)

newest_pushed : (bytes other : List ℕ) (n m : ℕ) (l : List Gathering) (g : Gathering) → g.bytes ≡ bytes → m ≡ length l + 1
    → option_map (λ e. e.0) (newest other (l ++ g ∷ [])) ≡ (if bytes_eq other bytes then Some m else option_map (λ e. e.0)
    (newest other l))
newest_pushed bytes other n m l g same number =
    ap (option_map (λ e. e.0)) (newest_push other l g) ∙ by (bytes_eq other g.bytes)
    ∙ ap (λ b. if bytes_eq other b then Some m else option_map (λ e. e.0) (newest other l)) same
  where
    by : (t : Bool) → option_map (λ (e : ℕ × Gathering). e.0) (if t then Some (length l + 1, g) else newest other l)
        ≡ (if t then Some m else option_map (λ (e : ℕ × Gathering). e.0) (newest other l))
    by true = ap Some (sym number)
    by false = refl

-- one gathering more, to which the index now leads
pub whole_pushed : {A : Type 0} (limits : Limits) (old new : Index) (stored : List (Stored A)) (open_numbers bytes : List ℕ)
    (n : ℕ) (s : Stored A) → IsWhole limits old stored open_numbers → Renews old new bytes n s.text → n ≡ length stored + 1
    → length stored < limits.max_ever → s.closed ≡ false → IsWhole limits new (stored ++ s ∷ []) (open_numbers ++ n ∷ [])
whole_pushed limits old new stored open_numbers bytes n s w r number spare flag =
    let l = map (shown old) stored in
    let kept = shown_kept old new stored w.texts r.kept in
    let looks = shown_push old new stored s kept in
    let longer : n ≡ length l + 1 = omega (arith, number, length-map stored (shown old)) in
    record {
      texts = texts_push stored s (length new) r.within (λ j x e. omega (arith, w.texts j x e, r.longer));
      newest_is = λ other. r.numbers other ∙ ap (λ o. if bytes_eq other bytes then Some n else o) (w.newest_is other)
          ∙ sym (newest_pushed bytes other n n l (shown new s) r.here longer)
          ∙ ap (λ m. option_map (λ e. e.0) (newest other m)) (sym looks);
      open_is = (λ j. w.open_is j ++ n ∷ []) ∙ ap (λ m. open_from 1 l ++ m ∷ []) (omega (arith, longer))
          ∙ sym (open_from-push 1 l (shown new s) flag) ∙ ap (open_from 1) (sym looks);
      bounded = omega (arith, spare, length-append stored (s ∷ []));
    }

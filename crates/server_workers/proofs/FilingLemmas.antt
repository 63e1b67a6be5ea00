-- Lemmas on what was filed, list by list, and on room for it.
use Rattle.std.proofs.Common.{ℕ, suc, ◌≡◌, ◌+◌, ◌*◌, ◌≤◌, List, [], ◌∷◌, ◌++◌, reverse, Vec, vec_len, vec_capacity}
use Rattle.std.proofs.Common.{refl, sym, ap, subst, ◌∙◌, append_assoc, append-nil, arith}
use Rattle.std.specs.List.Sorted.{IsPermutation, IsNonDecreasingBy}
use Rattle.std.proofs.Math.Nat.{suc-mul}
use Rattle.std.proofs.lemmas.List.{reverse-append}
use Rattle.std.proofs.lemmas.List.Sorted.{IsPermutation-refl, IsPermutation-trans, IsPermutation-append_right}
use Rattle.std.proofs.lemmas.List.Sorted.{IsPermutation-append_comm}
use Rattle.answer_ticket.specs.declared.outcome.Outcome.{Outcome}
use Rattle.answer_ticket.specs.declared.tried.Receipt.{Receipt}
use Rattle.server_desk.specs.declared.faults.TakeFault.{TakeFault}
use Rattle.server_workers.specs.declared.filed.Filed.{Filed}
use Rattle.server_workers.specs.Works.{Fits, IsLonger, IsJoined}
use Rattle.server_workers.specs.Filing.{Filing, nothing, put_behind, gathered, filing, IsReordered, IsByNumber, HasRoomFor}
use Rattle.server_workers.specs.Filing.{IsWithin, HasRoomForMore, AreJoined, AreLonger, AreEmptyFor}

module _ {A : Type 0} where
  -- the same stands in each list
  pub filing_is : (a b : Filing A) → a.receipts ≡ b.receipts → a.outcomes ≡ b.outcomes → a.skipped ≡ b.skipped
      → a.refused ≡ b.refused → a.strays ≡ b.strays → a ≡ b
  filing_is a b receipts outcomes skipped refused strays =
      ap (λ l. record a { receipts = l }) receipts
      ∙ ap (λ l. record a { receipts = b.receipts; outcomes = l }) outcomes
      ∙ ap (λ l. record b { skipped = l; refused = a.refused; strays = a.strays }) skipped
      ∙ ap (λ l. record b { refused = l; strays = a.strays }) refused
      ∙ ap (λ l. record b { strays = l }) strays

  pub put_behind-nothing : (a : Filing A) → put_behind a nothing ≡ a
  put_behind-nothing a =
      filing_is (put_behind a nothing) a (append-nil a.receipts) (append-nil a.outcomes) (append-nil a.skipped)
      (append-nil a.refused) (append-nil a.strays)

  pub put_behind_assoc : (a b c : Filing A) → put_behind (put_behind a b) c ≡ put_behind a (put_behind b c)
  put_behind_assoc a b c =
      filing_is (put_behind (put_behind a b) c) (put_behind a (put_behind b c))
      (append_assoc a.receipts b.receipts c.receipts) (append_assoc a.outcomes b.outcomes c.outcomes)
      (append_assoc a.skipped b.skipped c.skipped) (append_assoc a.refused b.refused c.refused)
      (append_assoc a.strays b.strays c.strays)

  pub reordered-refl : (a : Filing A) → IsReordered a a
  reordered-refl a =
      record {
        receipts = IsPermutation-refl a.receipts;
        outcomes = IsPermutation-refl a.outcomes;
        skipped = IsPermutation-refl a.skipped;
        refused = IsPermutation-refl a.refused;
        strays = IsPermutation-refl a.strays;
      }

  pub reordered-trans : (a b c : Filing A) → IsReordered a b → IsReordered b c → IsReordered a c
  reordered-trans a b c p q =
      record {
        receipts = IsPermutation-trans a.receipts b.receipts c.receipts p.receipts q.receipts;
        outcomes = IsPermutation-trans a.outcomes b.outcomes c.outcomes p.outcomes q.outcomes;
        skipped = IsPermutation-trans a.skipped b.skipped c.skipped p.skipped q.skipped;
        refused = IsPermutation-trans a.refused b.refused c.refused p.refused q.refused;
        strays = IsPermutation-trans a.strays b.strays c.strays p.strays q.strays;
      }

  -- what stands behind is put in some order, and then before
  moved_forward : (a b c : Filing A) → IsReordered b c → IsReordered (put_behind a b) (put_behind c a)
  moved_forward a b c p =
      record {
        receipts = moved a.receipts b.receipts c.receipts p.receipts;
        outcomes = moved a.outcomes b.outcomes c.outcomes p.outcomes;
        skipped = moved a.skipped b.skipped c.skipped p.skipped;
        refused = moved a.refused b.refused c.refused p.refused;
        strays = moved a.strays b.strays c.strays p.strays;
      } where
        moved : {X : Type 0} (xs ys zs : List X) → IsPermutation ys zs → IsPermutation (xs ++ ys) (zs ++ xs)
        moved xs ys zs q =
            IsPermutation-trans (xs ++ ys) (xs ++ zs) (zs ++ xs) (IsPermutation-append_right xs ys zs q)
            (IsPermutation-append_comm xs zs)

  -- nothing is by number
  pub nothing_by_number : IsByNumber (nothing {A = A})
  nothing_by_number =
      record {
        receipts = none (λ (r : Receipt A). r.number);
        outcomes = none (λ (o : Outcome). o.number);
        skipped = none (λ (n : ℕ). n);
        refused = none (λ (r : ℕ × TakeFault). r.0);
        strays = none (λ (n : ℕ). n);
      } where
        none : {X : Type 0} (n : X → ℕ) → IsNonDecreasingBy n []
        none n = λ i j d l m. absurd (omega (arith, m))

module _ {T A : Type 0} (f : T → Filing A) where
  pub gathered-append : (ts us : List T) → gathered f (ts ++ us) ≡ put_behind (gathered f ts) (gathered f us)
  gathered-append [] us = refl
  gathered-append (t ∷ ts) us =
      ap (put_behind (f t)) (gathered-append ts us) ∙ sym (put_behind_assoc (f t) (gathered f ts) (gathered f us))

  gathered-last : (ts : List T) (t : T) → gathered f (ts ++ t ∷ []) ≡ put_behind (gathered f ts) (f t)
  gathered-last ts t = gathered-append ts (t ∷ []) ∙ ap (put_behind (gathered f ts)) (put_behind-nothing (f t))

  -- one more was filed behind others
  pub filed_behind : (ts : List T) (t : T) (old mid new : Filing A) → mid ≡ put_behind old (gathered f ts)
      → new ≡ put_behind mid (f t) → new ≡ put_behind old (gathered f (ts ++ t ∷ []))
  filed_behind ts t old mid new before one =
      one ∙ ap (λ m. put_behind m (f t)) before ∙ put_behind_assoc old (gathered f ts) (f t)
      ∙ ap (put_behind old) (sym (gathered-last ts t))

  -- the last of some is filed, and the others are left
  pub filed_last : (all old new : Filing A) (t : T) (left rest : List T) → left ≡ rest ++ t ∷ [] → new ≡ put_behind old (f t)
      → all ≡ put_behind old (gathered f (reverse left)) → all ≡ put_behind new (gathered f (reverse rest))
  filed_last all old new t left rest cut one e =
      e
      ∙ ap (λ l. put_behind old (gathered f l)) (ap reverse cut ∙ reverse-append rest (t ∷ []))
      ∙ sym (put_behind_assoc old (f t) (gathered f (reverse rest)))
      ∙ ap (λ m. put_behind m (gathered f (reverse rest))) (sym one)

  -- from whichever end they are taken, but for the order
  pub gathered-reverse : (ts : List T) → IsReordered (gathered f ts) (gathered f (reverse ts))
  gathered-reverse [] = reordered-refl nothing
  gathered-reverse (t ∷ ts) =
      let last : gathered f (reverse (t ∷ ts)) ≡ put_behind (gathered f (reverse ts)) (f t) =
      ap (gathered f) (reverse-append (t ∷ []) ts) ∙ gathered-last (reverse ts) t in
      subst (IsReordered (put_behind (f t) (gathered f ts))) (sym last)
      (moved_forward (f t) (gathered f ts) (gathered f (reverse ts)) (gathered-reverse ts))

-- lists of which nothing was lost
longer_on : {X Z : Type 0} (old mid new : Vec X Z) → IsLonger old mid → IsLonger mid new → IsLonger old new
longer_on old mid new a b =
    record {
      begins = (
        a.begins.0 ++ b.begins.0,
        b.begins.1 ∙ ap (λ l. l ++ b.begins.0) a.begins.1 ∙ append_assoc old.items a.begins.0 b.begins.0,
      );
      fits = b.fits ∙ a.fits;
    }

longer_none : {X Z : Type 0} (list : Vec X Z) → IsLonger list list
longer_none list = record { begins = ([], sym (append-nil list.items)); fits = refl }

-- room for one less
less_room : (room left now : ℕ) → now + 1 ≡ left → left * room ≡ now * room + room
less_room room left now e =
    let s : left ≡ suc now = omega arith in
    ap (λ n. n * room) s ∙ suc-mul now room

-- a list fits where there is room for some more like it
one_fits : {X Z : Type 0} (own all : Vec X Z) (room left now : ℕ) → Fits (left * room) all → now + 1 ≡ left
    → vec_capacity own ≤ room → vec_len all + vec_len own ≤ vec_capacity all
one_fits own all room left now f e w =
    let p : left * room ≡ now * room + room = less_room room left now e in
    let n : vec_len own ≤ vec_capacity own = own.ok.1 in
    omega (arith, p, f, w, n)

-- then the others still fit
rest_fits : {X Z : Type 0} (all own new : Vec X Z) (room left now : ℕ) → Fits (left * room) all → now + 1 ≡ left
    → vec_capacity own ≤ room → IsJoined all own new → Fits (now * room) new
rest_fits all own new room left now f e w j =
    let p : left * room ≡ now * room + room = less_room room left now e in
    let n : vec_len own ≤ vec_capacity own = own.ok.1 in
    omega (arith, p, f, w, n, j.length, j.fits)

module _ {A : Type 0} where
  pub lists_longer_none : (a : Filed A) → AreLonger a a
  lists_longer_none a =
      record {
        receipts = longer_none a.receipts;
        outcomes = longer_none a.outcomes;
        skipped = longer_none a.skipped;
        refused = longer_none a.refused;
        strays = longer_none a.strays;
      }

  pub lists_longer_on : (a b c : Filed A) → AreLonger a b → AreLonger b c → AreLonger a c
  lists_longer_on a b c p q =
      record {
        receipts = longer_on a.receipts b.receipts c.receipts p.receipts q.receipts;
        outcomes = longer_on a.outcomes b.outcomes c.outcomes p.outcomes q.outcomes;
        skipped = longer_on a.skipped b.skipped c.skipped p.skipped q.skipped;
        refused = longer_on a.refused b.refused c.refused p.refused q.refused;
        strays = longer_on a.strays b.strays c.strays p.strays q.strays;
      }

  -- what was joined is filed behind
  pub joined : (old more new : Filed A) → AreJoined old more new → filing new ≡ put_behind (filing old) (filing more)
  joined old more new j =
      filing_is (filing new) (put_behind (filing old) (filing more)) j.receipts.items j.outcomes.items j.skipped.items
      j.refused.items j.strays.items

  -- empty lists have nothing
  pub empty : (room : ℕ) (a : Filed A) → AreEmptyFor room a → filing a ≡ nothing
  empty room a e =
      filing_is (filing a) nothing e.receipts.none e.outcomes.none e.skipped.none e.refused.none e.strays.none

  -- empty lists have the room, and no more
  pub within : (room : ℕ) (a : Filed A) → AreEmptyFor room a → IsWithin room a
  within room a e =
      record {
        receipts = omega (arith, e.receipts.fits);
        outcomes = omega (arith, e.outcomes.fits);
        skipped = omega (arith, e.skipped.fits);
        refused = omega (arith, e.refused.fits);
        strays = omega (arith, e.strays.fits);
      }

  module _ (all own : Filed A) (room left now : ℕ) (fits : HasRoomFor (left * room) all) (e : now + 1 ≡ left)
      (within : IsWithin room own) where
    -- the lists of one fit where there is room for those of some more
    pub more_fits : HasRoomForMore own all
    more_fits =
        record {
          receipts = one_fits own.receipts all.receipts room left now fits.receipts e within.receipts;
          outcomes = one_fits own.outcomes all.outcomes room left now fits.outcomes e within.outcomes;
          skipped = one_fits own.skipped all.skipped room left now fits.skipped e within.skipped;
          refused = one_fits own.refused all.refused room left now fits.refused e within.refused;
          strays = one_fits own.strays all.strays room left now fits.strays e within.strays;
        }

    -- then those of the others still fit
    pub others_fit : (new : Filed A) → AreJoined all own new → HasRoomFor (now * room) new
    others_fit new j =
        record {
          receipts = rest_fits all.receipts own.receipts new.receipts room left now fits.receipts e within.receipts j.receipts;
          outcomes = rest_fits all.outcomes own.outcomes new.outcomes room left now fits.outcomes e within.outcomes j.outcomes;
          skipped = rest_fits all.skipped own.skipped new.skipped room left now fits.skipped e within.skipped j.skipped;
          refused = rest_fits all.refused own.refused new.refused room left now fits.refused e within.refused j.refused;
          strays = rest_fits all.strays own.strays new.strays room left now fits.strays e within.strays j.strays;
        }

-- Lemmas on what a crew does.
use Rattle.std.proofs.Common.{ℕ, ◌≡◌, ◌+◌, ◌-◌, ◌^◌, ◌<◌, ◌≤◌, Bool, true, false, List, [], ◌∷◌, ◌++◌, reverse}
use Rattle.std.proofs.Common.{refl, sym, ap, subst, ◌∙◌, arith}
use Rattle.std.specs.Prelude.{min, sum_by, Result, Ok, Err, IfOk, IfErr}
use Rattle.std.specs.Int.{from_bool}
use Rattle.std.proofs.lemmas.List.{append-nil}
use Rattle.std.proofs.lemmas.List.Sums.{sum_by-append, sum_by-cons}
use Rattle.air_ledger.specs.Tills.{Holding}
use Rattle.server_workers.specs.declared.gathering.Gathered.{Gathered}
use Rattle.server_workers.specs.declared.worked.Worked.{Worked}
use Rattle.server_workers.specs.declared.served.Served.{Served}
use Rattle.server_workers.specs.Filing.{Filing, nothing, put_behind, filing, IsReordered, AreJoined}
use Rattle.server_workers.specs.Lists.{lists_of, lists_of_served}
use Rattle.server_workers.specs.Serving.{added_up, all_filed, all_overrun, begun_count, IsSummedUp}
use Rattle.server_workers.proofs.FilingLemmas.{put_behind-nothing, filed_last, gathered-reverse, reordered-trans, joined}

-- a product that fits into a list is the whole product
pub within_reach : (product room cap : ℕ) → cap ≡ room → room ≡ min product (2 ^ 64 - 1) → cap < 2 ^ 63 → room ≡ product
within_reach product room cap fits e small = omega (arith, fits, e, small)

-- tries that went on are added up
added_on : {W : Type 0} (count : W → ℕ) (all old new : ℕ) (w : W) (left rest : List W) → left ≡ rest ++ w ∷ []
    → new ≡ added_up old (count w) → all ≡ added_up old (sum_by count left) → all ≡ added_up new (sum_by count rest)
added_on count all old new w left rest cut added e =
    let split : sum_by count left ≡ sum_by count rest + sum_by count (w ∷ []) =
    ap (sum_by count) cut ∙ sum_by-append count rest (w ∷ []) in
    let one : sum_by count (w ∷ []) ≡ count w + sum_by count [] = sum_by-cons count w [] in
    let none : sum_by count [] ≡ 0 = refl in
    omega (arith, e, added, split, one, none)

-- with what is left of a crew, as much is to be added as with all of it
pub record IsOwed {B A : Type 0} (all : Gathered B A) (crew : List (Worked B A)) (now : Gathered B A)
    (left : List (Worked B A)) : Type 0 where
  pub filed : put_behind (filing all.filed) (all_filed (reverse crew)) ≡ put_behind (filing now.filed) (all_filed (reverse left))
  pub overrun : added_up all.overrun (all_overrun crew) ≡ added_up now.overrun (all_overrun left)

module _ {B A : Type 0} (all : Gathered B A) (crew : List (Worked B A)) where
  -- a worker is taken from the end of those that are left
  pub owed_on : (old new : Gathered B A) (w : Worked B A) (left rest : List (Worked B A)) → left ≡ rest ++ w ∷ []
      → AreJoined old.filed (lists_of w) new.filed → new.overrun ≡ added_up old.overrun w.overrun → IsOwed all crew old left
      → IsOwed all crew new rest
  owed_on old new w left rest cut filed overrun owed =
      record {
        filed = filed_last (λ (v : Worked B A). filing (lists_of v)) _ (filing old.filed) (filing new.filed) w left rest cut
            (joined old.filed (lists_of w) new.filed filed) owed.filed;
        overrun = added_on (λ (w : Worked B A). w.overrun) _ _ _ w left rest cut overrun owed.overrun;
      }

  -- nobody is left
  pub all_owed : (new : Gathered B A) (left : List (Worked B A)) → left ≡ [] → IsOwed all crew new left
      → filing new.filed ≡ put_behind (filing all.filed) (all_filed (reverse crew))
  all_owed new left none owed =
      sym (owed.filed ∙ ap (λ (l : List (Worked B A)). put_behind (filing new.filed) (all_filed (reverse l))) none
      ∙ put_behind-nothing (filing new.filed))

  pub all_late : (new : Gathered B A) (left : List (Worked B A)) → left ≡ [] → new.overrun ≤ 2 ^ 64 - 1 → IsOwed all crew new left
      → new.overrun ≡ added_up all.overrun (all_overrun crew)
  all_late new left none most owed =
      let all_of : added_up all.overrun (all_overrun crew) ≡ added_up new.overrun 0 =
      owed.overrun ∙ ap (λ (l : List (Worked B A)). added_up new.overrun (all_overrun l)) none in
      omega (arith, all_of, most)

-- one worker counts for one at most
pub one_at_most : (has_begun : Bool) → from_bool has_begun ≤ 1
one_at_most true = omega arith
one_at_most false = omega arith

-- one more has begun, or has not
pub begun_last : (l : List Bool) (b : Bool) → begun_count (l ++ b ∷ []) ≡ begun_count l + from_bool b
begun_last l b = sum_by-append from_bool l (b ∷ []) ∙ ap (λ n. begun_count l + n) (sum_by-cons from_bool b [] ∙ omega arith)

-- what a crew did is what was gathered and then sorted
pub all_summed_up : {B A : Type 0} (crew : List (Worked B A)) (old mid : Filing A) (served : Served B A) → old ≡ nothing
    → mid ≡ put_behind old (all_filed (reverse crew)) → IsReordered mid (filing (lists_of_served served))
    → served.overrun ≡ added_up 0 (all_overrun crew) → IsSummedUp crew served
all_summed_up {B} {A} crew old mid served none filed same overrun =
    record {
      filed =
          reordered-trans (all_filed crew) (all_filed (reverse crew)) (filing (lists_of_served served))
          (gathered-reverse (λ (w : Worked B A). filing (lists_of w)) crew)
          (subst (λ f. IsReordered f (filing (lists_of_served served)))
          (filed ∙ ap (λ f. put_behind f (all_filed (reverse crew))) none) same);
      overrun = overrun;
    }

-- where nobody has begun so far, nothing was settled
pub none_on : {X : Type 0} (has_begun : Bool) (ran more : ℕ) (first old own new : List X) → more ≡ ran + from_bool has_begun
    → (has_begun ≡ false → own ≡ []) → (ran ≡ 0 → old ≡ first) → new ≡ old ++ own → more ≡ 0 → new ≡ first
none_on true ran more first old own new e settled same joined none = absurd (omega (arith, e, none))
none_on false ran more first old own new e settled same joined none =
    joined ∙ ap (λ l. old ++ l) (settled refl) ∙ append-nil old ∙ same (omega (arith, e, none))

-- with the parts that a crew had, a till has the parts that it had before
module _ {S F : Type 0} (given left : Holding) (n : ℕ) (parts : left.parts + n ≡ given.parts)
    (amount : left.amount ≡ given.amount) where
  pub summed_ok : (till : S → Holding) (airtime : S → ℕ) (r : Result S F)
      → IfOk r (λ s. till s ≡ record { parts = left.parts + n; amount = left.amount + airtime s })
      → IfOk r (λ s. till s ≡ record { parts = given.parts; amount = given.amount + airtime s })
  summed_ok till airtime (Ok s) e =
      e
      ∙ ap (λ k. record { parts = k; amount = left.amount + airtime s }) parts
      ∙ ap (λ k. record { parts = given.parts; amount = k + airtime s }) amount
  summed_ok till airtime (Err f) e = tt

  pub summed_err : (till : F → Holding) (r : Result S F) → IfErr r
      (λ f. till f ≡ record { parts = left.parts + n; amount = left.amount }) → IfErr r (λ f. till f ≡ given)
  summed_err till (Ok s) e = tt
  summed_err till (Err f) e =
      e ∙ ap (λ k. record { parts = k; amount = left.amount }) parts ∙ ap (λ k. record { parts = given.parts; amount = k }) amount

use Rattle.std.proofs.Common.{ℕ, zero, suc, ◌≡◌, ◌+◌, ◌<◌, ◌≤◌, Bool, true, false, not, ◌&&◌, cond, if◌then◌else◌, List, [], ◌∷◌}
use Rattle.std.proofs.Common.{◌++◌, length, get_or, slice_get, slice_set, Some, find, filter, refl, sym, ap, ◌∙◌, arith, nat_lt}
use Rattle.std.specs.List.{position_from, remove}
use Rattle.uplink_gather.specs.Gatherings.{Gathering, is_open, is_due, due_of, join_us}
use Rattle.uplink_gather.specs.Indexed.{open_from}

-- Lemmas on the numbers of the gatherings that aren't closed.

-- no number is below the first
pub open_from-low : (n : ℕ) (l : List Gathering) (p : ℕ) → p < length (open_from n l) → n ≤ get_or (open_from n l) p 0
open_from-low n [] p h = absurd (omega arith)
open_from-low n (g ∷ l) p h = by g.closed p h
    (λ q k. open_from-low (n + 1) l q k)
  where
    by : (c : Bool) (p : ℕ) → p < length (if c then open_from (n + 1) l else n ∷ open_from (n + 1) l)
        → ((q : ℕ) → q < length (open_from (n + 1) l) → n + 1 ≤ get_or (open_from (n + 1) l) q 0)
        → n ≤ get_or (if c then open_from (n + 1) l else n ∷ open_from (n + 1) l) p 0
    by true p k rest = omega (arith, rest p k)
    by false zero k rest = omega arith
    by false (suc q) k rest = omega (arith, rest q (omega arith))

-- they rise
pub open_from-rises : (n : ℕ) (l : List Gathering) (i j : ℕ) → i ≤ j → j < length (open_from n l)
    → get_or (open_from n l) i 0 ≤ get_or (open_from n l) j 0
open_from-rises n [] i j h k = absurd (omega arith)
open_from-rises n (g ∷ l) i j h k = by g.closed i j h k (λ p q. open_from-rises (n + 1) l p q) (λ q. open_from-low (n + 1) l q)
  where
    by : (c : Bool) (i j : ℕ) → i ≤ j → j < length (if c then open_from (n + 1) l else n ∷ open_from (n + 1) l)
        → ((p q : ℕ) → p ≤ q → q < length (open_from (n + 1) l)
        → get_or (open_from (n + 1) l) p 0 ≤ get_or (open_from (n + 1) l) q 0)
        → ((q : ℕ) → q < length (open_from (n + 1) l) → n + 1 ≤ get_or (open_from (n + 1) l) q 0)
        → get_or (if c then open_from (n + 1) l else n ∷ open_from (n + 1) l) i 0 ≤ get_or
        (if c then open_from (n + 1) l else n ∷ open_from (n + 1) l) j 0
    by true i j h k rest low = rest i j h k
    by false zero zero h k rest low = omega arith
    by false zero (suc q) h k rest low = omega (arith, low q (omega arith))
    by false (suc p) zero h k rest low = absurd (omega arith)
    by false (suc p) (suc q) h k rest low = rest p q (omega arith) (omega arith)

-- they are as many as aren't closed
pub length-open_from : (n : ℕ) (l : List Gathering) → length (open_from n l) ≡ length (filter is_open l)
length-open_from n [] = refl
length-open_from n (g ∷ l) = by g.closed (length-open_from (n + 1) l)
  where
    by : (c : Bool) → length (open_from (n + 1) l) ≡ length (filter is_open l)
        → length (if c then open_from (n + 1) l else n ∷ open_from (n + 1) l)
        ≡ length (cond (not c) (g ∷ filter is_open l) (filter is_open l))
    by true rest = rest
    by false rest = ap suc rest

-- one more that isn't closed goes last
pub open_from-push : (n : ℕ) (l : List Gathering) (g : Gathering) → g.closed ≡ false
    → open_from n (l ++ g ∷ []) ≡ open_from n l ++ (n + length l) ∷ []
open_from-push n [] g e = ap (λ c. if c then [] else n ∷ []) e ∙ ap (λ m. m ∷ []) (omega arith)
open_from-push n (h ∷ l) g e =
    let more : (n + 1) + length l ≡ n + suc (length l) = omega arith in
    by h.closed (open_from-push (n + 1) l g e ∙ ap (λ m. open_from (n + 1) l ++ m ∷ []) more)
  where
    by : (c : Bool) → open_from (n + 1) (l ++ g ∷ []) ≡ open_from (n + 1) l ++ (n + suc (length l)) ∷ []
        → (if c then open_from (n + 1) (l ++ g ∷ []) else n ∷ open_from (n + 1) (l ++ g ∷ []))
        ≡ (if c then open_from (n + 1) l else n ∷ open_from (n + 1) l) ++ (n + suc (length l)) ∷ []
    by true rest = rest
    by false rest = ap (λ r. n ∷ r) rest

-- a rewriting that leaves the flag leaves the numbers
pub open_from-set : (n : ℕ) (l : List Gathering) (i : ℕ) (g h : Gathering) → slice_get l i ≡ Some g → h.closed ≡ g.closed
    → open_from n (slice_set l i h) ≡ open_from n l
open_from-set n [] i g h e same = refl
open_from-set n (x ∷ l) zero g h e same =
    let is : x ≡ g = cc in
    ap (λ c. if c then open_from (n + 1) l else n ∷ open_from (n + 1) l) (same ∙ ap (λ (y : Gathering). y.closed) (sym is))
open_from-set n (x ∷ l) (suc i) g h e same = ap (λ r. if x.closed then r else n ∷ r) (open_from-set (n + 1) l i g h e same)

-- what the p-th of the numbers tells: which gathering it is of, and what is left once that is closed
pub record ClosesAt (n : ℕ) (l : List Gathering) (p : ℕ) : Type 0 where
  pub place : ℕ
  pub number : get_or (open_from n l) p 0 ≡ n + place
  pub gathering : Gathering
  pub there : slice_get l place ≡ Some gathering
  pub unclosed : gathering.closed ≡ false
  pub left : remove (open_from n l) p ≡ open_from n (slice_set l place (record gathering { closed = true }))

pub closes_at : (n : ℕ) (l : List Gathering) (p : ℕ) → p < length (open_from n l) → ClosesAt n l p
closes_at n [] p h = absurd (omega arith)
closes_at n (g ∷ l) p h = by g.closed refl p h (λ q k. closes_at (n + 1) l q k)
  where
    by : (c : Bool) → g.closed ≡ c → (p : ℕ) → p < length (open_from n (g ∷ l))
        → ((q : ℕ) → q < length (open_from (n + 1) l) → ClosesAt (n + 1) l q) → ClosesAt n (g ∷ l) p
    by true e p k rest =
        let part : (m : List ℕ) → (if g.closed then m else n ∷ m) ≡ m = λ m. ap (λ c. if c then m else n ∷ m) e in
        let r = rest p (omega (arith, k, ap length (part (open_from (n + 1) l)))) in
        let after = slice_set l r.place (record r.gathering { closed = true }) in
        record {
          place = suc r.place;
          number = ap (λ m. get_or m p 0) (part (open_from (n + 1) l)) ∙ r.number ∙ omega arith;
          gathering = r.gathering;
          there = r.there;
          unclosed = r.unclosed;
          left = ap (λ m. remove m p) (part (open_from (n + 1) l)) ∙ r.left ∙ sym (part (open_from (n + 1) after));
        }
    by false e zero k rest =
        let part : (m : List ℕ) → (if g.closed then m else n ∷ m) ≡ n ∷ m = λ m. ap (λ c. if c then m else n ∷ m) e in
        record {
          place = 0;
          number = ap (λ m. get_or m 0 0) (part (open_from (n + 1) l)) ∙ omega arith;
          gathering = g;
          there = refl;
          unclosed = e;
          left = ap (λ m. remove m 0) (part (open_from (n + 1) l));
        }
    by false e (suc q) k rest =
        let part : (m : List ℕ) → (if g.closed then m else n ∷ m) ≡ n ∷ m = λ m. ap (λ c. if c then m else n ∷ m) e in
        let r = rest q (omega (arith, k, ap length (part (open_from (n + 1) l)))) in
        let after = slice_set l r.place (record r.gathering { closed = true }) in
        record {
          place = suc r.place;
          number = ap (λ m. get_or m (suc q) 0) (part (open_from (n + 1) l)) ∙ r.number ∙ omega arith;
          gathering = r.gathering;
          there = r.there;
          unclosed = r.unclosed;
          left = ap (λ m. remove m (suc q)) (part (open_from (n + 1) l)) ∙ ap (λ m. n ∷ m) r.left
              ∙ sym (part (open_from (n + 1) after));
        }

-- each gathering that isn't closed is among them
pub record IsAmongOpen (n : ℕ) (l : List Gathering) (i : ℕ) : Type 0 where
  pub at : ℕ
  pub within : at < length (open_from n l)
  pub number : get_or (open_from n l) at 0 ≡ n + i

pub among_open : (n : ℕ) (l : List Gathering) (i : ℕ) (g : Gathering) → slice_get l i ≡ Some g → g.closed ≡ false
    → IsAmongOpen n l i
among_open n [] i g e o = absurd (cc)
among_open n (x ∷ l) zero g e o =
    let is : x ≡ g = cc in
    let flag : x.closed ≡ false = ap (λ (y : Gathering). y.closed) is ∙ o in
    let whole : open_from n (x ∷ l) ≡ n ∷ open_from (n + 1) l =
    ap (λ c. if c then open_from (n + 1) l else n ∷ open_from (n + 1) l) flag in
    record { at = 0; within = omega (arith, ap length whole); number = ap (λ m. get_or m 0 0) whole ∙ omega arith }
among_open n (x ∷ l) (suc i) g e o = by x.closed refl (among_open (n + 1) l i g e o)
  where
    by : (c : Bool) → x.closed ≡ c → IsAmongOpen (n + 1) l i → IsAmongOpen n (x ∷ l) (suc i)
    by true flag rest =
        let whole : open_from n (x ∷ l) ≡ open_from (n + 1) l =
        ap (λ c. if c then open_from (n + 1) l else n ∷ open_from (n + 1) l) flag in
        record {
          at = rest.at;
          within = omega (arith, rest.within, ap length whole);
          number = ap (λ m. get_or m rest.at 0) whole ∙ rest.number ∙ omega arith;
        }
    by false flag rest =
        let whole : open_from n (x ∷ l) ≡ n ∷ open_from (n + 1) l =
        ap (λ c. if c then open_from (n + 1) l else n ∷ open_from (n + 1) l) flag in
        record {
          at = suc rest.at;
          within = omega (arith, rest.within, ap length whole);
          number = ap (λ m. get_or m (suc rest.at) 0) whole ∙ rest.number ∙ omega arith;
        }

-- the first of them that is due is the first on the list that is
due_from : (test : ℕ → Bool) (now n : ℕ) (l : List Gathering)
    → ((i : ℕ) (g : Gathering) → slice_get l i ≡ Some g → test (n + i) ≡ is_due now g)
    → find test (open_from n l) ≡ position_from (is_due now) n l
due_from test now n [] h = refl
due_from test now n (g ∷ l) h =
    by g.closed refl (due_from test now (n + 1) l (λ i x e. ap test (omega arith) ∙ h (suc i) x e))
  where
    here : test n ≡ is_due now g
    here = ap test (omega arith) ∙ h 0 g refl

    by : (c : Bool) → g.closed ≡ c → find test (open_from (n + 1) l) ≡ position_from (is_due now) (n + 1) l
        → find test (open_from n (g ∷ l)) ≡ position_from (is_due now) n (g ∷ l)
    by true e rest =
        let over : is_due now g ≡ false = ap (λ c. not c && nat_lt (g.opened + join_us) now) e in
        ap (λ c. find test (if c then open_from (n + 1) l else n ∷ open_from (n + 1) l)) e ∙ rest
        ∙ sym (ap (λ t. cond t (Some n) (position_from (is_due now) (n + 1) l)) over)
    by false e rest =
        ap (λ c. find test (if c then open_from (n + 1) l else n ∷ open_from (n + 1) l)) e
        ∙ ap (λ t. cond t (Some n) (find test (open_from (n + 1) l))) here
        ∙ ap (cond (is_due now g) (Some n)) rest

pub due_found : (test : ℕ → Bool) (now : ℕ) (l : List Gathering)
    → ((i : ℕ) (g : Gathering) → slice_get l i ≡ Some g → test (1 + i) ≡ is_due now g) → find test (open_from 1 l) ≡ due_of now l
unfolding due_of
due_found test now l h = due_from test now 1 l h

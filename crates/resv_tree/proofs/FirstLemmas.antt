use Rattle.std.specs.Prelude.{ℕ, ◌≡◌, ◌+◌, ◌-◌, ◌<◌, ◌≤◌, nat_lt, nat_le, Bool, true, false, ◌&&◌, List, [], ◌∷◌, ◌++◌}
use Rattle.std.specs.Prelude.{Option, Some, None, map, cond, find, option_map}
use Rattle.std.proofs.Common.{refl, arith, sym, ap, ◌∙◌, subst}
use Rattle.std.proofs.lemmas.Bool.{lt-ltb, le-ltb, le-leb, lt-leb, leb-true, leb-false}
use Rattle.radio_airtime.specs.Bounds.{airtime_of-positive}
use Rattle.radio_bands.specs.declared.band.Band.{Band}
use Rattle.resv_list.specs.declared.reservation.Reservation.{Reservation}
use Rattle.resv_list.specs.Reservations.{is_in, airtime_us}
use Rattle.resv_list.specs.Sorted.{RisesFrom}
use Rattle.resv_tree.specs.declared.entry.Entry.{Entry}
use Rattle.resv_tree.specs.Entries.{key_of, IsByKey, Each, amount, moved, CanMove, reaches, first_reaching, member_of, members}
use Rattle.resv_tree.specs.Shape.{Shape, entries, greatest_of, top_of, kept_sum, IsWhole}
use Rattle.resv_tree.specs.Parts.{IsOwing}
use Rattle.resv_tree.proofs.SplitLemmas.{rises_left, rises_right}
use Rattle.resv_tree.proofs.TotalLemmas.{total_in, total_in-cons}
use Rattle.resv_tree.proofs.SumLemmas.{kept_sum-total}
use Rattle.resv_tree.proofs.EntryLemmas.{most_own, each-with, in_band, amount_of}
use Rattle.resv_tree.proofs.OwedLemmas.{entries-members, greatest_is_most}
use Rattle.resv_tree.proofs.StretchLemmas.{keys_below, keys_above}

-- The first entry whose own hour has so much, in a tree and in its sides.

module _ {X : Type 0} where
  find_no : (p : X → Bool) (xs : List X) → Each (λ x. p x ≡ false) xs → find p xs ≡ None
  find_no p [] h = refl
  find_no p (x ∷ xs) h = rw h.0 (find_no p xs h.1)

  skip_by : (p : X → Bool) (y : X) (ls : List X) (x : X) (rs : List X) → p y ≡ false → find p (ls ++ x ∷ rs) ≡ find p rs
      → find p (y ∷ (ls ++ x ∷ rs)) ≡ find p rs
  skip_by p y ls x rs h rest = rw h rest

  find_skip : (p : X → Bool) (ls : List X) (x : X) (rs : List X) → Each (λ y. p y ≡ false) ls → p x ≡ false
      → find p (ls ++ x ∷ rs) ≡ find p rs
  find_skip p [] x rs h e = rw e refl
  find_skip p (y ∷ ls) x rs h e = skip_by p y ls x rs h.0 (find_skip p ls x rs h.1 e)

  first_by : (o : Option X) (y : X) (a b : Option X) (t : Bool) → b ≡ a → cond t (Some y) b ≡ cond t (Some y) a
  first_by o y a b t e = ap (cond t (Some y)) e

  find_first : (p : X → Bool) (ls : List X) (x : X) (rs : List X) → p x ≡ false → Each (λ y. p y ≡ false) rs
      → find p (ls ++ x ∷ rs) ≡ find p ls
  find_first p [] x rs e h = rw e (find_no p rs h)
  find_first p (y ∷ ls) x rs e h = ap (cond (p y) (Some y)) (find_first p ls x rs e h)

  found_by : (p : X → Bool) (y z : X) (ls : List X) (x : X) (rs : List X) (t : Bool)
      → (find p ls ≡ Some z → find p (ls ++ x ∷ rs) ≡ Some z) → cond t (Some y) (find p ls) ≡ Some z
      → cond t (Some y) (find p (ls ++ x ∷ rs)) ≡ Some z
  found_by p y z ls x rs true f e = e
  found_by p y z ls x rs false f e = f e

  find_in : (p : X → Bool) (ls : List X) (x : X) (rs : List X) (z : X) → find p ls ≡ Some z → find p (ls ++ x ∷ rs) ≡ Some z
  find_in p [] x rs z e = absurd (cc)
  find_in p (y ∷ ls) x rs z e = found_by p y z ls x rs (p y) (find_in p ls x rs z) e

  later_by : (p : X → Bool) (y : X) (ls : List X) (x : X) (rs : List X) (t : Bool)
      → (find p ls ≡ None → find p (ls ++ x ∷ rs) ≡ find p (x ∷ rs)) → cond t (Some y) (find p ls) ≡ None
      → cond t (Some y) (find p (ls ++ x ∷ rs)) ≡ find p (x ∷ rs)
  later_by p y ls x rs true f e = absurd (cc)
  later_by p y ls x rs false f e = f e

  find_later : (p : X → Bool) (ls : List X) (x : X) (rs : List X) → find p ls ≡ None → find p (ls ++ x ∷ rs) ≡ find p (x ∷ rs)
  find_later p [] x rs e = refl
  find_later p (y ∷ ls) x rs e = later_by p y ls x rs (p y) (find_later p ls x rs) e

-- none is there
none_there : (band : Band) (from to least : ℕ) (es : List Entry) → total_in band (members es) ≡ 0
    → Each (λ e. reaches band from to least e ≡ false) es
none_there band from to least [] h = tt
none_there band from to least (e ∷ es) h = (
  by (is_in band e.reservation) (total_in-cons band e.reservation (members es)),
  none_there band from to least es (omega (arith, h, total_in-cons band e.reservation (members es))),
)
  where
    by : (t : Bool) → total_in band (members (e ∷ es)) ≡ cond t (airtime_us e.reservation) 0 + total_in band (members es)
        → (t && nat_le from (key_of e) && nat_lt (key_of e) to && nat_le least e.own) ≡ false
    by true s = absurd (omega (arith, h, s, airtime_of-positive e.reservation.rate e.reservation.len))
    by false s = refl

-- none has so much
none_reaches : (band : Band) (from to least : ℕ) (es : List Entry) → most_own band es < least
    → Each (λ e. reaches band from to least e ≡ false) es
none_reaches band from to least [] h = tt
none_reaches band from to least (e ∷ es) h = (
  by (is_in band e.reservation) (nat_le from (key_of e) && nat_lt (key_of e) to) (omega (arith, h)),
  none_reaches band from to least es (omega (arith, h)),
)
  where
    both : (s u v : Bool) → v ≡ false → (s && u && v) ≡ false
    both true true v q = q
    both true false v q = refl
    both false u v q = refl

    by : (t s : Bool) → cond t e.own 0 < least
        → (t && nat_le from (key_of e) && nat_lt (key_of e) to && nat_le least e.own) ≡ false
    by true s q = both (nat_le from (key_of e)) (nat_lt (key_of e) to) (nat_le least e.own) (lt-leb least e.own q)
    by false s q = refl

pub idle_none : (t : Shape) (band : Band) (from to least : ℕ) → IsWhole t → kept_sum t band ≡ 0
    → None ≡ first_reaching band from to least (entries t)
idle_none t band from to least w h =
    sym (ap (option_map member_of) (find_no (reaches band from to least) (entries t) (none_there band from to least (entries t)
    (ap (total_in band) (entries-members t) ∙ sym (kept_sum-total t band w) ∙ h))))

pub low_none : (t : Shape) (band : Band) (from to least : ℕ) → IsWhole t → greatest_of t band < least
    → None ≡ first_reaching band from to least (entries t)
low_none t band from to least w h =
    sym (ap (option_map member_of) (find_no (reaches band from to least) (entries t)
    (none_reaches band from to least (entries t) (omega (arith, h, greatest_is_most t band w)))))

-- What is asked of the sides: so much less as the node owes them.

asked_by : (least own more less : ℕ) → less ≤ own + more → nat_le least (own + more - less) ≡ nat_le (least + less - more) own
asked_by least own more less h = by (nat_le least (own + more - less)) refl
  where
    by : (t : Bool) → nat_le least (own + more - less) ≡ t → t ≡ nat_le (least + less - more) own
    by true e =
        let f = leb-true least (own + more - less) e in sym (le-leb (least + less - more) own (omega (arith, f, h)))
    by false e =
        let f = leb-false least (own + more - less) e in sym (lt-leb (least + less - more) own (omega (arith, f, h)))

asked_one : (more less : Band → ℕ) (band : Band) (from to least : ℕ) (e : Entry) → CanMove more less e
    → reaches band from to least (moved more less e) ≡ reaches band from to (least + less band - more band) e
asked_one more less band from to least e h = by (is_in band e.reservation) refl
  where
    by : (t : Bool) → is_in band e.reservation ≡ t
        → (t && nat_le from (key_of e) && nat_lt (key_of e) to && nat_le least (moved more less e).own)
        ≡ (t && nat_le from (key_of e) && nat_lt (key_of e) to && nat_le (least + less band - more band) e.own)
    by true i =
        let a = amount_of more e.reservation band (in_band e.reservation band i) in
        let b = amount_of less e.reservation band (in_band e.reservation band i) in
        let asked = asked_by least e.own (amount more e.reservation) (amount less e.reservation) h in
        ap (λ (u : Bool). nat_le from (key_of e) && nat_lt (key_of e) to && u)
        (asked ∙ (λ j. nat_le (least + b j - a j) e.own))
    by false i = refl

asked_more : (p q : Entry → Bool) (f : Entry → Entry) (e : Entry) (es : List Entry) (t : Bool) → member_of (f e) ≡ member_of e
    → p (f e) ≡ q e → q e ≡ t
    → option_map member_of (find p (map f es)) ≡ option_map member_of (find q es)
    → option_map member_of (find p (f e ∷ map f es)) ≡ option_map member_of (cond t (Some e) (find q es))
asked_more p q f e es true m s u rest = rw (s ∙ u) (ap Some m)
asked_more p q f e es false m s u rest = rw (s ∙ u) rest

asked_all : (more less : Band → ℕ) (band : Band) (from to least : ℕ) (es : List Entry) → Each (CanMove more less) es
    → first_reaching band from to least (map (moved more less) es) ≡ first_reaching band from to
    (least + less band - more band) es
asked_all more less band from to least [] c = refl
asked_all more less band from to least (e ∷ es) c =
    asked_more (reaches band from to least) (reaches band from to (least + less band - more band)) (moved more less) e es
    (reaches band from to (least + less band - more band) e) refl (asked_one more less band from to least e c.0) refl
    (asked_all more less band from to least es c.1)

rises_moved : (more less : Band → ℕ) (low : ℕ) (es : List Entry) → RisesFrom key_of low (map (moved more less) es)
    → RisesFrom key_of low es
rises_moved more less low [] r = tt
rises_moved more less low (e ∷ es) r = (r.0, rises_moved more less (key_of e + 1) es r.1)

-- An entry outside of the stretch is not it.

early : (band : Band) (from to least : ℕ) (e : Entry) → key_of e < from → reaches band from to least e ≡ false
early band from to least e h = by (is_in band e.reservation) (lt-leb from (key_of e) h)
  where
    by : (t : Bool) → nat_le from (key_of e) ≡ false
        → (t && nat_le from (key_of e) && nat_lt (key_of e) to && nat_le least e.own) ≡ false
    by true q = rw q refl
    by false q = refl

late : (band : Band) (from to least : ℕ) (e : Entry) → to ≤ key_of e → reaches band from to least e ≡ false
late band from to least e h = by (is_in band e.reservation) (nat_le from (key_of e)) (le-ltb (key_of e) to h)
  where
    by : (t u : Bool) → nat_lt (key_of e) to ≡ false → (t && u && nat_lt (key_of e) to && nat_le least e.own) ≡ false
    by true true q = rw q refl
    by true false q = refl
    by false u q = refl

within : (band : Band) (from to least : ℕ) (e : Entry) → from ≤ key_of e → key_of e < to
    → reaches band from to least e ≡ (is_in band e.reservation && nat_le least e.own)
within band from to least e h g = by (is_in band e.reservation) (le-leb from (key_of e) h) (lt-ltb (key_of e) to g)
  where
    by : (t : Bool) → nat_le from (key_of e) ≡ true → nat_lt (key_of e) to ≡ true
        → (t && nat_le from (key_of e) && nat_lt (key_of e) to && nat_le least e.own) ≡ (t && nat_le least e.own)
    by true p q = rw (p, q) refl
    by false p q = refl

module _ {t l r : Shape} {e : Entry} where
  raw_by_key : IsOwing t l e r → IsByKey (entries t) → IsByKey (entries l ++ e ∷ entries r)
  raw_by_key m b = rises_moved (greatest_of t) (top_of l e r) 0 (entries l ++ e ∷ entries r) (subst IsByKey m.entries b)

  pub owing_left : IsOwing t l e r → IsByKey (entries t) → IsByKey (entries l)
  owing_left m b = rises_left key_of 0 _ _ _ (raw_by_key m b)

  pub owing_right : IsOwing t l e r → IsByKey (entries t) → IsByKey (entries r)
  owing_right m b = rises_right key_of 0 _ _ _ (raw_by_key m b)

  module _ (band : Band) (from to least below : ℕ) (m : IsOwing t l e r) (b : IsByKey (entries t))
      (is : below ≡ least + top_of l e r band - greatest_of t band) where
    asked : first_reaching band from to least (entries t) ≡ first_reaching band from to below (entries l ++ e ∷ entries r)
    asked =
        ap (first_reaching band from to least) m.entries
        ∙ asked_all (greatest_of t) (top_of l e r) band from to least (entries l ++ e ∷ entries r) m.covered
        ∙ ap (λ n. first_reaching band from to n (entries l ++ e ∷ entries r)) (sym is)

    pub over_right : key_of e < from
        → first_reaching band from to below (entries r) ≡ first_reaching band from to least (entries t)
    over_right h =
        let low = keys_below 0 (entries l) e (entries r) (raw_by_key m b) in
        let no = each-with (λ y. key_of y < key_of e) (λ y. key_of y < key_of e) (λ y. reaches band from to below y ≡ false)
        (λ y u v. early band from to below y (omega (arith, u, h))) (entries l) low low in
        sym (asked ∙ ap (option_map member_of) (find_skip (reaches band from to below) (entries l) e (entries r) no
        (early band from to below e h)))

    pub over_left : to ≤ key_of e
        → first_reaching band from to below (entries l) ≡ first_reaching band from to least (entries t)
    over_left h =
        let high = keys_above 0 (entries l) e (entries r) (raw_by_key m b) in
        let no = each-with (λ y. key_of e + 1 ≤ key_of y) (λ y. key_of e + 1 ≤ key_of y)
        (λ y. reaches band from to below y ≡ false)
        (λ y u v. late band from to below y (omega (arith, u, h))) (entries r) high high in
        sym (asked ∙ ap (option_map member_of) (find_first (reaches band from to below) (entries l) e (entries r)
        (late band from to below e h) no))

    some_of : (o : Option Entry) (x : Reservation) → option_map member_of o ≡ Some x → find (reaches band from to below)
        (entries l) ≡ o
        → first_reaching band from to below (entries l ++ e ∷ entries r) ≡ Some x
    some_of None x q f = absurd (cc)
    some_of (Some y) x q f =
        ap (option_map member_of) (find_in (reaches band from to below) (entries l) e (entries r) y f) ∙ q

    pub over_found : (x : Reservation) → first_reaching band from to below (entries l) ≡ Some x
        → Some x ≡ first_reaching band from to least (entries t)
    over_found x q = sym (asked ∙ some_of (find (reaches band from to below) (entries l)) x q refl)

    none_of : (o : Option Entry) → option_map member_of o ≡ None → find (reaches band from to below) (entries l) ≡ o
        → find (reaches band from to below) (entries l) ≡ None
    none_of None q f = f
    none_of (Some y) q f = absurd (cc)

    past : first_reaching band from to below (entries l) ≡ None
        → first_reaching band from to least (entries t) ≡ first_reaching band from to below (e ∷ entries r)
    past q =
        asked ∙ ap (option_map member_of) (find_later (reaches band from to below) (entries l) e (entries r)
        (none_of (find (reaches band from to below) (entries l)) q refl))

    pub over_here : from ≤ key_of e → key_of e < to → first_reaching band from to below (entries l) ≡ None
        → (is_in band e.reservation && nat_le below e.own) ≡ true
        → Some e.reservation ≡ first_reaching band from to least (entries t)
    over_here h g q i = sym (past q ∙ rw (within band from to below e h g ∙ i) refl)

    pub over_later : from ≤ key_of e → key_of e < to → first_reaching band from to below (entries l) ≡ None
        → (is_in band e.reservation && nat_le below e.own) ≡ false
        → first_reaching band from to below (entries r) ≡ first_reaching band from to least (entries t)
    over_later h g q i = sym (past q ∙ rw (within band from to below e h g ∙ i) refl)

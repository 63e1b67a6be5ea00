-- Sums of airtimes over gateways and answers.
use Rattle.server_desk.proofs.Words
use Words.{◌++◌, ℕ, ◌≡◌, ◌≢◌, ◌+◌, ◌*◌, ◌≤◌, ◌==◌, Bool, true, false, if◌then◌else◌, List, [], ◌∷◌, map, length, slice_get}
use Words.{slice_set, get_or, All, AllPairs, Option, Some, refl, subst, arith, option_map, nat_tests, All-head, All-tail}
use Words.{AllPairs-head, AllPairs-tail, longest_us, Known, Done, Sent, own_airtime, known_airtime, answered_at, answered_for}
use Words.{total_at, settled_limit, whole_airtime, settled_airtime, is_booked_on, AreAirtimes, raised_at, is_among, raised}
use Words.{first_at, next_place, sym, ◌∙◌}

-- a sum over answers: one is written anew, one more comes, none is longer than an answer may be, or each is as in another sum
pub record IsSum (f : Known → ℕ) (sum : List Known → ℕ) : Type 0 where
  none : sum [] ≡ 0
  more : (k : Known) (known : List Known) → sum (k ∷ known) ≡ f k + sum known

module _ {f : Known → ℕ} {sum : List Known → ℕ} (s : IsSum f sum) where
  pub sum_set : (known : List Known) (i : ℕ) (old new : Known) → slice_get known i ≡ Some old
      → sum (slice_set known i new) + f old ≡ sum known + f new
  sum_set [] i old new e = absurd (cc)
  sum_set (k ∷ known) i old new e = grind (arith, s.more, sum_set known)

  pub sum_push : (known : List Known) (k : Known) → sum (known ++ k ∷ []) ≡ sum known + f k
  sum_push [] k = omega (arith, s.more k [], s.none)
  sum_push (x ∷ known) k = omega (arith, s.more x known, s.more x (known ++ k ∷ []), sum_push known k)

  pub sum_short : (known : List Known) → All (λ k. f k ≤ longest_us) known → sum known ≤ longest_us * length known
  sum_short [] a = omega (arith, s.none)
  sum_short (k ∷ known) a =
      omega (arith, s.more k known, a 0 k (omega arith), sum_short known (All-tail (λ x. f x ≤ longest_us) k known a))

  sum_same : {g : Known → ℕ} {other : List Known → ℕ} → IsSum g other → (known : List Known) → All (λ k. f k ≡ g k) known
      → sum known ≡ other known
  sum_same o [] a = s.none ∙ sym o.none
  sum_same {g} o (k ∷ known) a =
      omega (arith, s.more k known, o.more k known, a 0 k (omega arith), sum_same o known (All-tail (λ x. f x ≡ g x) k known a))

-- those of one gateway, of all gateways, and of all settled answers
pub answered_sum : (id : ℕ) → IsSum (known_airtime id) (answered_at id)
answered_sum id = record { none = refl; more = λ k known. refl }

pub settled_sum : IsSum whole_airtime settled_airtime
settled_sum = record { none = refl; more = λ k known. refl }

total_sum : (ids : List ℕ) → IsSum (λ k. total_at ids (k ∷ [])) (total_at ids)
total_sum [] = record { none = refl; more = λ k known. refl }
total_sum (id ∷ ids) =
    let t = total_sum ids in
    record { none = omega (arith, t.none); more = λ k known. omega (arith, t.more k known) }

pub same_airtimes : (f h : ℕ → ℕ) → ((id : ℕ) → f id ≡ h id) → (ids : List ℕ) → map f ids ≡ map h ids
same_airtimes f h e [] = refl
same_airtimes f h e (id ∷ ids) = cc (e id, same_airtimes f h e ids)

-- where nothing was sent there is none
total_none : (ids : List ℕ) (k : Known) → ((id : ℕ) → known_airtime id k ≡ 0) → total_at ids (k ∷ []) ≡ 0
total_none [] k e = refl
total_none (id ∷ ids) k e = omega (arith, e id, total_none ids k e)

-- the airtime of a gateway, found by its number
module _ (known : List Known) (gateway d : ℕ) where
  abbrev IsFound : List ℕ → Type 0
  IsFound ids = option_map (λ p. get_or (map (λ id. answered_at id known) ids) p d)
      (option_map (λ found. found.0) (first_at (λ id. id == gateway) ids)) ≡ answered_for ids known gateway

  next_found : (o : Option (ℕ × ℕ)) (x : ℕ) (xs : List ℕ)
      → option_map (λ p. get_or (x ∷ xs) p d) (option_map (λ found. found.0) (option_map next_place o))
      ≡ option_map (λ p. get_or xs p d) (option_map (λ found. found.0) o)
  next_found o x xs = grind arith

  pub answered_found : (ids : List ℕ) → IsFound ids
  answered_found [] = refl
  answered_found (id ∷ ids) = grind (arith, nat_tests, next_found, answered_found ids)

-- where one of different gateways sent this: its airtime alone is raised, and the total by as much
module _ (f : ℕ → ℕ) (sent : Sent) where
  abbrev Raises : List ℕ → Type 0
  Raises ids = (raised ids (Some sent) (map f ids) ≡ map (λ id. f id + own_airtime id (Some sent)) ids)
      × (total_at ids (Done (Some sent) ∷ []) ≡ (if is_among ids sent.gateway then sent.airtime else 0))

  elsewhere : (ids : List ℕ) → All (λ id. sent.gateway ≢ id) ids
      → (map f ids ≡ map (λ id. f id + own_airtime id (Some sent)) ids) × (total_at ids (Done (Some sent) ∷ []) ≡ 0)
  elsewhere [] a = (refl, refl)
  elsewhere (id ∷ ids) a =
      let other = All-head (λ y. sent.gateway ≢ y) id ids a in
      let rest = elsewhere ids (All-tail (λ y. sent.gateway ≢ y) id ids a) in
      grind (arith, nat_tests, other, rest)

  later : (o : Option (ℕ × ℕ)) (x : ℕ) (xs : List ℕ) → raised_at (option_map next_place o) sent.airtime (x ∷ xs)
      ≡ x ∷ raised_at o sent.airtime xs
  later o x xs = grind arith

  raises_by : (id : ℕ) (ids : List ℕ) (t : Bool) → (id == sent.gateway) ≡ t → All (λ y. id ≢ y) ids → Raises ids
      → Raises (id ∷ ids)
  raises_by id ids true q a rest =
      let same : id ≡ sent.gateway = grind (arith, nat_tests, q) in
      let others = elsewhere ids (subst (λ x. All (λ y. x ≢ y) ids) same a) in
      grind (arith, nat_tests, others)
  raises_by id ids false q a rest = grind (arith, nat_tests, later)

  pub raises : (ids : List ℕ) → AllPairs (λ a b. a ≢ b) ids → Raises ids
  raises [] d = (refl, refl)
  raises (id ∷ ids) d = raises_by id ids (id == sent.gateway) refl (AllPairs-head (λ a b. a ≢ b) id ids d)
      (raises ids (AllPairs-tail (λ a b. a ≢ b) id ids d))

-- no gateway was on air for longer than all answers
known_short : (id : ℕ) (k : Known) → known_airtime id k ≤ whole_airtime k
known_short id k = grind (arith, nat_tests)

pub answered_short : (id : ℕ) (known : List Known) → All (λ k. whole_airtime k ≤ longest_us) known
    → answered_at id known ≤ longest_us * length known
answered_short id known a = sum_short (answered_sum id) known (λ k d l. omega (arith, a k d l, known_short id (get_or known k d)))

pub within_limit : (ids airtimes : List ℕ) (limit : ℕ) (known : List Known) → AreAirtimes ids airtimes limit known
    → settled_airtime known ≤ settled_limit
within_limit ids airtimes limit known i = omega (arith, sum_short settled_sum known i.short, i.few, i.limited)

-- where each was booked on one of the gateways, it is that of all gateways
one_whole : (ids : List ℕ) (k : Known) → AllPairs (λ a b. a ≢ b) ids → is_booked_on ids k ≡ true
    → total_at ids (k ∷ []) ≡ whole_airtime k
one_whole ids (Done (Some sent)) d here = rw here at (raises (λ id. 0) sent ids d).1
one_whole ids k d here = total_none ids k (λ id. refl)

pub whole_told : (ids airtimes : List ℕ) (limit : ℕ) (known : List Known) → AreAirtimes ids airtimes limit known
    → total_at ids known ≡ settled_airtime known
whole_told ids airtimes limit known i =
    sum_same (total_sum ids) settled_sum known (λ k d l. one_whole ids (get_or known k d) i.differ (i.here k d l))

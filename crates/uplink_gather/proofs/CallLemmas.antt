use Rattle.std.proofs.Common.{ℕ, zero, suc, ◌≡◌, ◌+◌, ◌-◌, ◌<◌, ◌≤◌, Bool, true, false, if◌then◌else◌, nat_le, ◌||◌, List, []}
use Rattle.std.proofs.Common.{◌∷◌, ◌++◌, length, filter, find, not, inl, inr, map, get_or, slice_get, slice_set, Option, Some}
use Rattle.std.proofs.Common.{None, IsSome, Result, Ok, Err, Vec, refl, sym, ap, subst, ◌∙◌, true≢false, arith}
use Rattle.std.specs.List.{remove}
use Rattle.std.specs.Option.{option_map, option_map_or}
use Rattle.std.proofs.lemmas.Bool.Decides.{nat_tests}
use Rattle.std.proofs.lemmas.Option.{get_or_from_slice_get}
use Rattle.std.proofs.lemmas.Bool.{cases_lt}
use Rattle.std.proofs.lemmas.List.Sorted.{searched}
use Rattle.std.specs.List.Sorted.{IsBinarySearchResult}
use Rattle.std.specs.Ordering.{nat_cmp}
use Rattle.std.specs.Result.{MatchResult}
use Rattle.std.proofs.lemmas.List.{length-map}
use Rattle.uplink_gather.specs.declared.heard.HeardCopy.{HeardCopy}
use Rattle.uplink_gather.specs.declared.limits.Limits.{Limits}
use Rattle.uplink_gather.specs.declared.stored.Stored.{Stored}
use Rattle.uplink_gather.specs.Gatherings.{Gathering, Gatherings, numbered, rewritten, is_open, is_open_at, is_due, due_of}
use Rattle.uplink_gather.specs.Gatherings.{copies_of, close_step}
use Rattle.uplink_gather.proofs.NumberedLemmas.{numbered_at, rewritten_some}
use Rattle.uplink_gather.specs.Hearing.{place_by, place_of, is_crowded, opening, with_copy}
use Rattle.uplink_gather.specs.Indexed.{Index, number_of, Renews, shown, open_from, IsWhole}
use Rattle.uplink_gather.proofs.UnclosedLemmas.{closes_at, among_open, due_found, open_from-rises, length-open_from}
use Rattle.uplink_gather.proofs.KeptLemmas.{get_map, leads_to, set_same, shown_kept, shown_push, shown_set, stored_at}
use Rattle.uplink_gather.proofs.KeptLemmas.{whole_closed, whole_pushed, whole_rewritten}

-- What each call keeps and answers.

-- as many are unclosed, or were ever opened, as may be
pub crowded_by : {A : Type 0} (limits : Limits) (index : Index) (stored : List (Stored A)) (open_numbers : List ℕ)
    → IsWhole limits index stored open_numbers → is_crowded (record { list = map (shown index) stored; limits = limits })
    ≡ (nat_le limits.max_open (length open_numbers) || nat_le limits.max_ever (length stored))
crowded_by limits index stored open_numbers w =
    let l = map (shown index) stored in
    let unclosed : length (filter is_open l) ≡ length open_numbers = sym (length-open_from 1 l) ∙ sym (ap length w.open_is) in
    (λ j. nat_le limits.max_open (unclosed j) || nat_le limits.max_ever (length-map stored (shown index) j))

crowded_open : (m n k : ℕ) (t : Bool) → n ≡ k → m ≤ n → nat_le m n ≡ (nat_le m k || t)
crowded_open m n k t e h = grind (arith, nat_tests)

crowded_ever : (m n k j p q : ℕ) → n ≡ k → n < m → p ≡ q → nat_le j p ≡ (nat_le m k || nat_le j q)
crowded_ever m n k j p q e h f = grind (arith, nat_tests)

module _ {A : Type 0} (limits : Limits) (index : Index) (stored : List (Stored A)) (open_numbers : List ℕ)
    (w : IsWhole limits index stored open_numbers) (now : Gatherings)
    (looks : record { list = map (shown index) stored; limits = limits } ≡ now) where
  is_crowded_now : (nat_le limits.max_open (length open_numbers) || nat_le limits.max_ever (length stored)) ≡ is_crowded now
  is_crowded_now = sym (crowded_by limits index stored open_numbers w) ∙ ap is_crowded looks

  pub crowded_by_open : (n : ℕ) → n ≡ length open_numbers → limits.max_open ≤ n → nat_le limits.max_open n ≡ is_crowded now
  crowded_by_open n e h = crowded_open limits.max_open n (length open_numbers) (nat_le limits.max_ever (length stored)) e h
      ∙ is_crowded_now

  pub crowded_by_ever : (n m : ℕ) → n ≡ length open_numbers → n < limits.max_open → m ≡ length stored
      → nat_le limits.max_ever m ≡ is_crowded now
  crowded_by_ever n m e h f = crowded_ever limits.max_open n (length open_numbers) limits.max_ever m (length stored) e h f
      ∙ is_crowded_now

  -- the number to which the index leads is of a stored gathering
  pub number_within : (bytes : List ℕ) (n : ℕ) → number_of bytes index ≡ Some n → (1 ≤ n) × (n - 1 < length stored)
  number_within bytes n e =
      let led = leads_to limits index stored open_numbers bytes n w e in
      let at = stored_at index stored n led.gathering led.there in
      (omega (arith, at.above), omega (arith, at.above, at.within))

  -- and by that gathering the place of a copy is told
  pub place_found : (bytes : List ℕ) (n gateway arrived : ℕ) (s : Stored A) → number_of bytes index ≡ Some n
      → s ≡ get_or stored (n - 1) s → place_by limits gateway arrived (Some (n, shown [] s)) ≡ place_of now bytes gateway arrived
  place_found bytes n gateway arrived s e read =
      let led = leads_to limits index stored open_numbers bytes n w e in
      let at = stored_at index stored n led.gathering led.there in
      let is : s ≡ at.kept = read ∙ get_or_from_slice_get stored (n - 1) at.kept s at.there in
      ap (λ x. place_by limits gateway arrived (Some (n, shown index x))) is
      ∙ ap (λ g. place_by limits gateway arrived (Some (n, g))) at.same
      ∙ ap (place_by limits gateway arrived) (sym led.newest_is)
      ∙ ap (λ x. place_of x bytes gateway arrived) looks

  -- the first of the unclosed that is due is the first of all
  pub due_is : (moment : ℕ) → find (λ n. option_map_or (λ s. is_due moment (shown [] s)) (numbered n stored) false) open_numbers
      ≡ due_of moment now.list
  due_is moment =
      let test : ℕ → Bool = λ n. option_map_or (λ s. is_due moment (shown [] s)) (numbered n stored) false in
      ap (find test) w.open_is ∙ due_found test moment (map (shown index) stored) due_at ∙ ap (λ x. due_of moment x.list) looks
    where
      seen : (o : Option (Stored A)) (g : Gathering) → option_map (shown index) o ≡ Some g
          → option_map_or (λ (s : Stored A). is_due moment (shown [] s)) o false ≡ is_due moment g
      seen None g h = absurd (cc)
      seen (Some s) g h = let is : shown index s ≡ g = cc in ap (is_due moment) is

      due_at : (i : ℕ) (g : Gathering) → slice_get (map (shown index) stored) i ≡ Some g
          → option_map_or (λ (s : Stored A). is_due moment (shown [] s)) (numbered (1 + i) stored) false ≡ is_due moment g
      due_at i g e =
          let at : numbered (1 + i) stored ≡ slice_get stored i =
          numbered_at (1 + i) stored (omega arith) ∙ ap (slice_get stored) (omega arith) in
          ap (λ (o : Option (Stored A)). option_map_or (λ s. is_due moment (shown [] s)) o false) at
          ∙ seen (slice_get stored i) g (sym (get_map (shown index) stored i) ∙ e)

  -- the gathering that the p-th of the unclosed numbers
  pub record Closing (n p : ℕ) : Type 0 where
    pub kept : Stored A
    pub above : 1 ≤ n
    pub within : n - 1 < length stored
    pub there : slice_get stored (n - 1) ≡ Some kept
    pub numbered_is : numbered n (map (shown index) stored) ≡ Some (shown index kept)
    pub unclosed : kept.closed ≡ false
    pub left : remove (open_from 1 (map (shown index) stored)) p
        ≡ open_from 1 (slice_set (map (shown index) stored) (n - 1) (record (shown index kept) { closed = true }))

  closing : (n p : ℕ) → p < length open_numbers → get_or open_numbers p 0 ≡ n → Closing n p
  closing n p h e =
      let l = map (shown index) stored in
      let r = closes_at 1 l p (omega (arith, h, ap length w.open_is)) in
      let number : n ≡ suc r.place = omega (arith, sym e ∙ ap (λ m. get_or m p 0) w.open_is ∙ r.number) in
      let place : r.place ≡ n - 1 = omega (arith, number) in
      let numbered_is : numbered n l ≡ Some r.gathering = ap (λ m. numbered m l) number ∙ r.there in
      let at = stored_at index stored n r.gathering numbered_is in
      let Left : Gathering → Type 0 = λ g. remove (open_from 1 l) p
      ≡ open_from 1 (slice_set l (n - 1) (record g { closed = true })) in
      record {
        kept = at.kept;
        above = omega (arith, at.above);
        within = omega (arith, at.above, at.within);
        there = at.there;
        numbered_is = numbered_is ∙ ap Some (sym at.same);
        unclosed = ap (λ (g : Gathering). g.closed) at.same ∙ r.unclosed;
        left = subst Left (sym at.same) (r.left ∙ ap (λ i. open_from 1 (slice_set l i (record r.gathering { closed = true })))
            place);
      }

  module _ (n p : ℕ) (c : Closing n p) (s : Stored A) (read : s ≡ get_or stored (n - 1) s) where
    closed_is : s ≡ c.kept
    closed_is = read ∙ get_or_from_slice_get stored (n - 1) c.kept s c.there

    pub whole_closing : (left : List ℕ) → left ≡ remove open_numbers p
        → IsWhole limits index (slice_set stored (n - 1) (record s { closed = true })) left
    whole_closing left e =
        let Kept : Stored A → Type 0 = λ x. IsWhole limits index (slice_set stored (n - 1) (record x { closed = true }))
        (remove open_numbers p) in
        let Left : List ℕ → Type 0 = λ m. IsWhole limits index (slice_set stored (n - 1) (record s { closed = true })) m in
        subst Left (sym e) (subst Kept (sym closed_is) (whole_closed limits index stored open_numbers p (n - 1) c.kept
        (record c.kept { closed = true }) w c.there refl c.left))

    pub closing_open : true ≡ is_open_at n now.list
    closing_open =
        sym (ap (λ x. is_open_at n x.list) (sym looks) ∙ ap (λ o. option_map_or is_open o false) c.numbered_is
        ∙ ap not c.unclosed)

    pub closing_looks : record {
      list = map (shown index) (slice_set stored (n - 1) (record s { closed = true }));
      limits =
          limits;
    } ≡ close_step now n
    closing_looks =
        let l = map (shown index) stored in
        let flagged : (g : Gathering) → Gathering = λ g. record g { closed = true } in
        let set = shown_set index stored (n - 1) (record s { closed = true })
        ∙ ap (λ x. slice_set l (n - 1) (shown index (record x { closed = true }))) closed_is in
        let whole : map (shown index) (slice_set stored (n - 1) (record s { closed = true })) ≡ rewritten flagged n l =
        set ∙ sym (rewritten_some flagged n l (shown index c.kept) c.numbered_is) in
        ap (λ x. record { list = x; limits = limits }) whole
        ∙ ap (λ t. if t then record { list = rewritten flagged n l; limits = limits } else record { list = l; limits = limits })
        (closing_open ∙ ap (λ x. is_open_at n x.list) (sym looks))
        ∙ ap (λ x. close_step x n) looks

  -- a number that isn't among the unclosed
  not_open : (n i : ℕ) → ((k : ℕ) → k < i → get_or open_numbers k 0 < n)
      → ((k : ℕ) → i ≤ k → k < length open_numbers → n < get_or open_numbers k 0) → is_open_at n now.list ≡ false
  not_open n i below above = ap (λ x. is_open_at n x.list) (sym looks) ∙ by n (λ a q z. absurd_at a q z)
    where
      absurd_at : (a : ℕ) → a < length open_numbers → get_or open_numbers a 0 ≡ n → ⊥
      absurd_at a q z = elim (cases_lt a i) [
        | inl u ↦ omega (arith, below a u, z)
        | inr u ↦ omega
            (arith, above a (omega arith) q, z)
      ]

      by : (n : ℕ) → ((a : ℕ) → a < length open_numbers → get_or open_numbers a 0 ≡ n → ⊥)
          → is_open_at n (map (shown index) stored) ≡ false
      by zero none = refl
      by (suc j) none = look (slice_get (map (shown index) stored) j) refl
        where
          look : (o : Option Gathering) → slice_get (map (shown index) stored) j ≡ o → option_map_or is_open o false ≡ false
          look None e = refl
          look (Some g) e = flag g.closed refl
            where
              flag : (t : Bool) → g.closed ≡ t → not g.closed ≡ false
              flag true f = ap not f
              flag false f =
                  let a = among_open 1 (map (shown index) stored) j g e f in
                  absurd (none a.at (omega (arith, a.within, ap length w.open_is))
                  (ap (λ m. get_or m a.at 0) w.open_is ∙ a.number ∙ omega arith))

  pub not_open_step : (n : ℕ) → is_open_at n now.list ≡ false → now ≡ close_step now n
  not_open_step n e = sym (ap (λ t. if t then record now { list = rewritten (λ g. record g { closed = true }) n now.list } else
      now) e)

  -- what a search among the unclosed finds: a place, or where the number would stand
  found : (n : ℕ) (r : Result ℕ ℕ) → IsBinarySearchResult (λ y. nat_cmp y n) open_numbers r
      → MatchResult r (λ i. (i < length open_numbers) × (get_or open_numbers i 0 ≡ n))
      (λ i. (i ≤ length open_numbers) × ((k : ℕ) → k < i → get_or open_numbers k 0 < n)
      × ((k : ℕ) → i ≤ k → k < length open_numbers → n < get_or open_numbers k 0))
  found n r h =
      searched open_numbers n r h (λ i j o k. let P : List ℕ → Type 0 = λ m. get_or m i 0 ≤ get_or m j 0 in
      subst P (sym w.open_is) (open_from-rises 1 (map (shown index) stored) i j o (omega (arith, k, ap length w.open_is))))

  -- what closing takes from a search that found a place, and from one that found none
  pub closing_found : (n p : ℕ) → IsBinarySearchResult (λ y. nat_cmp y n) open_numbers (Ok p) → Closing n p
  closing_found n p h = let at = found n (Ok p) h in closing n p at.0 at.1

  pub not_open_found : (n i : ℕ) → IsBinarySearchResult (λ y. nat_cmp y n) open_numbers (Err i) → is_open_at n now.list ≡ false
  not_open_found n i h = let at = found n (Err i) h in not_open n i at.1 at.2

  -- the gathering that a number names, where there is one
  module _ (n : ℕ) (is : IsSome (numbered n now.list)) (s : Stored A) (read : s ≡ get_or stored (n - 1) s) where
    named : (g : Gathering) × (numbered n (map (shown index) stored) ≡ Some g)
    named = by (numbered n (map (shown index) stored)) refl (let There : Gatherings → Type 0 = λ x. IsSome (numbered n x.list) in
        subst There (sym looks) is)
      where
        by : (o : Option Gathering) → numbered n (map (shown index) stored) ≡ o → IsSome o
            → (g : Gathering) × (numbered n (map (shown index) stored) ≡ Some g)
        by None e h = absurd (true≢false (sym h))
        by (Some g) e h = (g, e)

    at_place : slice_get stored (n - 1) ≡ Some s
    at_place =
        let at = stored_at index stored n named.0 named.1 in
        at.there ∙ ap Some (sym (read ∙ get_or_from_slice_get stored (n - 1) at.kept s at.there))

    in_list : numbered n (map (shown index) stored) ≡ Some (shown index s)
    in_list =
        let at = stored_at index stored n named.0 named.1 in
        numbered_at n (map (shown index) stored) at.above ∙ get_map (shown index) stored (n - 1)
        ∙ ap (option_map (shown index)) at_place

    pub whole_joining : (copies : Vec HeardCopy A) → IsWhole limits index
        (slice_set stored (n - 1) (record s { copies = copies })) open_numbers
    whole_joining copies = whole_rewritten limits index stored open_numbers (n - 1) s
        (record s { copies = copies }) w at_place refl refl

    set_looks : (copies : Vec HeardCopy A) (items : List HeardCopy) → copies.items ≡ items
        → map (shown index) (slice_set stored (n - 1) (record s { copies = copies }))
        ≡ slice_set (map (shown index) stored) (n - 1) (record (shown index s) { copies = items })
    set_looks copies items e =
        shown_set index stored (n - 1) (record s { copies = copies })
        ∙ ap (λ x. slice_set (map (shown index) stored) (n - 1) (record (shown index s) { copies = x })) e

    pub joining_refused : (copies : Vec HeardCopy A) → copies.items ≡ s.copies.items
        → record { list = map (shown index) (slice_set stored (n - 1) (record s { copies = copies })); limits = limits } ≡ now
    joining_refused copies e =
        let there = get_map (shown index) stored (n - 1) ∙ ap (option_map (shown index)) at_place in
        ap (λ x. record { list = x; limits = limits }) (set_looks copies s.copies.items e
        ∙ set_same (map (shown index) stored) (n - 1) (shown index s) there)
        ∙ looks

    pub joining_count : (m : ℕ) → m ≡ length s.copies.items + 1 → m ≡ length (copies_of n now.list) + 1
    joining_count m e =
        e ∙ ap (λ o. length (option_map_or (λ g. g.copies) o []) + 1) (sym in_list)
        ∙ ap (λ x. length (copies_of n x.list) + 1) looks

    pub joining_looks : (copies : Vec HeardCopy A) (copy : HeardCopy) → copies.items ≡ s.copies.items ++ copy ∷ []
        → record { list = map (shown index) (slice_set stored (n - 1) (record s { copies = copies })); limits = limits }
        ≡ record now { list = rewritten (with_copy copy) n now.list }
    joining_looks copies copy e =
        let seen : List Gathering → Gatherings = λ x. record { list = x; limits = limits } in
        ap seen (set_looks copies (s.copies.items ++ copy ∷ []) e
        ∙ sym (rewritten_some (with_copy copy) n (map (shown index) stored) (shown index s) in_list))
        ∙ ap (λ (x : Gatherings). record x { list = rewritten (with_copy copy) n x.list }) looks

  -- one gathering more
  module _ (new : Index) (bytes : List ℕ) (n : ℕ) (s : Stored A) (r : Renews index new bytes n s.text) (after : List (Stored A))
      (pushed : after ≡ stored ++ s ∷ []) where
    pub whole_append : (unclosed : List ℕ) → n ≡ length stored + 1 → length now.list < now.limits.max_ever → s.closed ≡ false
        → unclosed ≡ open_numbers ++ n ∷ [] → IsWhole limits new after unclosed
    whole_append unclosed number spare flag e =
        let Spare : Gatherings → Type 0 = λ x. length x.list < x.limits.max_ever in
        let room : length (map (shown index) stored) < limits.max_ever = subst Spare (sym looks) spare in
        let After : List (Stored A) → Type 0 = λ x. IsWhole limits new x (open_numbers ++ n ∷ []) in
        let Unclosed : List ℕ → Type 0 = λ x. IsWhole limits new after x in
        subst Unclosed (sym e) (subst After (sym pushed) (whole_pushed limits index new stored open_numbers bytes n s w r number
        (omega (arith, room, length-map stored (shown index))) flag))

    pub append_looks : (copy : HeardCopy) (arrived : ℕ) → s.opened ≡ arrived → s.closed ≡ false → s.copies.items ≡ copy ∷ []
        → record { list = map (shown new) after; limits = limits }
        ≡ record now { list = now.list ++ opening bytes copy arrived ∷ [] }
    append_looks copy arrived o f e =
        let last : shown new s ≡ opening bytes copy arrived =
        (λ j. record { bytes = r.here j; opened = o j; copies = e j; closed = f j }) in
        let whole = shown_push index new stored s (shown_kept index new stored w.texts r.kept) in
        let seen : List Gathering → Gatherings = λ x. record { list = x; limits = limits } in
        ap (λ x. seen (map (shown new) x)) pushed
        ∙ ap seen (whole ∙ ap (λ g. map (shown index) stored ++ g ∷ []) last)
        ∙ ap (λ (x : Gatherings). record x { list = x.list ++ opening bytes copy arrived ∷ [] }) looks

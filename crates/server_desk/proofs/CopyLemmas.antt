-- The copies of gathered uplinks stay in their ranges, and each of another gateway.
use Rattle.server_desk.proofs.Words
use Words.{ℕ, ◌≡◌, ◌≢◌, ◌-◌, ◌<◌, ◌==◌, false, List, [], ◌∷◌, ◌++◌, length, All, get_or, Option, Some, None, Result, Ok, Err}
use Words.{IfOk, refl, sym, ◌∙◌, arith, eq-eqb, true≢false, length-append, All-set, All-push, All-nil, All-cons, list_any_at}
use Words.{HeardCopy, HearFault, Heard, Opened, Joined, Joins, Gathering, Gatherings, numbered, rewritten, place_of, place_by}
use Words.{has_gateway, hear_answer, after_hearing, with_copy, IsHeard, IsGathered, same_Some}
use Rattle.server_desk.proofs.{Places.all_get, Numbers.at_number}
use Rattle.uplink_gather.specs.Hearing.{opening}
use Rattle.std.proofs.lemmas.List.Quantifiers.{all_pairs_push}
use Rattle.uplink_gather.proofs.HearingLaws.{joins_at, answer_joined}

-- what is true of all is true where one is written anew that keeps it
all_rewritten : {X : Type 0} (P : X → Type 0) (f : X → X) (n : ℕ) (xs : List X) (o : Option X) → numbered n xs ≡ o
    → ((x : X) → numbered n xs ≡ Some x → P x → P (f x)) → All P xs → All P (rewritten f n xs)
all_rewritten P f n xs None e keep h = rw e h
all_rewritten P f n xs (Some x) e keep h =
    rw e (All-set P xs (n - 1) (f x) (keep x e (all_get P xs (n - 1) x h (at_number n xs x e))) h)

-- a copy opens a gathering
all_opened : (l : List Gathering) (bytes : List ℕ) (copy : HeardCopy) (arrived : ℕ) → IsHeard copy → All IsGathered l
    → All IsGathered (l ++ opening bytes copy arrived ∷ [])
all_opened l bytes copy arrived h all =
    All-push IsGathered l (opening bytes copy arrived) all (record {
      copied = omega arith;
      distinct = λ i j d l m. absurd (omega (arith, l, m));
      heard = All-cons IsHeard copy [] h (All-nil IsHeard);
    })

-- a copy of a gateway that heard none of the others joins them
apart : (copies : List HeardCopy) (copy : HeardCopy) → has_gateway copy.gateway copies ≡ false → (k : ℕ) (d : HeardCopy)
    → k < length copies → (get_or copies k d).gateway ≢ copy.gateway
apart copies copy e k d l q =
    true≢false (sym (list_any_at (λ c. c.gateway == copy.gateway) copies k d l (eq-eqb _ _ q)) ∙ e)

joined_copy : (g : Gathering) (copy : HeardCopy) → IsHeard copy → has_gateway copy.gateway g.copies ≡ false → IsGathered g
    → IsGathered (with_copy copy g)
joined_copy g copy h e i =
    record {
      copied = omega (arith, length-append g.copies (copy ∷ []), i.copied);
      distinct = all_pairs_push (λ c d. c.gateway ≢ d.gateway) g.copies copy i.distinct (apart g.copies copy e);
      heard = All-push IsHeard g.copies copy i.heard h;
    }

-- no copy of its gateway is there, where a copy joins
new_gateway : (s : Gatherings) (bytes : List ℕ) (gateway arrived n : ℕ) (g : Gathering)
    → place_of s bytes gateway arrived ≡ Ok (Joins n) → numbered n s.list ≡ Some g → has_gateway gateway g.copies ≡ false
new_gateway s bytes gateway arrived n g e there =
    let at = joins_at s bytes gateway arrived n e in
    let same : at.gathering ≡ g = same_Some _ _ (sym at.there ∙ there) in
    let here : place_by s.limits gateway arrived (Some (n, g)) ≡ Ok (Joins n) = rw (at.newest_is, same) at e in
    grind (arith, here)

-- a copy was heard, memory aside
pub all_heard : (s : Gatherings) (bytes : List ℕ) (copy : HeardCopy) (arrived : ℕ) (r : Result Heard HearFault)
    → IfOk r (λ h. hear_answer s bytes copy.gateway arrived ≡ Ok h)
    → IsHeard copy → All IsGathered s.list → All IsGathered (after_hearing r s bytes copy arrived).list
all_heard s bytes copy arrived (Ok (Opened n)) told h all = all_opened s.list bytes copy arrived h all
all_heard s bytes copy arrived (Ok (Joined n copies)) told h all =
    let e = (answer_joined s bytes copy.gateway arrived n copies told).0 in
    all_rewritten IsGathered (with_copy copy) n s.list (numbered n s.list) refl
    (λ g there i. joined_copy g copy h (new_gateway s bytes copy.gateway arrived n g e there) i) all
all_heard s bytes copy arrived (Err fault) told h all = all

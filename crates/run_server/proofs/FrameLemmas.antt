-- What was told: receipts that may have lost their frames.
use Rattle.std.proofs.Common.{◌≡◌, ◌≢◌, ℕ, ◌+◌, ◌<◌, ◌==◌, Bool, true, false, List, [], ◌∷◌, ◌++◌, length, get_or, map}
use Rattle.std.proofs.Common.{take, drop, Option, None, Some, find, refl, sym, ap, ◌∙◌, arith, subst, cond}
use Rattle.std.specs.Prelude.{slice_set, slice_get}
use Rattle.std.specs.Global.{Global}
use Rattle.std.specs.List.{All}
use Rattle.std.specs.List.Sorted.{IsNonDecreasingBy, IsStrictlyIncreasing}
use Rattle.std.specs.Option.{option_map_or}
use Rattle.std.specs.Vec.{with_items}
use Rattle.std.proofs.lemmas.Bool.Decides.{nat_tests}
use Rattle.std.proofs.lemmas.List.{set-get_or, length-map, with_items_is, map_more, drop_more, get_or-drop, length-drop}
use Rattle.std.proofs.lemmas.List.{get_or_default}
use Rattle.std.proofs.Math.ListN.{get_or-map}
use Rattle.std.proofs.Math.Seq.{map-set_same}
use Rattle.std.proofs.lemmas.List.Folds.{find_past}
use Rattle.std.proofs.lemmas.List.Elements.{All-head, All-tail}
use Rattle.std.proofs.lemmas.List.Kept.{AllPairs-from_increasing}
use Rattle.std.proofs.lemmas.Option.{slice_get-get_or}
use Rattle.answer_ticket.specs.declared.outcome.Ending.TheVariants.{Answered, Unanswered, GivenUp}
use Rattle.answer_ticket.specs.declared.tried.Receipt.{Receipt}
use Rattle.server_core.specs.declared.entry.Line.TheVariants as lines
use Rattle.server_workers.specs.declared.filed.Filed.{Filed}
use Rattle.server_workers.specs.Filing.{Filing, filing, IsByNumber}
use Rattle.run_server.specs.declared.pass_answers.Answer.{Answer}
use Rattle.run_server.specs.declared.pass_ends.End.{End}
use Rattle.run_server.specs.declared.pass_ends.End.TheVariants as ends
use Rattle.run_server.specs.Booking.{Booking, booking_of}
use Rattle.run_server.specs.PassEnds.{end_of}
use Rattle.run_server.specs.PassAnswers.{line_alone, sent_answer, answer_to, answer_in, told_receipt, AreTold, IsToldOf}

-- what is found passes
found_passes : {X : Type 0} (p : X → Bool) (xs : List X) (x : X) → find p xs ≡ Some x → p x ≡ true
found_passes p [] x e = absurd (cc (e))
found_passes p (y ∷ xs) x e = here (p y) refl e (found_passes p xs x) where
  here : (t : Bool) → p y ≡ t → cond t (Some y) (find p xs) ≡ Some x → (find p xs ≡ Some x → p x ≡ true) → p x ≡ true
  here true is e behind = cc (is, e)
  here false is e behind = behind e

-- what stands where the first one with number n was found has it
number_there : (n : ℕ) (receipts : List (Receipt Global)) (at : ℕ) (r : Receipt Global) → at < length receipts
    → r ≡ get_or receipts at r → slice_get receipts at ≡ find (λ (r : Receipt Global). r.number == n) receipts → r.number ≡ n
number_there n receipts at r within there found =
    let test : (r.number == n) ≡ true = found_passes (λ (r : Receipt Global). r.number == n) receipts r
    (sym found ∙ slice_get-get_or receipts at r within ∙ ap Some (sym there)) in
    grind (arith, nat_tests, test)

-- a list in which one was told by its place
module _ (n : ℕ) (receipts : List (Receipt Global)) (at : ℕ) (old new : Receipt Global) (there : old ≡ get_or receipts at old)
    (is : old.number ≡ n) where
  found_other : new.number ≡ old.number → (m : ℕ) → m ≢ n
      → find (λ (r : Receipt Global). r.number == m) (slice_set receipts at new)
      ≡ find (λ (r : Receipt Global). r.number == m) receipts
  found_other e m other =
      let here : (get_or receipts at old).number ≡ n = ap (λ (r : Receipt Global). r.number) (sym there) ∙ is in
      let now : new.number ≡ n = e ∙ is in
      find_past (λ (r : Receipt Global). r.number == m) receipts at new old
      (another (get_or receipts at old).number here other) (another new.number now other) where
        another : (a : ℕ) → a ≡ n → m ≢ n → (a == m) ≡ false
        another a e other = grind (arith, nat_tests, e, other)

  told_there : (is_moved : Bool) → new ≡ told_receipt is_moved old → AreTold is_moved n receipts (slice_set receipts at new)
  told_there true e =
      record {
        same = map-set_same booking_of receipts at new old (ap booking_of e ∙ ap booking_of there);
        found = λ m other. found_other (ap (λ (r : Receipt Global). r.number) e) m (other refl);
      }
  told_there false e =
      let same : slice_set receipts at new ≡ receipts =
      ap (λ r. slice_set receipts at r) (e ∙ there) ∙ set-get_or receipts at old in
      record {
        same = ap (map booking_of) same;
        found = λ m other. ap (find (λ (r : Receipt Global). r.number == m)) same;
      }

-- the first receipt with number n was told
pub one_told : (is_moved : Bool) (n : ℕ) (receipts : List (Receipt Global)) (at : ℕ) (old new : Receipt Global)
    → at < length receipts → old ≡ get_or receipts at old
    → slice_get receipts at ≡ find (λ (r : Receipt Global). r.number == n) receipts → new ≡ told_receipt is_moved old
    → AreTold is_moved n receipts (slice_set receipts at new)
one_told is_moved n receipts at old new within there found e =
    told_there n receipts at old new there (number_there n receipts at old within there found) is_moved e

-- numbers of receipts that are as before but for their frames
number_at : (receipts : List (Receipt Global)) (k : ℕ) (d : Receipt Global)
    → (get_or receipts k d).number ≡ (get_or (map booking_of receipts) k (booking_of d)).receipt.number
number_at receipts k d = ap (λ (b : Booking). b.receipt.number) (sym (get_or-map booking_of receipts k d))

still_by_number : (old new : List (Receipt Global)) → map booking_of new ≡ map booking_of old
    → IsNonDecreasingBy (λ (r : Receipt Global). r.number) old → IsNonDecreasingBy (λ (r : Receipt Global). r.number) new
still_by_number old new same rising = λ i j d a b.
    let long : length new ≡ length old = sym (length-map new booking_of) ∙ ap length same ∙ length-map old booking_of in
    let up = rising i j d a (omega (arith, b, long)) in
    let at : (k : ℕ) → (get_or new k d).number ≡ (get_or old k d).number = λ k.
    number_at new k d ∙ ap (λ (l : List Booking). (get_or l k (booking_of d)).receipt.number) same ∙ sym (number_at old k d) in
    omega (arith, up, at i, at j)

-- where the same receipt is found the answer is the same
answer_to_same : (old new : List (Receipt Global)) (m : ℕ) (end : End)
    → find (λ (r : Receipt Global). r.number == m) new ≡ find (λ (r : Receipt Global). r.number == m) old
    → answer_to new m end ≡ answer_to old m end
answer_to_same old new m (ends.Settled (Answered gateway window start airtime carried)) e =
    ap (λ (found : Option (Receipt Global)). option_map_or (sent_answer m carried) found (line_alone m (lines.Stray m))) e
answer_to_same old new m (ends.Settled (Unanswered refusal)) e = refl
answer_to_same old new m (ends.Settled GivenUp) e = refl
answer_to_same old new m (ends.Refused fault) e = refl
answer_to_same old new m ends.Stray e = refl

answer_same : (old new : List (Receipt Global)) (m : ℕ) (end : Option End)
    → find (λ (r : Receipt Global). r.number == m) new ≡ find (λ (r : Receipt Global). r.number == m) old
    → option_map_or (answer_to new m) end (line_alone m (lines.Stray m))
    ≡ option_map_or (answer_to old m) end (line_alone m (lines.Stray m))
answer_same old new m None e = refl
answer_same old new m (Some end) e = answer_to_same old new m end e

-- number n was told, and nothing but receipts has changed
pub ends_told : (is_moved : Bool) (n : ℕ) (e : Filed Global) (new : List (Receipt Global))
    → IsByNumber (filing e) → AreTold is_moved n e.receipts.items new
    → IsToldOf is_moved n (filing e) (filing (record e { receipts = with_items e.receipts new }))
ends_told is_moved n e new by_number told =
    let long : length new ≡ length e.receipts.items =
    sym (length-map new booking_of) ∙ ap length told.same ∙ length-map e.receipts.items booking_of in
    let are : (with_items e.receipts new).items ≡ new = with_items_is e.receipts new (omega (arith, long, e.receipts.ok.0)) in
    record {
      by_number = record {
        receipts = subst (IsNonDecreasingBy (λ (r : Receipt Global). r.number)) (sym are)
            (still_by_number e.receipts.items new told.same by_number.receipts);
        outcomes = by_number.outcomes;
        skipped = by_number.skipped;
        refused = by_number.refused;
        strays = by_number.strays;
      };
      same = ap (map booking_of) are ∙ told.same;
      answer = λ m other. answer_same e.receipts.items (with_items e.receipts new).items m (end_of (filing e) m)
          (ap (find (λ (r : Receipt Global). r.number == m)) are ∙ told.found m other);
    }

-- one more number was told

pub told_more : (f : ℕ → Answer) (numbers : List ℕ) (at : ℕ) (answers more : List Answer) (answer : Answer)
    → at < length numbers → answers ≡ map f (take at numbers) → more ≡ answers ++ answer ∷ []
    → answer ≡ f (get_or numbers at 0) → more ≡ map f (take (at + 1) numbers)
told_more f numbers at answers more answer within so_far one is =
    one ∙ ap (λ a. answers ++ a ∷ []) is ∙ ap (λ l. l ++ f (get_or numbers at 0) ∷ []) so_far
    ∙ sym (map_more f numbers at 0 within)

-- each number behind it is another, or no frame was moved
pub left_more : (numbers : List ℕ) (at : ℕ) (is_moved : Bool) (first old new : Filing Global) → at < length numbers
    → (is_moved ≡ true → IsStrictlyIncreasing numbers) → IsToldOf is_moved (get_or numbers at 0) old new
    → All (λ n. answer_in old n ≡ answer_in first n) (drop at numbers)
    → All (λ n. answer_in new n ≡ answer_in first n) (drop (at + 1) numbers)
left_more numbers at is_moved first old new within rise told left = λ k d l.
    let n = get_or numbers at 0 in
    let m = get_or (drop (at + 1) numbers) k d in
    let here : m ≡ get_or numbers (at + 1 + k) d = get_or-drop (at + 1) numbers k d in
    let inside : at + 1 + k < length numbers = omega (arith, l, length-drop (at + 1) numbers) in
    let same : get_or numbers at d ≡ n = get_or_default numbers at d 0 within in
    told.answer m
    (λ moved other.
    let up = AllPairs-from_increasing numbers (rise moved) at (at + 1 + k) d (omega arith) inside in
    omega (arith, up, here, same, other))
    ∙ All-tail (λ n. answer_in old n ≡ answer_in first n) n (drop (at + 1) numbers)
    (subst (All (λ n. answer_in old n ≡ answer_in first n)) (drop_more numbers at 0 within) left) k d l

-- the number at this place still has the answer that it had first
pub still_first : (numbers : List ℕ) (at : ℕ) (first old : Filing Global) → at < length numbers
    → All (λ n. answer_in old n ≡ answer_in first n) (drop at numbers)
    → answer_in old (get_or numbers at 0) ≡ answer_in first (get_or numbers at 0)
still_first numbers at first old within left =
    All-head (λ n. answer_in old n ≡ answer_in first n) (get_or numbers at 0) (drop (at + 1) numbers)
    (subst (All (λ n. answer_in old n ≡ answer_in first n)) (drop_more numbers at 0 within) left)

use Rattle.std.specs.Prelude.{ℕ, ◌≡◌, ◌+◌, ◌^◌, ◌<◌, ◌≤◌, ◌==◌, Bool, true, false, List, [], ◌∷◌, ◌++◌, length, Option, Some}
use Rattle.std.specs.Prelude.{None}
use Rattle.std.specs.Prelude.{Result, Ok, Err, cond, MatchBool, ⊤}
use Rattle.std.proofs.Common.{refl, sym, ap, ◌∙◌, arith, subst, append_assoc, length-append}
use Rattle.std.proofs.lemmas.List.Splits.{join_with_byte-slice_split}
use Rattle.std.specs.List.{join_with_byte}
use Rattle.text_lines.specs.Words.{spaced}
use Rattle.gateway_book.specs.declared.ask.Ask.{Ask}
use Rattle.gateway_book.specs.declared.loading.LoadFault.{LoadFault}
use Rattle.gateway_book.specs.declared.loading.LoadFault.TheVariants.{Read, Syntax, Version, Unlawful, NoMemory}
use Rattle.gateway_book.specs.declared.saved_line.Entry.{Entry}
use Rattle.gateway_book.specs.declared.saved_line.Entry.TheVariants.{Member, End}
use Rattle.gateway_book.specs.Answer.{most_cap}
use Rattle.gateway_book.specs.Book.{Book}
use Rattle.gateway_book.specs.Loading.{loaded, lines_between}
use Rattle.gateway_book.specs.Loading.{may_follow, joined}
use Rattle.gateway_book.specs.Loading.{Loads}
use Rattle.gateway_book.specs.Saved.{Saved, saved_of, end_words}
use Rattle.gateway_book.specs.SavedLines.{Leads, IsFault, members_from, entry_then, TakesBytes}
use Rattle.gateway_book.specs.Step.{reservation_of}
use Rattle.gateway_book.proofs.Joining.{follower_is_fit, followed}
use Rattle.gateway_book.proofs.SavedAgain.{end_is_read}
use Rattle.gateway_book.proofs.SavedSteps.{Leads-trans, fault_after, always_fault}

-- What the reading of a saved text comes to.

pub loads_fault : (before after : Option (List ℕ)) (fault : LoadFault) → IsFault loaded before fault
    → Loads before after (Err fault)
loads_fault None after fault h = tt
loads_fault (Some x) after Read h = tt
loads_fault (Some x) after (Syntax line) h = h
loads_fault (Some x) after Version h = h
loads_fault (Some x) after (Unlawful line) h = h
loads_fault (Some x) after NoMemory h = absurd h

-- the same is said of what follows
Leads-same : (a b : Option (List ℕ)) (n : ℕ) (all one other : List ℕ → Result (Saved × List ℕ) LoadFault)
    → Leads a b n all one → ((more : List ℕ) → one more ≡ other more) → Leads a b n all other
Leads-same a b n all one other leads same = record {
  front = leads.front;
  consumed = leads.consumed;
  counted = leads.counted;
  says = λ more. leads.says more ∙ same more;
}

pub loads_book : (before after : Option (List ℕ)) (n : ℕ) (b : Book) → Leads before after n loaded (λ more. Ok (saved_of b, more))
    → Loads before after (Ok b)
loads_book None after n b leads = tt
loads_book (Some x) None n b leads = absurd leads.consumed
loads_book (Some x) (Some y) n b leads = (y, refl, ap loaded leads.consumed ∙ leads.says y)

pub takes_bytes : (before after : Option (List ℕ)) (n : ℕ) (all following : List ℕ → Result (Saved × List ℕ) LoadFault)
    → Leads before after n all following → TakesBytes before after n
takes_bytes before after n all following leads = (leads.front, leads.consumed, leads.counted)

-- the same at equal numbers and entries
pub before_at : (a b : Option (List ℕ)) (n k number : ℕ) (s : Saved) → Leads a b n loaded (members_from k s) → number ≡ k
    → Leads a b n loaded (members_from number s)
before_at a b n k number s leads e = subst (λ (j : ℕ). Leads a b n loaded (members_from j s)) (sym e) leads

pub line_at : (b c : Option (List ℕ)) (k m number : ℕ) (s : Saved) (one other : Entry)
    → Leads b c k (members_from number s) (entry_then number s one) → m ≡ k → one ≡ other
    → Leads b c m (members_from number s) (entry_then number s other)
line_at b c k m number s one other leads e f =
    subst (λ (j : ℕ). Leads b c j (members_from number s) (entry_then number s other)) (sym e)
    (subst (λ (u : Entry). Leads b c k (members_from number s) (entry_then number s u)) f leads)

pub after_at : (a b : Option (List ℕ)) (n k number : ℕ) (s t : Saved) → Leads a b n loaded (members_from k s) → number ≡ k
    → t ≡ s → Leads a b n loaded (members_from number t)
after_at a b n k number s t leads e f =
    subst (λ (u : Saved). Leads a b n loaded (members_from number u)) (sym f) (before_at a b n k number s leads e)

-- where the member was joined, it may follow
pub may_where_joined : {T E : Type 0} (t : Bool) (P : Type 0) (x : T) (fault : E) → MatchBool t P (Ok x ≡ Err fault) → t ≡ true
may_where_joined true P x fault told = refl
may_where_joined false P x fault told = absurd (cc)

abbrev pub refused : LoadFault → Result ⊤ LoadFault
refused fault = Err fault

module _ (a b c : Option (List ℕ)) (n m number : ℕ) (s : Saved) (before : Leads a b n loaded (members_from number s)) where
  -- a fault where the next line is read
  pub entry_not_read : (after : Option (List ℕ)) (fault : LoadFault) → IsFault (members_from number s) b fault
      → Loads a after (Err fault)
  entry_not_read after fault h =
      loads_fault a after fault (fault_after a b n loaded (members_from number s) fault before h)

  module _ (count : ℕ) (line : Leads b c m (members_from number s) (entry_then number s (End count))) where
    -- the count is right
    pub end_leads : (count == length s.list) ≡ true → Leads a c (n + m) loaded (λ more. Ok (s, more))
    end_leads e =
        Leads-same a c (n + m) loaded (entry_then number s (End count)) (λ more. Ok (s, more))
        (Leads-trans a b c n m loaded (members_from number s) (entry_then number s (End count)) before line)
        (λ more.
        ap (λ t. cond t (Ok (s, join_with_byte 10 (lines_between more))) (Err (Syntax number))) e
        ∙ ap (λ l. Ok (s, l)) (join_with_byte-slice_split 10 more))

    -- the count is wrong
    pub end_fault : (count == length s.list) ≡ false → Loads a c (Err (Syntax number))
    end_fault e =
        loads_fault a c (Syntax number)
        (fault_after a c (n + m) loaded (entry_then number s (End count)) (Syntax number)
        (Leads-trans a b c n m loaded (members_from number s) (entry_then number s (End count)) before line)
        (always_fault (entry_then number s (End count)) c (Syntax number)
        (λ more. ap (λ t. cond t (Ok (s, join_with_byte 10 (lines_between more))) (Err (Syntax number))) e)))

  module _ (ask : Ask) (line : Leads b c m (members_from number s) (entry_then number s (Member ask))) where
    -- the member may follow
    pub member_leads : may_follow s ask ≡ true
        → Leads a c (n + m) loaded (members_from (number + 1) (joined s (reservation_of ask)))
    member_leads e =
        Leads-same a c (n + m) loaded (entry_then number s (Member ask))
        (members_from (number + 1) (joined s (reservation_of ask)))
        (Leads-trans a b c n m loaded (members_from number s) (entry_then number s (Member ask)) before line)
        (λ more. ap (λ t. cond t (members_from (number + 1) (joined s (reservation_of ask)) more) (Err (Unlawful number))) e)

    member_fault : may_follow s ask ≡ false → Loads a c (Err (Unlawful number))
    member_fault e =
        loads_fault a c (Unlawful number)
        (fault_after a c (n + m) loaded (entry_then number s (Member ask)) (Unlawful number)
        (Leads-trans a b c n m loaded (members_from number s) (entry_then number s (Member ask)) before line)
        (always_fault (entry_then number s (Member ask)) c (Unlawful number)
        (λ more. ap (λ t. cond t (members_from (number + 1) (joined s (reservation_of ask)) more) (Err (Unlawful number))) e)))

    -- there was no memory for the member
    starved : s.rules.cap ≤ most_cap → may_follow s ask ≡ true → Loads a c (Err NoMemory)
    starved capped e = by_bytes a c (member_leads e)
      where
        by_bytes : (x y : Option (List ℕ)) → Leads x y (n + m) loaded (members_from (number + 1) (joined s (reservation_of ask)))
            → Loads x y (Err NoMemory)
        by_bytes None y leads = tt
        by_bytes (Some bytes) None leads = absurd leads.consumed
        by_bytes (Some bytes) (Some rest) leads =
            let fit = follower_is_fit s ask e in
            let r = fit.0 in
            let room = (followed s ask r e fit.1).room in
            let whole = joined s (reservation_of ask) in
            let list : whole.list ≡ s.list ++ r ∷ [] = ap (λ o. (joined s o).list) fit.1 in
            let few : length whole.list < 2 ^ 32 = omega (arith, ap length list, length-append s.list (r ∷ [])) in (
              record {
                front = leads.front;
                rest = rest;
                saved = whole;
                member = r;
                others = s.list;
                parts = leads.consumed;
                last = list;
                reads =
                    ap loaded (append_assoc leads.front (spaced (end_words whole.list)) (10 ∷ []))
                    ∙ leads.says (spaced (end_words whole.list) ++ 10 ∷ [])
                    ∙ end_is_read (number + 1) whole [] few;
              },
              refl,
            )

    pub not_joined : (fault : LoadFault) → s.rules.cap ≤ most_cap
        → MatchBool (may_follow s ask) (fault ≡ NoMemory) (refused fault ≡ Err (Unlawful number)) → Loads a c (Err fault)
    not_joined fault capped told = by_test (may_follow s ask) refl told
      where
        by_test : (t : Bool) → may_follow s ask ≡ t
            → MatchBool t (fault ≡ NoMemory) (refused fault ≡ Err (Unlawful number)) → Loads a c (Err fault)
        by_test true e h = subst (λ f. Loads a c (Err f)) (sym h) (starved capped e)
        by_test false e h =
            let same : Unlawful number ≡ fault = cc in
            subst (λ f. Loads a c (Err f)) same (member_fault e)

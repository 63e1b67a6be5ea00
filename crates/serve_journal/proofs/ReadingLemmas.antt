use Rattle.std.proofs.Common.{◌≡◌, ℕ, suc, ◌+◌, ◌<◌, ◌≤◌, Bool, true, false, cond, eqb, List, [], ◌∷◌, ◌++◌, length, refl, sym, ap}
use Rattle.std.proofs.Common.{subst, ◌∙◌, arith, Option, Some, None, length-append}
use Rattle.std.specs.Prelude.{Result, Ok, Err, if◌then◌else◌, option_and_then, count_by}
use Rattle.std.proofs.lemmas.List.Recursion.{is_count_by}
use Rattle.std.proofs.lemmas.List.Sums.{count_by-le-length}
use Rattle.serve_journal.specs.declared.fault.JournalFault.{JournalFault}
use Rattle.serve_journal.specs.declared.fault.JournalFault.TheVariants.{NoHead, Version, NoBatch, Journal, NoMemory}
use Rattle.serve_journal.specs.EntryWords.{entry_of}
use Rattle.serve_journal.specs.Journal as state
use Rattle.serve_journal.specs.Lines.{ended, behind, lines_of, batches_of}
use Rattle.serve_journal.specs.Reading.{Said, read_on, read_lines, read_batches, read_all, and_then, first_lines, is_torn, journal_of}
use Rattle.serve_journal.specs.Reading.{IsFault}
use Rattle.serve_journal.specs.TakingLines.{TakesLine, TakesLines}

-- How a journal is read, line by line and batch by batch.

module _ {X : Type 0} (ends : X → Bool) where
  length-behind : (x : X) (parts : List (List X)) → length (behind x parts) ≡ length parts
  length-behind x [] = refl
  length-behind x (part ∷ parts) = refl

  one_more : (x : X) (xs : List X) (t : Bool) → ends x ≡ t
      → length (if ends x then [] ∷ ended ends xs else behind x (ended ends xs))
      ≡ cond (ends x) (1 + length (ended ends xs)) (length (ended ends xs))
  one_more x xs true e = rw e (omega arith)
  one_more x xs false e = rw e (length-behind x (ended ends xs))

  -- as many parts as elements end one
  pub length-ended : (xs : List X) → length (ended ends xs) ≡ count_by ends xs
  length-ended xs = is_count_by (λ l. length (ended ends l)) ends refl (λ y ys. one_more y ys (ends y) refl) xs

pub lines_counted : (bytes : List ℕ) → length (lines_of bytes) ≡ count_by (λ byte. eqb byte 10) bytes
lines_counted bytes = length-ended (λ byte. eqb byte 10) bytes

pub few_lines : (bytes : List ℕ) → length (lines_of bytes) ≤ length bytes
few_lines bytes = omega (arith, lines_counted bytes, count_by-le-length (λ byte. eqb byte 10) bytes)

-- a line that was taken
taken_by : (number : ℕ) (o : Option state.Journal) (new : state.Journal) → TakesLine number o new (Ok tt) → o ≡ Some new
taken_by number None new t = absurd (cc)
taken_by number (Some j) new t = ap Some (sym t)

pub line_taken : (number : ℕ) (j new : state.Journal) (line : List ℕ) (more : List (List ℕ))
    → TakesLine number (option_and_then (state.after_entry j) (entry_of line)) new (Ok tt)
    → read_lines number j (line ∷ more) ≡ read_lines (number + 1) new more
line_taken number j new line more t =
    rw (taken_by number (option_and_then (state.after_entry j) (entry_of line)) new t) refl

failing : JournalFault → Said
failing fault = Err fault

same_fault : (a b : JournalFault) → (let x : Result Unit JournalFault = Err a in x) ≡ Err b → a ≡ b
same_fault a b h = cc

-- a line at fault
faulty_by : (number : ℕ) (o : Option state.Journal) (new : state.Journal) (next : state.Journal → Said) (fault : JournalFault)
    → TakesLine number o new (Err fault) → IsFault (read_on number o next) fault
faulty_by number None new next fault t =
    let same : fault ≡ Journal number = same_fault fault (Journal number) t in
    subst (λ f. IsFault (read_on number None next) f) (sym same) refl
faulty_by number (Some j) new next NoMemory t = tt
faulty_by number (Some j) new next NoHead t = absurd t
faulty_by number (Some j) new next Version t = absurd t
faulty_by number (Some j) new next (NoBatch line) t = absurd t
faulty_by number (Some j) new next (Journal line) t = absurd t

pub line_faulty : (number : ℕ) (j new : state.Journal) (line : List ℕ) (more : List (List ℕ)) (fault : JournalFault)
    → TakesLine number (option_and_then (state.after_entry j) (entry_of line)) new (Err fault)
    → IsFault (read_lines number j (line ∷ more)) fault
line_faulty number j new line more fault t =
    faulty_by number (option_and_then (state.after_entry j) (entry_of line)) new (λ k. read_lines (number + 1) k more) fault t

-- so far lines were taken, and these bytes are left
pub record IsTakenTo (number : ℕ) (j : state.Journal) (lines : List ℕ) (next : ℕ) (k : state.Journal) (rest : List ℕ) : Type 0
  where
    pub said : read_lines number j (lines_of lines) ≡ read_lines next k (lines_of rest)
    pub counted : next + length (lines_of rest) ≡ number + length (lines_of lines)
    pub room : next + length rest ≤ number + length lines

pub taken_more : (number : ℕ) (j : state.Journal) (lines : List ℕ) (next : ℕ) (k new : state.Journal) (rest line after : List ℕ)
    → IsTakenTo number j lines next k rest → rest ≡ line ++ 10 ∷ after → lines_of rest ≡ line ∷ lines_of after
    → TakesLine next (option_and_then (state.after_entry k) (entry_of line)) new (Ok tt)
    → IsTakenTo number j lines (next + 1) new after
taken_more number j lines next k new rest line after i split same t =
    let size : length rest ≡ length line + suc (length after) = ap length split ∙ length-append line (10 ∷ after) in
    record {
      said = i.said ∙ ap (read_lines next k) same ∙ line_taken next k new line (lines_of after) t;
      counted = omega (arith, i.counted, ap length same);
      room = omega (arith, i.room, size);
    }

pub all_taken : (number : ℕ) (j : state.Journal) (lines : List ℕ) (next : ℕ) (k : state.Journal) (rest : List ℕ)
    → IsTakenTo number j lines next k rest → lines_of rest ≡ []
    → TakesLines (read_lines number j (lines_of lines)) k (number + length (lines_of lines)) (Ok next)
all_taken number j lines next k rest i none =
    (i.said ∙ ap (read_lines next k) none, omega (arith, i.counted, ap length none))

pub taken_faulty : (number : ℕ) (j : state.Journal) (lines : List ℕ) (next : ℕ) (k new : state.Journal) (rest line after : List ℕ)
    (fault : JournalFault) → IsTakenTo number j lines next k rest → lines_of rest ≡ line ∷ lines_of after
    → TakesLine next (option_and_then (state.after_entry k) (entry_of line)) new (Err fault)
    → IsFault (read_lines number j (lines_of lines)) fault
taken_faulty number j lines next k new rest line after fault i same t =
    subst (λ s. IsFault s fault) (sym (i.said ∙ ap (read_lines next k) same)) (line_faulty next k new line (lines_of after) fault t)

-- a fault of the first step is that of both
pub IsFault-then : (said : Said) (next : state.Journal → Said) (fault : JournalFault) → IsFault said fault
    → IsFault (and_then said next) fault
IsFault-then (Ok j) next NoMemory f = tt
IsFault-then (Ok j) next NoHead f = absurd (cc)
IsFault-then (Ok j) next Version f = absurd (cc)
IsFault-then (Ok j) next (NoBatch line) f = absurd (cc)
IsFault-then (Ok j) next (Journal line) f = absurd (cc)
IsFault-then (Err e) next NoMemory f = tt
IsFault-then (Err e) next NoHead f = f
IsFault-then (Err e) next Version f = f
IsFault-then (Err e) next (NoBatch line) f = f
IsFault-then (Err e) next (Journal line) f = f

-- so far batches were read, and these bytes are left
pub record IsReadTo (bytes : List ℕ) (number : ℕ) (j : state.Journal) (rest : List ℕ) : Type 0 where
  pub said : journal_of bytes ≡ read_batches number j (batches_of (lines_of rest))
  pub room : number + length rest ≤ length bytes + 1

pub first_read : (bytes first rest : List ℕ) (j : state.Journal) (next : ℕ)
    → batches_of (lines_of bytes) ≡ lines_of first ∷ batches_of (lines_of rest) → length first + length rest < length bytes
    → TakesLines (first_lines (lines_of first)) j (length (lines_of first) + 1) (Ok next) → IsReadTo bytes (next + 1) j rest
first_read bytes first rest j next batches short t =
    let number : length (lines_of first) + 2 ≡ next + 1 = omega (arith, t.1) in
    record {
      said =
          ap (read_all (length (lines_of bytes))) batches
          ∙ ap (λ s. and_then s (λ k. read_batches (length (lines_of first) + 2) k (batches_of (lines_of rest)))) t.0
          ∙ ap (λ n. read_batches n j (batches_of (lines_of rest))) number;
      room = omega (arith, t.1, short, few_lines first);
    }

pub first_faulty : (bytes first rest : List ℕ) (fault : JournalFault)
    → batches_of (lines_of bytes) ≡ lines_of first ∷ batches_of (lines_of rest) → IsFault (first_lines (lines_of first)) fault
    → IsFault (journal_of bytes) fault
first_faulty bytes first rest fault batches f =
    subst (λ s. IsFault s fault) (sym (ap (read_all (length (lines_of bytes))) batches))
    (IsFault-then (first_lines (lines_of first)) (λ j. read_batches (length (lines_of first) + 2) j (batches_of (lines_of rest))) fault f)

pub torn_read : (bytes : List ℕ) (number : ℕ) (j : state.Journal) (rest batch after : List ℕ) → IsReadTo bytes number j rest
    → batches_of (lines_of rest) ≡ lines_of batch ∷ batches_of (lines_of after)
    → is_torn (lines_of batch) (batches_of (lines_of after)) ≡ true → journal_of bytes ≡ Ok j
torn_read bytes number j rest batch after i batches torn =
    i.said ∙ ap (read_batches number j) batches
    ∙ ap (λ t. if t then Ok j else and_then (read_lines number j (lines_of batch))
    (λ k. read_batches (number + length (lines_of batch) + 1) k (batches_of (lines_of after)))) torn

whole_batch : (bytes : List ℕ) (number : ℕ) (j : state.Journal) (rest batch after : List ℕ) → IsReadTo bytes number j rest
    → batches_of (lines_of rest) ≡ lines_of batch ∷ batches_of (lines_of after)
    → is_torn (lines_of batch) (batches_of (lines_of after)) ≡ false
    → journal_of bytes ≡ and_then (read_lines number j (lines_of batch))
    (λ k. read_batches (number + length (lines_of batch) + 1) k (batches_of (lines_of after)))
whole_batch bytes number j rest batch after i batches whole =
    i.said ∙ ap (read_batches number j) batches
    ∙ ap (λ t. if t then Ok j else and_then (read_lines number j (lines_of batch))
    (λ k. read_batches (number + length (lines_of batch) + 1) k (batches_of (lines_of after)))) whole

pub batch_read : (bytes : List ℕ) (number : ℕ) (j new : state.Journal) (rest batch after : List ℕ) (next : ℕ)
    → IsReadTo bytes number j rest → batches_of (lines_of rest) ≡ lines_of batch ∷ batches_of (lines_of after)
    → length batch + length after < length rest → is_torn (lines_of batch) (batches_of (lines_of after)) ≡ false
    → TakesLines (read_lines number j (lines_of batch)) new (number + length (lines_of batch)) (Ok next)
    → IsReadTo bytes (next + 1) new after
batch_read bytes number j new rest batch after next i batches short whole t =
    let behind_it : number + length (lines_of batch) + 1 ≡ next + 1 = omega (arith, t.1) in
    record {
      said =
          whole_batch bytes number j rest batch after i batches whole
          ∙ ap (λ s. and_then s (λ k. read_batches (number + length (lines_of batch) + 1) k (batches_of (lines_of after)))) t.0
          ∙ ap (λ n. read_batches n new (batches_of (lines_of after))) behind_it;
      room = omega (arith, t.1, short, i.room, few_lines batch);
    }

pub batch_faulty : (bytes : List ℕ) (number : ℕ) (j : state.Journal) (rest batch after : List ℕ) (fault : JournalFault)
    → IsReadTo bytes number j rest → batches_of (lines_of rest) ≡ lines_of batch ∷ batches_of (lines_of after)
    → is_torn (lines_of batch) (batches_of (lines_of after)) ≡ false
    → IsFault (read_lines number j (lines_of batch)) fault → IsFault (journal_of bytes) fault
batch_faulty bytes number j rest batch after fault i batches whole f =
    subst (λ s. IsFault s fault) (sym (whole_batch bytes number j rest batch after i batches whole))
    (IsFault-then (read_lines number j (lines_of batch))
    (λ k. read_batches (number + length (lines_of batch) + 1) k (batches_of (lines_of after))) fault f)

pub all_read : (bytes : List ℕ) (number : ℕ) (j : state.Journal) (rest : List ℕ) → IsReadTo bytes number j rest
    → batches_of (lines_of rest) ≡ [] → journal_of bytes ≡ Ok j
all_read bytes number j rest i none = i.said ∙ ap (read_batches number j) none

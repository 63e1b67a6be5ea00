use Rattle.std.specs.Prelude.{◌≡◌, ℕ, ◌+◌, ◌≤◌, Bool, true, false, List, [], ◌∷◌, ◌++◌, codes, decimal}
use Rattle.std.specs.List.{count_by}
use Rattle.std.proofs.Common.{sym, cond}
use Rattle.std.proofs.lemmas.List.Sums.{sum_by-append}
use Rattle.server_core.specs.declared.entry.Entry.{Entry}
use Rattle.server_core.specs.declared.entry.Line.{Line}
use Rattle.server_core.specs.declared.entry.Line.TheVariants.{Send, Unanswered, Silent}
use Rattle.text_words.specs.Words.{spaced}
use Rattle.run_lines.specs.declared.uplink_counts.UplinkCounts.{UplinkCounts}

-- How many uplinks were answered, as the last line of a report tells it (docs/FORMATS.md, "airbook run").

-- which lines are counted
abbrev pub is_sent : {A : Type 0} → Line A → Bool
is_sent (Send number candidate) = true
is_sent line = false

abbrev pub is_unanswered : {A : Type 0} → Line A → Bool
is_unanswered (Unanswered number refusal) = true
is_unanswered line = false

abbrev pub is_silent : {A : Type 0} → Line A → Bool
is_silent (Silent number) = true
is_silent line = false

-- how many uplinks were answered, were not, and were owed no answer
abbrev pub counts_of : {A : Type 0} → List (Entry A) → UplinkCounts
counts_of entries =
    record {
      sent = count_by (λ e. is_sent e.line) entries;
      unanswered = count_by (λ e. is_unanswered e.line) entries;
      silent = count_by (λ e. is_silent e.line) entries;
    }

-- two tallies together
abbrev pub counts_sum : UplinkCounts → UplinkCounts → UplinkCounts
counts_sum t u =
    record { sent = t.sent + u.sent; unanswered = t.unanswered + u.unanswered; silent = t.silent + u.silent }

-- the last line of a report
abbrev pub counts_text : UplinkCounts → List ℕ
counts_text t =
    spaced (codes "answered" ∷ decimal t.sent
    ∷ codes "unanswered" ∷ decimal t.unanswered
    ∷ codes "silent" ∷ decimal t.silent ∷ [])

-- no count is above this
pub record AreCountsUpTo (most : ℕ) (t : UplinkCounts) : Type 0 where
  pub sent : t.sent ≤ most
  pub unanswered : t.unanswered ≤ most
  pub silent : t.silent ≤ most

-- what is counted in some lines and in others is counted in both
pub counts_of-append : {A : Type 0} (xs ys : List (Entry A)) → counts_sum (counts_of xs) (counts_of ys) ≡ counts_of (xs ++ ys)
counts_of-append {A = A} xs ys =
    let s = sym (sum_by-append (λ (e : Entry A). cond (is_sent e.line) 1 0) xs ys) in
    let u = sym (sum_by-append (λ (e : Entry A). cond (is_unanswered e.line) 1 0) xs ys) in
    let n = sym (sum_by-append (λ (e : Entry A). cond (is_silent e.line) 1 0) xs ys) in
    cc

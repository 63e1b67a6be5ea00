-- The downlinks among some lines, line by line.
use Rattle.std.proofs.Common.{◌≡◌, ◌++◌, ◌<◌, ◌+◌, ◌-◌, ◌∙◌, List, [], ◌∷◌, ℕ, ap, append_assoc, arith, drop, length, length-drop, map, refl, sym, take, Option, Some, None}
use Rattle.std.proofs.Common.{◌==◌, ◌||◌}
use Rattle.std.specs.List.{list_any}
use Rattle.std.proofs.Math.Seq.{take-length}
use Rattle.std.proofs.lemmas.List.{drop_more, map-append}
use Rattle.server_core.specs.declared.entry.Entry.{Entry}
use Rattle.serve_downlinks.specs.declared.downlink.Downlink.{Downlink}
use Rattle.serve_downlinks.specs.Downlinks.{ToSend, to_send, line_of, downlink_at, with_first, downlinks}
use Rattle.serve_downlinks.specs.Batch.{sends}

-- those of the lines from a place on, by the two lines there and those from the next place on
downlinks_from : {A : Type 0} (es : List (Entry A)) (i : ℕ) → i < length es
    → downlinks (map line_of (drop i es))
    ≡ with_first (downlink_at (map line_of (drop i es))) (downlinks (map line_of (drop (i + 1) es)))
downlinks_from [] i within = absurd (omega arith)
downlinks_from (e ∷ es) i within =
    let at = drop_more (e ∷ es) i e within in
    ap (λ l. downlinks (map line_of l)) at
    ∙ ap (λ l. with_first (downlink_at (map line_of l)) (downlinks (map line_of (drop (i + 1) (e ∷ es))))) (sym at)

first_apart : (o : Option ToSend) (ds : List ToSend) → with_first o [] ++ ds ≡ with_first o ds
first_apart None ds = refl
first_apart (Some d) ds = refl

-- the lines from a place on, as a slice is taken
slice_from : {X : Type 0} (xs : List X) (i : ℕ) → take (length xs - i) (drop i xs) ≡ drop i xs
slice_from xs i = ap (λ n. take n (drop i xs)) (sym (length-drop i xs)) ∙ take-length (drop i xs)

-- those so far and those from a place on are as many as before, one place later
pub downlinks_next : {A : Type 0} (before now : List ToSend) (all : List ToSend) (es : List (Entry A)) (i : ℕ) → i < length es
    → before ++ downlinks (map line_of (drop i es)) ≡ all
    → now ≡ before ++ with_first (downlink_at (map line_of (take (length es - i) (drop i es)))) []
    → now ++ downlinks (map line_of (drop (i + 1) es)) ≡ all
downlinks_next before now all es i within so_far next =
    let first = downlink_at (map line_of (drop i es)) in
    let rest = downlinks (map line_of (drop (i + 1) es)) in
    ap (λ l. l ++ rest)
    (next ∙ ap (λ l. before ++ with_first (downlink_at (map line_of l)) []) (slice_from es i))
    ∙ append_assoc before (with_first first []) rest
    ∙ ap (λ l. before ++ l) (first_apart first rest ∙ sym (downlinks_from es i within))
    ∙ so_far

-- one more was found
pub found_more : (old new : List Downlink) (d : Downlink) (o : Option ToSend) → new ≡ old ++ d ∷ [] → Some (to_send d) ≡ o
    → map to_send new ≡ map to_send old ++ with_first o []
found_more old new d o more is =
    ap (map to_send) more ∙ map-append to_send old (d ∷ []) ∙ ap (λ q. map to_send old ++ with_first q []) is

-- whether a gateway sends one, as the code sees them
pub sends_shown : (gateway : ℕ) (ds : List Downlink) → list_any (λ d. d.candidate.gateway == gateway) ds ≡ sends gateway (map to_send ds)
sends_shown gateway [] = refl
sends_shown gateway (d ∷ ds) = ap (λ b. (d.candidate.gateway == gateway) || b) (sends_shown gateway ds)

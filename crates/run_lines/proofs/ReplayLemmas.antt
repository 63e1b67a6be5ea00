-- The text of a replay.
use Rattle.std.proofs.Common.{◌≡◌, ℕ, Bool, false, ◌||◌, List, [], ◌∷◌, ◌++◌, map, Some, Vec, codes, refl, sym, ap}
use Rattle.std.proofs.Common.{◌∙◌, append_assoc}
use Rattle.std.specs.List.{flat_map, list_any}
use Rattle.std.proofs.Math.Bool.{or-false}
use Rattle.std.proofs.lemmas.List.{map-append}
use Rattle.std.proofs.lemmas.List.Concat.{flat_map-append}
use Rattle.std.proofs.lemmas.List.Folds.{list_any-append}
use Rattle.text_lines.specs.Line.{text_of, text_of-append}
use Rattle.server_core.specs.declared.entry.Entry.{Entry}
use Rattle.server_core.specs.World.{Gateway}
use Rattle.text_words.specs.Words.{is_refusal, spaced, has_refusal}
use Rattle.run_lines.specs.EntryLine.{line_text}
use Rattle.run_lines.specs.declared.uplink_counts.UplinkCounts.{UplinkCounts}
use Rattle.run_lines.specs.UplinkCounts.{counts_of, counts_text}
use Rattle.run_lines.specs.ReplayText.{by_id, gateway_lines, bytes_of, entry_lines, report_of, report_lines}
use Rattle.run_lines.specs.ReplayText.{replay_lines}
use Rattle.text_words.specs.Busiest.{busiest-refuses_nothing}
use Rattle.run_lines.proofs.GatewayLemmas.{gateways_text}

-- the text of the lines that answer events
abbrev pub entries_text : {A : Type 0} → List (Entry A) → List ℕ
entries_text entries = text_of (entry_lines entries)

pub entries-append : {A : Type 0} (xs ys : List (Entry A)) → entries_text (xs ++ ys) ≡ entries_text xs ++ entries_text ys
entries-append xs ys =
    ap text_of (map-append (λ e. line_text e.line) xs ys) ∙ text_of-append (entry_lines xs) (entry_lines ys)

pub bytes-append : {A : Type 0} (xs ys : List (Vec ℕ A)) → bytes_of (xs ++ ys) ≡ bytes_of xs ++ bytes_of ys
bytes-append xs ys = flat_map-append (λ text. text.items) xs ys

-- the last line is put together word by word
pub counts-parts : (a u s : List ℕ) → (((((codes "answered" ++ (32 ∷ a)) ++ (32 ∷ codes "unanswered")) ++ (32 ∷ u))
    ++ (32 ∷ codes "silent")) ++ (32 ∷ s)) ++ (10 ∷ []) ≡ spaced
    (codes "answered" ∷ a ∷ codes "unanswered" ∷ u ∷ codes "silent" ∷ s ∷ []) ++ (10 ∷ [])
counts-parts a u s = simp append_assoc

-- the text of a report is that of the gateways and of the last line
pub report-parts : (counts : UplinkCounts) (gateways : List Gateway)
    → text_of (report_of counts gateways) ≡ gateways_text (by_id gateways) ++ text_of (counts_text counts ∷ [])
report-parts counts gateways = text_of-append (flat_map gateway_lines (by_id gateways)) (counts_text counts ∷ [])

-- the whole text is that of the answers and of the report
pub replay-parts : {A : Type 0} (entries : List (Entry A)) (gateways : List Gateway)
    → text_of (replay_lines entries gateways) ≡ entries_text entries ++ text_of (report_of (counts_of entries) gateways)
replay-parts entries gateways = text_of-append (entry_lines entries) (report_of (counts_of entries) gateways)

list_any-map : {X Y : Type 0} (test : Y → Bool) (f : X → Y) (xs : List X)
    → list_any test (map f xs) ≡ list_any (λ x. test (f x)) xs
list_any-map test f [] = refl
list_any-map test f (x ∷ xs) = ap (λ t. test (f x) || t) (list_any-map test f xs)

gateway_refuses_nothing : (g : Gateway) → has_refusal (gateway_lines g) ≡ false
gateway_refuses_nothing g = busiest-refuses_nothing (Some g.id) g.state.list

-- no line of the gateways' reports begins with `no` or `bad`, nor does the last line
report_refuses_nothing : (gateways : List Gateway) (last : List (List ℕ)) → has_refusal last ≡ false
    → has_refusal (flat_map gateway_lines gateways ++ last) ≡ false
report_refuses_nothing [] last h = h
report_refuses_nothing (g ∷ gateways) last h =
    ap has_refusal (append_assoc (gateway_lines g) (flat_map gateway_lines gateways) last)
    ∙ list_any-append is_refusal (gateway_lines g) (flat_map gateway_lines gateways ++ last)
    ∙ ap (λ t. t || has_refusal (flat_map gateway_lines gateways ++ last)) (gateway_refuses_nothing g)
    ∙ report_refuses_nothing gateways last h

pub plain_report : (counts : UplinkCounts) (gateways : List Gateway) → has_refusal (report_of counts gateways) ≡ false
plain_report counts gateways = report_refuses_nothing (by_id gateways) (counts_text counts ∷ []) refl

pub refuses-entries_alone : {A : Type 0} (entries : List (Entry A))
    → list_any (λ e. is_refusal (line_text e.line)) entries ≡ has_refusal (entry_lines entries)
refuses-entries_alone entries = sym (list_any-map is_refusal (λ e. line_text e.line) entries)

pub refuses-entries : {A : Type 0} (entries : List (Entry A)) (gateways : List Gateway)
    → list_any (λ e. is_refusal (line_text e.line)) entries ≡ has_refusal (replay_lines entries gateways)
refuses-entries entries gateways = sym (
    list_any-append is_refusal (entry_lines entries) (report_lines entries gateways)
    ∙ ap (λ t. has_refusal (entry_lines entries) || t) (plain_report (counts_of entries) gateways)
    ∙ or-false (has_refusal (entry_lines entries))
    ∙ list_any-map is_refusal (λ e. line_text e.line) entries
    )

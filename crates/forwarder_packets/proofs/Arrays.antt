use Rattle.std.proofs.Common.{arith, ℕ, zero, suc, ◌≡◌, ◌-◌, min, Bool, true, false, List, [], ◌∷◌, ◌++◌, length, take, drop, map, ap, sym, refl, ◌∙◌}
use Rattle.std.specs.Prelude.{if◌then◌else◌, Err}
use Rattle.std.specs.Str.{IsUtf8, is_utf8}
use Rattle.std.proofs.lemmas.Str.{is_utf8-from_IsUtf8, IsUtf8-from_is_utf8}
use Rattle.std.proofs.lemmas.List.{take_min, take_all, take-map, drop-map, length-drop}
use Rattle.std.proofs.Math.ListN.{drop_of_length-le}
use Rattle.json.specs.Json.{Json, document}
use Rattle.json.specs.Value.{items_of}
use Rattle.forwarder_packets.specs.Entry.{entry_of}
use Rattle.forwarder_packets.specs.Entries.{without_ghosts, too_many, entries_of, list_of, of_document, packets_of}
use Rattle.forwarder_packets.specs.declared.entries.PushFault.TheVariants.{Json as NoJson}

-- An array's packets are read: the first of them, without the ghosts, and then the others.

drop_min : {X : Type 0} (n : ℕ) (xs : List X) → drop (min n (length xs)) xs ≡ drop n xs
drop_min zero xs = let e : min 0 (length xs) ≡ 0 = omega arith in ap (λ j. drop j xs) e
drop_min (suc n) [] = drop_of_length-le [] (omega arith)
drop_min (suc n) (x ∷ xs) =
    let e : min (suc n) (suc (length xs)) ≡ suc (min n (length xs)) = omega arith in
    ap (λ j. drop j (x ∷ xs)) e ∙ drop_min n xs

-- what stands behind the first of them, to the end
pub rest_whole : {X : Type 0} (n : ℕ) (xs : List X) → take (length xs - n) (drop n xs) ≡ drop n xs
rest_whole n xs = take_all (length xs - n) (drop n xs) (omega (arith, length-drop n xs))

pub list_back : (js : List Json) → list_of (items_of js) ≡ js
list_back [] = refl
list_back (j ∷ js) = ap (λ l. j ∷ l) (list_back js)

pub packets_told : {X : Type 0} (view : X → Json) (items : List X) (count : ℕ) → count ≡ min 32 (length items)
    → without_ghosts (map entry_of (map view (take count items)))
    ++ map too_many (map view (take (length items - count) (drop count items)))
    ≡ entries_of (map view items)
packets_told view items count counted =
    let js = map view items in
    let first : map entry_of (map view (take count items)) ≡ map entry_of (take 32 js) =
    ap (λ n. map entry_of (map view (take n items))) counted
    ∙ ap (λ l. map entry_of (map view l)) (take_min 32 items) ∙ ap (map entry_of) (sym (take-map view 32 items)) in
    let others : map too_many (map view (take (length items - count) (drop count items))) ≡ map too_many (drop 32 js) =
    ap (λ l. map too_many (map view l)) (rest_whole count items)
    ∙ ap (λ n. map too_many (map view (drop n items))) counted
    ∙ ap (λ l. map too_many (map view l)) (drop_min 32 items) ∙ ap (map too_many) (sym (drop-map view 32 items)) in
    ap (λ l. without_ghosts l ++ map too_many (map view (take (length items - count) (drop count items)))) first
    ∙ ap (λ l. without_ghosts (map entry_of (take 32 js)) ++ l) others

-- bytes are a text, or none

pub packets_of-text : (bytes : List ℕ) → IsUtf8 bytes → packets_of bytes ≡ of_document (document bytes)
packets_of-text bytes h = ap (λ (t : Bool). if t then of_document (document bytes) else Err NoJson) (is_utf8-from_IsUtf8 bytes h)

by_test : (bytes : List ℕ) (t : Bool) → is_utf8 bytes ≡ t → ¬ (IsUtf8 bytes) → packets_of bytes ≡ Err NoJson
by_test bytes true e h = absurd (h (IsUtf8-from_is_utf8 bytes e))
by_test bytes false e h = ap (λ (t : Bool). if t then of_document (document bytes) else Err NoJson) e

pub packets_of-other : (bytes : List ℕ) → ¬ (IsUtf8 bytes) → packets_of bytes ≡ Err NoJson
packets_of-other bytes h = by_test bytes (is_utf8 bytes) refl h

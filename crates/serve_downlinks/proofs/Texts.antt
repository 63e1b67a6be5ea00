-- The text of some entries and then of others.
use Rattle.std.proofs.Common.{◌≡◌, ◌++◌, ◌<◌, ◌+◌, ◌∙◌, List, [], ◌∷◌, ℕ, ap, append_assoc, get_or, length, map, sym, take, Result, Ok, Err, true, false, cond, ◌==◌, append-nil}
use Rattle.std.specs.Prelude.{OnOk}
use Rattle.std.specs.List.{flat_map, list_any}
use Rattle.std.proofs.lemmas.List.{map-append, take_more, flat_map_more}
use Rattle.text_lines.specs.Line.{text_of, text_of-append}
use Rattle.gateway_book.specs.Book.{Book}
use Rattle.gateway_clock.specs.Clock.{line}
use Rattle.forwarder_sessions.specs.declared.session.Forwarder.{Forwarder}
use Rattle.forwarder_sessions.specs.Sessions.{Known}
use Rattle.serve_downlinks.specs.declared.downlink.Downlink.{Downlink}
use Rattle.serve_downlinks.specs.Downlinks.{ToSend, to_send}
use Rattle.serve_journal.specs.declared.entry.Entry.{Entry}
use Rattle.serve_journal.specs.declared.entry.Entry.TheVariants as says
use Rattle.serve_journal.specs.EntryText.{entry_text}
use Rattle.serve_journal.specs.Lines.{end_line}
use Rattle.serve_downlinks.specs.Batch.{floor_of, clock_of, clock_if_sends, entries_text, batch_text}
use Rattle.serve_downlinks.proofs.Found.{sends_shown}

pub entries_text-append : (front rest : List Entry) → entries_text (front ++ rest) ≡ entries_text front ++ entries_text rest
entries_text-append front rest =
    ap text_of (map-append entry_text front rest) ∙ text_of-append (map entry_text front) (map entry_text rest)

-- the entries for one element more
pub entries_more : {X : Type 0} (f : X → List Entry) (xs : List X) (i : ℕ) (x : X) → i < length xs → x ≡ get_or xs i x
    → flat_map f (take (i + 1) xs) ≡ flat_map f (take i xs) ++ f x
entries_more f xs i x within is =
    ap (flat_map f) (take_more xs i x within ∙ ap (λ y. take i xs ++ y ∷ []) (sym is))
    ∙ sym (flat_map_more f [] (take i xs) x)

pub texts_next : {X : Type 0} (f : X → List Entry) (before now after : List ℕ) (xs : List X) (i : ℕ) (x : X) → i < length xs
    → x ≡ get_or xs i x → now ≡ before ++ entries_text (flat_map f (take i xs)) → after ≡ now ++ entries_text (f x)
    → after ≡ before ++ entries_text (flat_map f (take (i + 1) xs))
texts_next f before now after xs i x within is so_far next =
    next
    ∙ ap (λ l. l ++ entries_text (f x)) so_far
    ∙ append_assoc before (entries_text (flat_map f (take i xs))) (entries_text (f x))
    ∙ ap (λ l. before ++ l) (sym (entries_text-append (flat_map f (take i xs)) (f x)))
    ∙ ap (λ l. before ++ entries_text l) (sym (entries_more f xs i x within is))

-- what was added to a text, and then more
pub texts_join : {T E : Type 0} (r : Result T E) (before between after : List ℕ) (first second : List Entry)
    → between ≡ before ++ entries_text first → OnOk r (after ≡ between ++ entries_text second)
    → OnOk r (after ≡ before ++ entries_text (first ++ second))
texts_join (Err e) before between after first second one two = tt
texts_join (Ok v) before between after first second one two =
    two
    ∙ ap (λ l. l ++ entries_text second) one
    ∙ append_assoc before (entries_text first) (entries_text second)
    ∙ ap (λ l. before ++ l) (sym (entries_text-append first second))

-- the text of a batch, part by part
pub batch_whole : (empty clocks sent whole : List ℕ) (first second : List Entry) → empty ≡ [] → clocks ≡ empty ++ entries_text first
    → sent ≡ clocks ++ entries_text second → whole ≡ sent ++ 46 ∷ 10 ∷ [] → whole ≡ batch_text (first ++ second)
batch_whole empty clocks sent whole first second none one two end =
    end
    ∙ ap (λ l. l ++ 46 ∷ 10 ∷ []) (two ∙ ap (λ l. l ++ entries_text second) (one ∙ ap (λ l. l ++ entries_text first) none)
    ∙ sym (entries_text-append first second))
    ∙ sym (text_of-append (map entry_text (first ++ second)) (end_line ∷ []))

-- the same of downlinks as the code sees them
pub texts_at : (g : ToSend → List Entry) (before now after : List ℕ) (ds : List Downlink) (i : ℕ) (d : Downlink) → i < length ds
    → now ≡ before ++ entries_text (flat_map g (map to_send (take i ds)))
    → after ≡ now ++ entries_text (g (to_send (get_or ds i d)))
    → after ≡ before ++ entries_text (flat_map g (map to_send (take (i + 1) ds)))
texts_at g before now after ds i d within so_far next =
    next
    ∙ ap (λ l. l ++ entries_text (g (to_send (get_or ds i d)))) so_far
    ∙ append_assoc before (entries_text (flat_map g (map to_send (take i ds)))) (entries_text (g (to_send (get_or ds i d))))
    ∙ ap (λ l. before ++ l)
    (sym (entries_text-append (flat_map g (map to_send (take i ds))) (g (to_send (get_or ds i d)))))
    ∙ ap (λ l. before ++ entries_text l)
    (flat_map_more g [] (map to_send (take i ds)) (to_send (get_or ds i d))
    ∙ ap (flat_map g) (sym (map-append to_send (take i ds) (get_or ds i d ∷ [])) ∙ ap (map to_send) (sym (take_more ds i d within))))

-- a gateway that sends none of these has no clock, and one that does has one
pub no_clock : (before : List ℕ) (now : ℕ) (books : List Book) (ds : List Downlink) (f : Known)
    → list_any (λ d. d.candidate.gateway == f.forwarder.gateway) ds ≡ false
    → before ≡ before ++ entries_text (clock_if_sends now books (map to_send ds) f)
no_clock before now books ds f none =
    sym (append-nil before)
    ∙ ap (λ b. before ++ entries_text (cond b (clock_of now books f ∷ []) []))
    (sym none ∙ sends_shown f.forwarder.gateway ds)

pub a_clock : {T E : Type 0} (r : Result T E) (before after : List ℕ) (now : ℕ) (books : List Book) (ds : List Downlink) (f : Known)
    (e : Entry) → list_any (λ d. d.candidate.gateway == f.forwarder.gateway) ds ≡ true → e ≡ clock_of now books f
    → OnOk r (after ≡ before ++ entries_text (e ∷ []))
    → OnOk r (after ≡ before ++ entries_text (clock_if_sends now books (map to_send ds) f))
a_clock (Err fault) before after now books ds f e some is added = tt
a_clock (Ok v) before after now books ds f e some is added =
    added
    ∙ ap (λ x. before ++ entries_text (x ∷ [])) is
    ∙ ap (λ b. before ++ entries_text (cond b (clock_of now books f ∷ []) []))
    (sym some ∙ sends_shown f.forwarder.gateway ds)

-- a clock by what the code found
pub clock_same : (now : ℕ) (books : List Book) (f : Known) (w : Forwarder) (high floor : ℕ) → w ≡ f.forwarder
    → high ≡ line f.clock now → floor ≡ floor_of w.gateway books → says.Clock w.gateway high floor ≡ clock_of now books f
clock_same now books f w high floor e h l =
    ap (λ x. says.Clock w.gateway x floor) h
    ∙ ap (λ x. says.Clock w.gateway (line f.clock now) x) l
    ∙ ap (λ v. says.Clock v.gateway (line f.clock now) (floor_of v.gateway books)) e

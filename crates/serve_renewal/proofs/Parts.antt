-- The parts of a journal that is written anew.
use Rattle.std.proofs.Common.{◌≡◌, ◌++◌, ◌<◌, ◌+◌, ◌∙◌, List, [], ◌∷◌, ℕ, Option, Some, None, ap, append_assoc, append-nil, get_or, length, map, refl, sym, take}
use Rattle.std.specs.List.{flat_map}
use Rattle.std.proofs.lemmas.List.{map-append, take_more, flat_map_more}
use Rattle.resv_list.specs.declared.reservation.Reservation.{Reservation}
use Rattle.gateway_book.specs.Book.{Book}
use Rattle.answer_ticket.specs.Job.{Payload}
use Rattle.forwarder_sessions.specs.Sessions.{Known}
use Rattle.server_desk.specs.Register.{Device, device_with, waiting_for}
use Rattle.serve_journal.specs.declared.entry.Entry.{Entry}
use Rattle.serve_journal.specs.declared.entry.Entry.TheVariants.{Queue}
use Rattle.serve_journal.specs.Payload.{Waiting}
use Rattle.serve_journal.specs.Renewal as says
use Rattle.serve_journal.specs.Renewal.{head_line, sent_entry}
use Rattle.serve_journal.specs.Lines.{end_line}
use Rattle.serve_downlinks.specs.Batch.{Knows, book_of, entries_text}
use Rattle.serve_downlinks.proofs.Texts.{entries_text-append}
use Rattle.serve_renewal.specs.State.{mast_with, mast_of, waiting_of, node_with, node_of, state_of, gateway_entries, book_entries, clock_entries, device_entries, queue_entries, payload_entries}

-- one element more, whatever stands for none
pub texts_get : {X : Type 0} (f : X → List Entry) (before now after : List ℕ) (xs : List X) (i : ℕ) (d : X) → i < length xs
    → now ≡ before ++ entries_text (flat_map f (take i xs)) → after ≡ now ++ entries_text (f (get_or xs i d))
    → after ≡ before ++ entries_text (flat_map f (take (i + 1) xs))
texts_get f before now after xs i d within so_far next =
    next
    ∙ ap (λ l. l ++ entries_text (f (get_or xs i d))) so_far
    ∙ append_assoc before (entries_text (flat_map f (take i xs))) (entries_text (f (get_or xs i d)))
    ∙ ap (λ l. before ++ l) (sym (entries_text-append (flat_map f (take i xs)) (f (get_or xs i d))))
    ∙ ap (λ l. before ++ entries_text l)
    (flat_map_more f [] (take i xs) (get_or xs i d) ∙ ap (flat_map f) (sym (take_more xs i d within)))

-- one list upon the other

flat_map-append : {X Y : Type 0} (f : X → List Y) (xs ys : List X) → flat_map f (xs ++ ys) ≡ flat_map f xs ++ flat_map f ys
flat_map-append f [] ys = refl
flat_map-append f (x ∷ xs) ys =
    ap (λ l. f x ++ l) (flat_map-append f xs ys) ∙ sym (append_assoc (f x) (flat_map f xs) (flat_map f ys))

pub map_flat : {X Y Z : Type 0} (f : X → List Y) (g : Y → Z) (xs : List X)
    → map g (flat_map f xs) ≡ flat_map (λ x. map g (f x)) xs
map_flat f g [] = refl
map_flat f g (x ∷ xs) = map-append g (f x) (flat_map f xs) ∙ ap (λ l. map g (f x) ++ l) (map_flat f g xs)

pub flat_flat : {X Y Z : Type 0} (f : X → List Y) (g : Y → List Z) (xs : List X)
    → flat_map g (flat_map f xs) ≡ flat_map (λ x. flat_map g (f x)) xs
flat_flat f g [] = refl
flat_flat f g (x ∷ xs) = flat_map-append g (f x) (flat_map f xs) ∙ ap (λ l. flat_map g (f x) ++ l) (flat_flat f g xs)

pub flat_same : {X Y : Type 0} (f g : X → List Y) (xs : List X) → ((x : X) → f x ≡ g x) → flat_map f xs ≡ flat_map g xs
flat_same f g [] same = refl
flat_same f g (x ∷ xs) same = ap (λ l. l ++ flat_map f xs) (same x) ∙ ap (λ l. g x ++ l) (flat_same f g xs same)

-- what waits for one device

queue_with : (known : ℕ × List ℕ) (o : Option (ℕ × Device))
    → flat_map (payload_entries known.0) (waiting_for o) ≡ flat_map says.queue_entries (node_with known o)
queue_with known None = refl
queue_with known (Some found) =
    sym (map_flat waiting_of (Queue known.0) found.1.queue)
    ∙ sym (append-nil (map (Queue known.0) (flat_map waiting_of found.1.queue)))

pub queue_whole : (devices : List Device) (known : ℕ × List ℕ)
    → flat_map (payload_entries known.0) (waiting_for (device_with known.0 devices)) ≡ queue_entries devices known
queue_whole devices known = queue_with known (device_with known.0 devices)

pub queue_next : (devices : List Device) (before now after : List ℕ) (all : List (ℕ × List ℕ)) (i : ℕ) (d : ℕ × List ℕ)
    (waiting : List Payload) → i < length all → now ≡ before ++ entries_text (flat_map (queue_entries devices) (take i all))
    → waiting ≡ waiting_for (device_with (get_or all i d).0 devices)
    → after ≡ now ++ entries_text (flat_map (payload_entries (get_or all i d).0) waiting)
    → after ≡ before ++ entries_text (flat_map (queue_entries devices) (take (i + 1) all))
queue_next devices before now after all i d waiting within so_far waits next =
    texts_get (queue_entries devices) before now after all i d within so_far
    (next
    ∙ ap (λ ps. now ++ entries_text (flat_map (payload_entries (get_or all i d).0) ps)) waits
    ∙ ap (λ es. now ++ entries_text es) (queue_whole devices (get_or all i d)))

-- one transmission more
pub member_added : (gateway : ℕ) (now after before : List ℕ) (m : Reservation) (rest more whole : List Reservation) (e : Entry)
    → rest ≡ m ∷ more → e ≡ sent_entry gateway m → after ≡ now ++ entries_text (e ∷ [])
    → now ++ entries_text (map (sent_entry gateway) rest) ≡ before ++ entries_text (map (sent_entry gateway) whole)
    → after ++ entries_text (map (sent_entry gateway) more) ≡ before ++ entries_text (map (sent_entry gateway) whole)
member_added gateway now after before m rest more whole e front is added so_far =
    ap (λ l. l ++ entries_text (map (sent_entry gateway) more)) (added ∙ ap (λ x. now ++ entries_text (x ∷ [])) is)
    ∙ append_assoc now (entries_text (sent_entry gateway m ∷ [])) (entries_text (map (sent_entry gateway) more))
    ∙ ap (λ l. now ++ l) (sym (entries_text-append (sent_entry gateway m ∷ []) (map (sent_entry gateway) more)))
    ∙ ap (λ l. now ++ entries_text (map (sent_entry gateway) l)) (sym front)
    ∙ so_far

-- the parts of the whole text

gateways_with : (now : ℕ) (f : Known) (o : Option Book)
    → map says.gateway_entry (mast_with 0 f o) ≡ map says.gateway_entry (mast_with now f o)
gateways_with now f None = refl
gateways_with now f (Some b) = refl

books_with : (now : ℕ) (f : Known) (o : Option Book)
    → flat_map says.sent_entries (mast_with 0 f o) ≡ flat_map says.sent_entries (mast_with now f o)
books_with now f None = refl
books_with now f (Some b) = refl

gateways_part : (k : Knows) → flat_map (gateway_entries k.books) k.forwarders ≡ map says.gateway_entry (state_of k).gateways
gateways_part k =
    flat_same (gateway_entries k.books) (λ f. map says.gateway_entry (mast_of k.now k.books f)) k.forwarders
    (λ f. gateways_with k.now f (book_of f.forwarder.gateway k.books))
    ∙ sym (map_flat (mast_of k.now k.books) says.gateway_entry k.forwarders)

books_part : (k : Knows) → flat_map (book_entries k.books) k.forwarders ≡ flat_map says.sent_entries (state_of k).gateways
books_part k =
    flat_same (book_entries k.books) (λ f. flat_map says.sent_entries (mast_of k.now k.books f)) k.forwarders
    (λ f. books_with k.now f (book_of f.forwarder.gateway k.books))
    ∙ sym (flat_flat (mast_of k.now k.books) says.sent_entries k.forwarders)

-- two parts as one
two_texts : (before : List ℕ) (first second : List Entry)
    → (before ++ entries_text first) ++ entries_text second ≡ before ++ entries_text (first ++ second)
two_texts before first second =
    append_assoc before (entries_text first) (entries_text second)
    ∙ ap (λ l. before ++ l) (sym (entries_text-append first second))

ended : (all : List Entry) → ((head_line ++ 10 ∷ []) ++ entries_text all) ++ (end_line ++ 10 ∷ [])
    ≡ head_line ++ (10 ∷ (entries_text all ++ (end_line ++ 10 ∷ [])))
ended all =
    append_assoc (head_line ++ 10 ∷ []) (entries_text all) (end_line ++ 10 ∷ [])
    ∙ append_assoc head_line (10 ∷ []) (entries_text all ++ (end_line ++ 10 ∷ []))

joined : (a b c d e : List Entry)
    → ((((((head_line ++ 10 ∷ []) ++ entries_text a) ++ entries_text b) ++ entries_text c) ++ entries_text d) ++ entries_text e)
    ++ (end_line ++ 10 ∷ [])
    ≡ head_line ++ (10 ∷ (entries_text (a ++ (b ++ (c ++ (d ++ e)))) ++ (end_line ++ 10 ∷ [])))
joined a b c d e =
    let h = head_line ++ 10 ∷ [] in
    ap (λ l. l ++ (end_line ++ 10 ∷ []))
    (two_texts (((h ++ entries_text a) ++ entries_text b) ++ entries_text c) d e
    ∙ two_texts ((h ++ entries_text a) ++ entries_text b) c (d ++ e)
    ∙ two_texts (h ++ entries_text a) b (c ++ (d ++ e))
    ∙ two_texts h a (b ++ (c ++ (d ++ e))))
    ∙ ended (a ++ (b ++ (c ++ (d ++ e))))

-- all of them, one behind the other
pub whole_text : (k : Knows) (head one two three four five whole : List ℕ) → head ≡ head_line ++ 10 ∷ []
    → one ≡ head ++ entries_text (flat_map (gateway_entries k.books) k.forwarders)
    → two ≡ one ++ entries_text (flat_map (device_entries k.devices) k.sessions)
    → three ≡ two ++ entries_text (flat_map (queue_entries k.devices) k.sessions)
    → four ≡ three ++ entries_text (flat_map (book_entries k.books) k.forwarders)
    → five ≡ four ++ entries_text (flat_map (clock_entries k.now k.books) k.forwarders)
    → whole ≡ five ++ (end_line ++ 10 ∷ []) → whole ≡ says.renewal_text (state_of k)
whole_text k head one two three four five whole h a b c d e end =
    let j = state_of k in
    let s1 = map says.gateway_entry j.gateways in
    let s2 = map says.device_entry j.devices in
    let s3 = flat_map says.queue_entries j.devices in
    let s4 = flat_map says.sent_entries j.gateways in
    let s5 = map says.clock_entry j.gateways in
    let e1 = a ∙ ap (λ l. l ++ entries_text (flat_map (gateway_entries k.books) k.forwarders)) h
    ∙ ap (λ l. (head_line ++ 10 ∷ []) ++ entries_text l) (gateways_part k) in
    let e2 = b ∙ ap (λ l. l ++ entries_text (flat_map (device_entries k.devices) k.sessions)) e1
    ∙ ap (λ l. ((head_line ++ 10 ∷ []) ++ entries_text s1) ++ entries_text l)
    (sym (map_flat (node_of k.devices) says.device_entry k.sessions)) in
    let e3 = c ∙ ap (λ l. l ++ entries_text (flat_map (queue_entries k.devices) k.sessions)) e2
    ∙ ap (λ l. (((head_line ++ 10 ∷ []) ++ entries_text s1) ++ entries_text s2) ++ entries_text l)
    (sym (flat_flat (node_of k.devices) says.queue_entries k.sessions)) in
    let e4 = d ∙ ap (λ l. l ++ entries_text (flat_map (book_entries k.books) k.forwarders)) e3
    ∙ ap (λ l. ((((head_line ++ 10 ∷ []) ++ entries_text s1) ++ entries_text s2) ++ entries_text s3) ++ entries_text l)
    (books_part k) in
    let e5 = e ∙ ap (λ l. l ++ entries_text (flat_map (clock_entries k.now k.books) k.forwarders)) e4
    ∙ ap (λ l. (((((head_line ++ 10 ∷ []) ++ entries_text s1) ++ entries_text s2) ++ entries_text s3) ++ entries_text s4) ++ entries_text l)
    (sym (map_flat (mast_of k.now k.books) says.clock_entry k.forwarders)) in
    end ∙ ap (λ l. l ++ (end_line ++ 10 ∷ [])) e5 ∙ joined s1 s2 s3 s4 s5

-- What a server knows, by its books and by what the world has.
use Rattle.std.proofs.Common.{◌≡◌, ◌∙◌, ◌==◌, ◌++◌, Bool, true, false, List, [], ◌∷◌, ℕ, Option, Some, ap, map, refl, sym}
use Rattle.std.specs.List.{flat_map}
use Rattle.gateway_book.specs.Book.{Book}
use Rattle.forwarder_sessions.specs.Sessions.{Known}
use Rattle.server_core.specs.Server.{seen, AreBooksOf, IsBookOf}
use Rattle.server_desk.specs.Desk.{DeskView}
use Rattle.server_desk.specs.World.{Gateway}
use Rattle.serve_journal.specs.declared.entry.Entry.{Entry}
use Rattle.serve_journal.specs.Renewal.{renewal_text, gateway_entry, sent_entries, clock_entry, entries_text, head_line, device_entry, queue_entries}
use Rattle.serve_journal.specs.Lines.{end_line}
use Rattle.serve_downlinks.specs.Downlinks.{ToSend}
use Rattle.serve_downlinks.specs.Batch.{Knows, knows, batch_entries, batch_text, book_of, clock_if_sends, floor_of, floor_in, send_entries}
use Rattle.serve_renewal.specs.State.{mast_of, mast_with, state_of, node_of}
use Rattle.serve_renewal.proofs.Parts.{map_flat, flat_flat, flat_same}
use Rattle.serve_turns.specs.declared.answerer.Answerer.{Answerer}
use Rattle.serve_turns.specs.Kept.{Kept}
use Rattle.serve_turns.specs.Life.{Life, IsAlive}
use Rattle.serve_turns.specs.Sending.{book_kept, known_then, batch_for}
use Rattle.serve_turns.specs.Renewing.{journal_at}

-- how much a book has retired is not asked for
abbrev pub unretired : Book → Book
unretired b = record b { retired = 0 }

one_kept : (b : Book) (g : Gateway) → IsBookOf b g → unretired b ≡ book_kept g
one_kept b g is =
    rw (is.id, is.rules, is.remembers.floor, is.remembers.list, is.remembers.booked, is.remembers.cancelled) refl

all_kept : (bs : List Book) (gs : List Gateway) → AreBooksOf bs gs → map unretired bs ≡ map book_kept gs
all_kept [] [] are = refl
all_kept [] (g ∷ gs) are = absurd are
all_kept (b ∷ bs) [] are = absurd are
all_kept (b ∷ bs) (g ∷ gs) are =
    ap (λ x. x ∷ map unretired bs) (one_kept b g are.0) ∙ ap (λ l. book_kept g ∷ l) (all_kept bs gs are.1)

module _ (now : ℕ) where
  -- what is said of a gateway by a book says nothing of what that has retired
  module _ {X : Type 0} (says : Option Book → X) (same : (b : Book) → says (Some b) ≡ says (Some (unretired b))) where
    found : (id : ℕ) (b : Book) (bs : List Book) (t : Bool) → b.id == id ≡ t
        → says (book_of id bs) ≡ says (book_of id (map unretired bs))
        → says (book_of id (b ∷ bs)) ≡ says (book_of id (unretired b ∷ map unretired bs))
    found id b bs true is more = rw is (same b)
    found id b bs false is more = rw is more

    pub says_same : (id : ℕ) (bs : List Book) → says (book_of id bs) ≡ says (book_of id (map unretired bs))
    says_same id [] = refl
    says_same id (b ∷ bs) = found id b bs (b.id == id) refl (says_same id bs)

  floors_same : (bs : List Book) (gs : List Gateway) (id : ℕ) → AreBooksOf bs gs → floor_of id bs ≡ floor_of id (map book_kept gs)
  floors_same bs gs id are = says_same floor_in (λ b. refl) id bs ∙ ap (floor_of id) (all_kept bs gs are)

  clocks_same : (bs : List Book) (gs : List Gateway) (ds : List ToSend) (f : Known) → AreBooksOf bs gs
      → clock_if_sends now bs ds f ≡ clock_if_sends now (map book_kept gs) ds f
  clocks_same bs gs ds f are = rw (floors_same bs gs f.forwarder.gateway are) refl

  -- a part of a whole journal
  masts_same : (of_one : Known → Option Book → List Entry) → ((f : Known) (b : Book) → of_one f (Some b) ≡ of_one f (Some (unretired b))) → (bs : List Book) (gs : List Gateway)
      → AreBooksOf bs gs → (fs : List Known)
      → flat_map (λ f. of_one f (book_of f.forwarder.gateway bs)) fs
      ≡ flat_map (λ f. of_one f (book_of f.forwarder.gateway (map book_kept gs))) fs
  masts_same of_one same bs gs are fs =
      flat_same _ _ fs
      (λ f. says_same (of_one f) (same f) f.forwarder.gateway bs
      ∙ ap (λ l. of_one f (book_of f.forwarder.gateway l)) (all_kept bs gs are))

-- what a server knows is what it knows by its life
module _ {S A R : Type 0} {C : _} (a : Answerer S A R C) (k : Kept) (now : ℕ) (l : Life) (alive : IsAlive l a) where
  devices_same : (seen a.server).desk.reg.devices ≡ l.world.reg.devices
  devices_same = ap (λ (d : DeskView). d.reg.devices) alive.at.desk

  abbrev known_here : Knows
  known_here = knows (seen a.server) a.forwarders.sessions.items k.sessions now

  entries_same : (ds : List ToSend) → batch_entries known_here ds ≡ batch_entries (known_then k now l) ds
  entries_same ds =
      let bs = (seen a.server).books in
      let kept_books = map book_kept l.world.gateways in
      ap (λ fs. flat_map (clock_if_sends now bs ds) fs
      ++ flat_map (send_entries (seen a.server).desk.reg.devices k.sessions) ds) alive.known
      ∙ ap (λ vs. flat_map (clock_if_sends now bs ds) l.known ++ flat_map (send_entries vs k.sessions) ds) devices_same
      ∙ ap (λ cs. cs ++ flat_map (send_entries l.world.reg.devices k.sessions) ds)
      (flat_same (clock_if_sends now bs ds) (clock_if_sends now kept_books ds) l.known
      (λ f. clocks_same now bs l.world.gateways ds f alive.at.books))

  pub batch_same : (ds : List ToSend) → batch_text (batch_entries known_here ds) ≡ batch_for now ds k l
  batch_same ds = ap batch_text (entries_same ds)

  -- the parts of a whole journal

  gateways_same : map gateway_entry (state_of known_here).gateways ≡ map gateway_entry (state_of (known_then k now l)).gateways
  gateways_same =
      let bs = (seen a.server).books in
      ap (λ fs. map gateway_entry (flat_map (mast_of now bs) fs)) alive.known
      ∙ map_flat (mast_of now bs) gateway_entry l.known
      ∙ masts_same now (λ f o. map gateway_entry (mast_with now f o)) (λ f b. refl) bs l.world.gateways alive.at.books l.known
      ∙ sym (map_flat (mast_of now (map book_kept l.world.gateways)) gateway_entry l.known)

  books_same : flat_map sent_entries (state_of known_here).gateways ≡ flat_map sent_entries (state_of (known_then k now l)).gateways
  books_same =
      let bs = (seen a.server).books in
      ap (λ fs. flat_map sent_entries (flat_map (mast_of now bs) fs)) alive.known
      ∙ flat_flat (mast_of now bs) sent_entries l.known
      ∙ masts_same now (λ f o. flat_map sent_entries (mast_with now f o)) (λ f b. refl) bs l.world.gateways alive.at.books l.known
      ∙ sym (flat_flat (mast_of now (map book_kept l.world.gateways)) sent_entries l.known)

  clocks_all_same : map clock_entry (state_of known_here).gateways ≡ map clock_entry (state_of (known_then k now l)).gateways
  clocks_all_same =
      let bs = (seen a.server).books in
      ap (λ fs. map clock_entry (flat_map (mast_of now bs) fs)) alive.known
      ∙ map_flat (mast_of now bs) clock_entry l.known
      ∙ masts_same now (λ f o. map clock_entry (mast_with now f o)) (λ f b. refl) bs l.world.gateways alive.at.books l.known
      ∙ sym (map_flat (mast_of now (map book_kept l.world.gateways)) clock_entry l.known)

  nodes_same : (state_of known_here).devices ≡ (state_of (known_then k now l)).devices
  nodes_same = ap (λ vs. flat_map (node_of vs) k.sessions) devices_same

  pub journal_same : renewal_text (state_of known_here) ≡ journal_at now k l
  journal_same =
      let j = state_of known_here in
      let i = state_of (known_then k now l) in
      let text : List Entry → List Entry → List Entry → List Entry → List Entry → List ℕ = λ gs ds qs ss cs.
      head_line ++ (10 ∷ (entries_text (gs ++ (ds ++ (qs ++ (ss ++ cs)))) ++ (end_line ++ 10 ∷ []))) in
      ap (λ x. text x (map device_entry j.devices) (flat_map queue_entries j.devices) (flat_map sent_entries j.gateways)
      (map clock_entry j.gateways)) gateways_same
      ∙ ap (λ x. text (map gateway_entry i.gateways) (map device_entry x) (flat_map queue_entries x)
      (flat_map sent_entries j.gateways) (map clock_entry j.gateways)) nodes_same
      ∙ ap (λ x. text (map gateway_entry i.gateways) (map device_entry i.devices) (flat_map queue_entries i.devices) x
      (map clock_entry j.gateways)) books_same
      ∙ ap (λ x. text (map gateway_entry i.gateways) (map device_entry i.devices) (flat_map queue_entries i.devices)
      (flat_map sent_entries i.gateways) x) clocks_all_same

use Rattle.std.specs.Prelude.{ℕ, ◌≡◌, ◌≢◌, ◌+◌, ◌^◌, ◌<◌, ◌≤◌, ◌==◌, nat_le, Bool, true, false, ◌||◌, is_some, if◌then◌else◌}
use Rattle.std.specs.Prelude.{List, [], ◌∷◌, ◌++◌, length, map, All, AllPairs, Option, Some, None}
use Rattle.std.specs.List.{list_any, flat_map}
use Rattle.std.specs.Option.{option_map}
use Rattle.std.specs.Str.{bytes_eq}
use Rattle.std.specs.Cmp.Lexicographic.{bytes_decides}
use Rattle.std.proofs.Common.{refl, sym, ap, subst, ◌∙◌, arith, append_assoc, append-nil, get_or, length-append}
use Rattle.std.proofs.lemmas.Bool.{eq-eqb, lt-leb, ne_eqb}
use Rattle.std.proofs.lemmas.List.{length-map, map-append}
use Rattle.std.proofs.lemmas.List.Concat.{flat_map_single}
use Rattle.std.proofs.lemmas.List.Elements.{All-append, All-cons, All-map, All-nil}
use Rattle.std.proofs.lemmas.List.Folds.{list_any_none}
use Rattle.text_lines.specs.Line.{text_of, text_of-append}
use Rattle.resv_list.specs.declared.reservation.Reservation.{Reservation}
use Rattle.resv_list.specs.Reservations.{net}
use Rattle.resv_list.proofs.NetLemmas.{net-nil}
use Rattle.gateway_book.specs.Book.{IsBookList}
use Rattle.gateway_book.proofs.Rejoining.{ask_of}
use Rattle.serve_journal.specs.declared.entry.Entry.TheVariants.{Queue}
use Rattle.serve_journal.specs.EntryText.{entry_text}
use Rattle.serve_journal.specs.Journal.{Journal, Mast, Node, nothing, after_entry, at_gateway, at_device, clocked, empty_book}
use Rattle.serve_journal.specs.Journal.{first_high, most_gateways, most_devices, most_queued, new_mast, queued, sent, told}
use Rattle.serve_journal.specs.Journal.{with_new_device}
use Rattle.serve_journal.specs.LineLaws.{IsEntry}
use Rattle.serve_journal.specs.Lines.{end_line}
use Rattle.serve_journal.specs.Payload.{Waiting}
use Rattle.serve_journal.specs.Reading.{and_then, journal_of, read_batches}
use Rattle.serve_journal.specs.Renewal.{head_line, gateway_entry, device_entry, queue_entries, sent_entry, sent_entries}
use Rattle.serve_journal.specs.Renewal.{clock_entry, renewal, renewal_text}
use Rattle.serve_journal.specs.RenewalLaw.{IsRenewableGateway, IsRenewableDevice, IsRenewable, unnumbered, renewed_gateway}
use Rattle.serve_journal.specs.RenewalLaw.{renewed, RenewalReadsAsState}
use Rattle.serve_journal.specs.Torn.{journal_text}
use Rattle.serve_journal.proofs.EntrySteps.{after_entries, after_both, after_one, all_told, read_entries}
use Rattle.serve_journal.proofs.KeyedLemmas.{all_between, pairs_between, map_twice, changed_between, none_of_images, all_flat_map}
use Rattle.serve_journal.proofs.Rebooking.{book_with, booked_behind, rules_open, sunk, ticked_whole, unnumbered_book_list}
use Rattle.serve_journal.proofs.TornReading.{read_alone}

-- What each part of a renewal makes of what was read before it, and what the whole is read as.

eui_differs : (a b : List ℕ) (t : Bool) → bytes_eq a b ≡ t → a ≢ b → t ≡ false
eui_differs a b true e n = absurd (n ((bytes_decides a b).0 e))
eui_differs a b false e n = refl

-- one gateway of a list is changed, or one device
module _ (before after : List Mast) (devices : List Node) where
  abbrev with_mast : Mast → Journal
  with_mast m = record { gateways = before ++ m ∷ after; devices = devices }

  at_mast : (id : ℕ) (change : Mast → Option Mast) (m : Mast) → All (λ n. n.id ≢ id) before → m.id ≡ id
      → at_gateway id change (with_mast m) ≡ option_map with_mast (change m)
  at_mast id change m others own =
      let none = list_any_none (λ n. n.id == id) before (λ k d h. ne_eqb _ id (others k d h)) in
      ap (option_map (λ l. record { gateways = l; devices = devices }))
      (changed_between (λ n. n.id == id) change before m after none (eq-eqb m.id id own))
      ∙ map_twice (λ n. before ++ n ∷ after) (λ l. record { gateways = l; devices = devices }) (change m)

module _ (gateways : List Mast) (before after : List Node) where
  abbrev with_node : Node → Journal
  with_node n = record { gateways = gateways; devices = before ++ n ∷ after }

  at_node : (addr : ℕ) (change : Node → Option Node) (n : Node) → All (λ m. m.addr ≢ addr) before → n.addr ≡ addr
      → at_device addr change (with_node n) ≡ option_map with_node (change n)
  at_node addr change n others own =
      let none = list_any_none (λ m. m.addr == addr) before (λ k d h. ne_eqb _ addr (others k d h)) in
      ap (option_map (λ l. record { gateways = gateways; devices = l }))
      (changed_between (λ m. m.addr == addr) change before n after none (eq-eqb n.addr addr own))
      ∙ map_twice (λ m. before ++ m ∷ after) (λ l. record { gateways = gateways; devices = l }) (change n)

or_both : (s t : Bool) → s ≡ false → t ≡ false → (s || t) ≡ false
or_both true t e f = e
or_both false t e f = f

-- one more of them is done
shifted : {M X : Type 0} (f : M → X) (before : List M) (m : M) (after : List X)
    → map f before ++ f m ∷ after ≡ map f (before ++ m ∷ []) ++ after
shifted f before m after =
    sym (append_assoc (map f before) (f m ∷ []) after) ∙ ap (λ l. l ++ after) (sym (map-append f before (m ∷ [])))

-- a gateway that has joined, and one whose book has booked these members
abbrev joined_mast : Mast → Mast
joined_mast m = record { id = m.id; eui = m.eui; high = first_high; book = empty_book m.id m.book.rules }

abbrev mast_with : Mast → List Reservation → Mast
mast_with m l = record { id = m.id; eui = m.eui; high = first_high; book = book_with m.id m.book.rules (map unnumbered l) }

abbrev booked_mast : Mast → Mast
booked_mast m = mast_with m m.book.list

-- a device that has joined
abbrev joined_node : Node → Node
joined_node n = record n { queue = [] }

-- what is read once some of the gateways, or of the devices, have told their entries of a kind, and the others haven't

abbrev gateways_read : List Mast → List Mast → Journal
gateways_read before after = record { gateways = map joined_mast before; devices = [] }

abbrev devices_read : List Mast → List Node → List Node → Journal
devices_read gateways before after = record { gateways = map joined_mast gateways; devices = map joined_node before }

abbrev queues_read : List Mast → List Node → List Node → Journal
queues_read gateways before after = record { gateways = map joined_mast gateways; devices = before ++ map joined_node after }

abbrev books_read : List Node → List Mast → List Mast → Journal
books_read devices before after = record { gateways = map booked_mast before ++ map joined_mast after; devices = devices }

abbrev clocks_read : List Node → List Mast → List Mast → Journal
clocks_read devices before after = record { gateways = map renewed_gateway before ++ map booked_mast after; devices = devices }

-- one gateway, between those before it and those behind it
module _ (before : List Mast) (m : Mast) (after : List Mast) (is : IsRenewableGateway m) (ids : All (λ n. n.id ≢ m.id) before) where
  gateway_read : All (λ n. n.eui ≢ m.eui) before → length (before ++ m ∷ after) ≤ most_gateways
      → after_entry (gateways_read before (m ∷ after)) (gateway_entry m) ≡ Some (gateways_read (before ++ m ∷ []) after)
  gateway_read euis fit =
      let others : list_any (λ n. (n.id == m.id) || bytes_eq n.eui m.eui) (map joined_mast before) ≡ false =
      none_of_images (λ n. (n.id == m.id) || bytes_eq n.eui m.eui) joined_mast before
      (λ k d h. or_both _ _ (ne_eqb _ m.id (ids k d h)) (eui_differs _ m.eui _ refl (euis k d h))) in
      let room : nat_le most_gateways (length (map joined_mast before)) ≡ false =
      lt-leb most_gateways (length (map joined_mast before))
      (omega (arith, length-map before joined_mast, length-append before (m ∷ after), fit)) in
      ap (λ t. if t then None else option_map (λ n. record { gateways = map joined_mast before ++ n ∷ []; devices = [] })
      (new_mast m.id m.eui m.book.rules)) (or_both _ _ others room)
      ∙ ap (λ o. option_map (λ n. record { gateways = map joined_mast before ++ n ∷ []; devices = [] })
      (if is_some o then None else Some (joined_mast m)))
      (rules_open m.book.rules is.book.list.opened is.book.list.capped is.book.list.rested)
      ∙ ap (λ l. Some (record { gateways = l; devices = [] })) (sym (map-append joined_mast before (m ∷ [])))

  -- its members, one after another
  module _ (devices : List Node) where
    others_booked : All (λ n. n.id ≢ m.id) (map booked_mast before)
    others_booked = All-map (λ n. n.id ≢ m.id) booked_mast before ids

    abbrev part_booked : List Reservation → List Reservation → Journal
    part_booked l rest = with_mast (map booked_mast before) (map joined_mast after) devices (mast_with m l)

    member_read : (front : List Reservation) (r : Reservation) (rest : List Reservation) → front ++ r ∷ rest ≡ m.book.list
        → after_entries (part_booked front (r ∷ rest)) (sent_entry m.id r ∷ []) ≡ Some (part_booked (front ++ r ∷ []) rest)
    member_read front r rest e =
        let whole = unnumbered_book_list m.book.rules 0 _ m.book.list (sunk m.book.rules m.book.floor _ m.book.list is.book.list) in
        let parted = sym (map-append unnumbered front (r ∷ rest)) ∙ ap (map unnumbered) e in
        let P : List Reservation → Type 0 = λ l. IsBookList m.book.rules 0 (net m.book.list) l in
        let list = subst P (sym parted) whole in
        after_one (part_booked front (r ∷ rest)) (part_booked (front ++ r ∷ []) rest) (sent_entry m.id r)
        (at_mast (map booked_mast before) (map joined_mast after) devices m.id (sent (ask_of (unnumbered r))) (mast_with m front)
        others_booked refl
        ∙ ap (λ o. option_map (with_mast (map booked_mast before) (map joined_mast after) devices)
        (option_map (λ b. record (mast_with m front) { book = b }) o))
        (booked_behind m.id m.book.rules _ (map unnumbered front) (unnumbered r) (map unnumbered rest) list)
        ∙ ap (λ l. Some (with_mast (map booked_mast before) (map joined_mast after) devices
        (record (mast_with m front) { book = book_with m.id m.book.rules l }))) (sym (map-append unnumbered front (r ∷ []))))

    book_read : after_entries (books_read devices before (m ∷ after)) (sent_entries m)
        ≡ Some (books_read devices (before ++ m ∷ []) after)
    book_read =
        ap (λ n. after_entries (with_mast (map booked_mast before) (map joined_mast after) devices
        (record (joined_mast m) { book = record (empty_book m.id m.book.rules) { booked = n } })) (sent_entries m))
        (sym net-nil)
        ∙ ap (after_entries (part_booked [] m.book.list)) (sym (flat_map_single (sent_entry m.id) m.book.list))
        ∙ all_told (λ r. sent_entry m.id r ∷ []) m.book.list part_booked member_read
        ∙ ap (λ l. Some (record { gateways = l; devices = devices })) (shifted booked_mast before m (map joined_mast after))

    others_renewed : All (λ n. n.id ≢ m.id) (map renewed_gateway before)
    others_renewed = All-map (λ n. n.id ≢ m.id) renewed_gateway before ids

    clock_read : after_entry (clocks_read devices before (m ∷ after)) (clock_entry m)
        ≡ Some (clocks_read devices (before ++ m ∷ []) after)
    clock_read =
        at_mast (map renewed_gateway before) (map booked_mast after) devices m.id (λ n. Some (clocked m.high m.book.floor n))
        (booked_mast m) others_renewed refl
        ∙ ap (λ b. Some (with_mast (map renewed_gateway before) (map booked_mast after) devices
        (record { id = m.id; eui = m.eui; high = m.high; book = b })))
        (ticked_whole m.id m.book.rules m.book.floor _ (map unnumbered m.book.list)
        (unnumbered_book_list m.book.rules m.book.floor _ m.book.list is.book.list))
        ∙ ap (λ id. Some (with_mast (map renewed_gateway before) (map booked_mast after) devices
        (record { id = m.id; eui = m.eui; high = m.high; book = record (renewed_gateway m).book { id = id } }))) (sym is.own)
        ∙ ap (λ l. Some (record { gateways = l; devices = devices })) (shifted renewed_gateway before m (map booked_mast after))

-- one device
module _ (gateways : List Mast) (before : List Node) (n : Node) (after : List Node) (is : IsRenewableDevice n)
    (addrs : All (λ m. m.addr ≢ n.addr) before) where
  device_read : length (before ++ n ∷ after) ≤ most_devices
      → after_entry (devices_read gateways before (n ∷ after)) (device_entry n) ≡ Some (devices_read gateways (before ++ n ∷ []) after)
  device_read fit =
      let others : list_any (λ m. m.addr == n.addr) (map joined_node before) ≡ false =
      none_of_images (λ m. m.addr == n.addr) joined_node before (λ k d h. ne_eqb _ n.addr (addrs k d h)) in
      let room : nat_le most_devices (length (map joined_node before)) ≡ false =
      lt-leb most_devices (length (map joined_node before))
      (omega (arith, length-map before joined_node, length-append before (n ∷ after), fit)) in
      ap (λ t. if t then at_device n.addr (λ m. Some (told n.session n.up n.down m)) (devices_read gateways before (n ∷ after))
      else with_new_device n.addr n.session n.up n.down (devices_read gateways before (n ∷ after))) others
      ∙ ap (λ t. if t then None
      else Some (record { gateways = map joined_mast gateways; devices = map joined_node before ++ joined_node n ∷ [] })) room
      ∙ ap (λ l. Some (record { gateways = map joined_mast gateways; devices = l })) (sym (map-append joined_node before (n ∷ [])))

  abbrev part_queued : List Waiting → List Waiting → Journal
  part_queued front rest = with_node (map joined_mast gateways) before (map joined_node after) (record n { queue = front })

  payload_read : (front : List Waiting) (p : Waiting) (rest : List Waiting) → front ++ p ∷ rest ≡ n.queue
      → after_entries (part_queued front (p ∷ rest)) (Queue n.addr p ∷ []) ≡ Some (part_queued (front ++ p ∷ []) rest)
  payload_read front p rest e =
      let room : nat_le most_queued (length front) ≡ false =
      lt-leb most_queued (length front) (omega (arith, ap length e, length-append front (p ∷ rest), is.queue_fits)) in
      after_one (part_queued front (p ∷ rest)) (part_queued (front ++ p ∷ []) rest) (Queue n.addr p)
      (at_node (map joined_mast gateways) before (map joined_node after) n.addr (queued p) (record n { queue = front }) addrs refl
      ∙ ap (λ t. option_map (with_node (map joined_mast gateways) before (map joined_node after))
      (if t then None else Some (record n { queue = front ++ p ∷ [] }))) room)

  queue_read : after_entries (queues_read gateways before (n ∷ after)) (queue_entries n)
      ≡ Some (queues_read gateways (before ++ n ∷ []) after)
  queue_read =
      ap (after_entries (part_queued [] n.queue)) (sym (flat_map_single (Queue n.addr) n.queue))
      ∙ all_told (λ p. Queue n.addr p ∷ []) n.queue part_queued payload_read
      ∙ ap (λ l. Some (record { gateways = map joined_mast gateways; devices = l }))
      (sym (append_assoc before (n ∷ []) (map joined_node after)))

-- all of them
module _ (j : Journal) (is : IsRenewable j) where
  module _ (before : List Mast) (m : Mast) (after : List Mast) (e : before ++ m ∷ after ≡ j.gateways) where
    its_mast : IsRenewableGateway m
    its_mast = all_between IsRenewableGateway before m after (subst (All IsRenewableGateway) (sym e) is.gateways)

    ids_before : All (λ n. n.id ≢ m.id) before
    ids_before =
        pairs_between (λ a b. a.id ≢ b.id) before m after (subst (AllPairs (λ a b. a.id ≢ b.id)) (sym e) is.ids_differ)

    euis_before : All (λ n. n.eui ≢ m.eui) before
    euis_before =
        pairs_between (λ a b. a.eui ≢ b.eui) before m after (subst (AllPairs (λ a b. a.eui ≢ b.eui)) (sym e) is.euis_differ)

  module _ (before : List Node) (n : Node) (after : List Node) (e : before ++ n ∷ after ≡ j.devices) where
    its_node : IsRenewableDevice n
    its_node = all_between IsRenewableDevice before n after (subst (All IsRenewableDevice) (sym e) is.devices)

    addrs_before : All (λ m. m.addr ≢ n.addr) before
    addrs_before =
        pairs_between (λ a b. a.addr ≢ b.addr) before n after (subst (AllPairs (λ a b. a.addr ≢ b.addr)) (sym e) is.addrs_differ)

  all_gateways : after_entries nothing (map gateway_entry j.gateways) ≡ Some (gateways_read j.gateways [])
  all_gateways =
      ap (after_entries nothing) (sym (flat_map_single gateway_entry j.gateways))
      ∙ all_told (λ m. gateway_entry m ∷ []) j.gateways gateways_read
      (λ before m after e.
      after_one (gateways_read before (m ∷ after)) (gateways_read (before ++ m ∷ []) after) (gateway_entry m)
      (gateway_read before m after (its_mast before m after e) (ids_before before m after e) (euis_before before m after e)
      (omega (arith, ap length e, is.gateways_fit))))

  all_devices : after_entries (gateways_read j.gateways []) (map device_entry j.devices) ≡ Some (devices_read j.gateways j.devices [])
  all_devices =
      ap (after_entries (gateways_read j.gateways [])) (sym (flat_map_single device_entry j.devices))
      ∙ all_told (λ n. device_entry n ∷ []) j.devices (devices_read j.gateways)
      (λ before n after e.
      after_one (devices_read j.gateways before (n ∷ after)) (devices_read j.gateways (before ++ n ∷ []) after) (device_entry n)
      (device_read j.gateways before n after (its_node before n after e) (addrs_before before n after e)
      (omega (arith, ap length e, is.devices_fit))))

  all_queues : after_entries (devices_read j.gateways j.devices []) (flat_map queue_entries j.devices)
      ≡ Some (books_read j.devices [] j.gateways)
  all_queues =
      all_told queue_entries j.devices (queues_read j.gateways)
      (λ before n after e. queue_read j.gateways before n after (its_node before n after e) (addrs_before before n after e))
      ∙ ap (λ l. Some (record { gateways = map joined_mast j.gateways; devices = l })) (append-nil j.devices)

  all_books : after_entries (books_read j.devices [] j.gateways) (flat_map sent_entries j.gateways)
      ≡ Some (clocks_read j.devices [] j.gateways)
  all_books =
      all_told sent_entries j.gateways (books_read j.devices)
      (λ before m after e. book_read before m after (its_mast before m after e) (ids_before before m after e) j.devices)
      ∙ ap (λ l. Some (record { gateways = l; devices = j.devices })) (append-nil (map booked_mast j.gateways))

  all_clocks : after_entries (clocks_read j.devices [] j.gateways) (map clock_entry j.gateways) ≡ Some (renewed j)
  all_clocks =
      ap (after_entries (clocks_read j.devices [] j.gateways)) (sym (flat_map_single clock_entry j.gateways))
      ∙ all_told (λ m. clock_entry m ∷ []) j.gateways (clocks_read j.devices)
      (λ before m after e.
      after_one (clocks_read j.devices before (m ∷ after)) (clocks_read j.devices (before ++ m ∷ []) after) (clock_entry m)
      (clock_read before m after (its_mast before m after e) (ids_before before m after e) j.devices))
      ∙ ap (λ l. Some (record { gateways = l; devices = j.devices })) (append-nil (map renewed_gateway j.gateways))

  all_made : after_entries nothing (renewal j) ≡ Some (renewed j)
  all_made =
      after_both (map gateway_entry j.gateways) _ nothing _ all_gateways
      ∙ after_both (map device_entry j.devices) _ _ _ all_devices
      ∙ after_both (flat_map queue_entries j.devices) _ _ _ all_queues
      ∙ after_both (flat_map sent_entries j.gateways) _ _ _ all_books
      ∙ all_clocks

-- the numbers of its entries are in their ranges

id_small : (m : Mast) → IsRenewableGateway m → m.id < 2 ^ 16
id_small m is = omega (arith, is.own, is.book.id)

gateway_is : (m : Mast) → IsRenewableGateway m → IsEntry (gateway_entry m)
gateway_is m is =
    (id_small m is, is.eui, omega (arith, is.book.list.capped), omega (arith, is.book.list.rested))

device_is : (n : Node) → IsRenewableDevice n → IsEntry (device_entry n)
device_is n is = (is.addr, is.session, is.up, is.down)

queue_are : (n : Node) → IsRenewableDevice n → All IsEntry (queue_entries n)
queue_are n is = All-map IsEntry (Queue n.addr) n.queue (λ k p h. (is.addr, is.payloads k p h))

sent_is : (id : ℕ) (r : Reservation) → id < 2 ^ 16 → (r.number < 2 ^ 64) × (r.freq_hz < 2 ^ 32) × (r.len < 2 ^ 8)
    → IsEntry (sent_entry id r)
sent_is id r small fields = (small, omega (arith, r.fit.timely), fields.1, fields.2)

sent_are : (m : Mast) → IsRenewableGateway m → All IsEntry (sent_entries m)
sent_are m is =
    All-map IsEntry (sent_entry m.id) m.book.list
    (λ k r h. sent_is m.id (get_or m.book.list k r) (id_small m is) (is.book.members k r h))

clock_is : (m : Mast) → IsRenewableGateway m → IsEntry (clock_entry m)
clock_is m is = (id_small m is, is.high, is.book.floor)

renewal_are : (j : Journal) → IsRenewable j → All IsEntry (renewal j)
renewal_are j is =
    All-append IsEntry (map gateway_entry j.gateways) _
    (All-map IsEntry gateway_entry j.gateways (λ k d h. gateway_is _ (is.gateways k d h)))
    (All-append IsEntry (map device_entry j.devices) _
    (All-map IsEntry device_entry j.devices (λ k d h. device_is _ (is.devices k d h)))
    (All-append IsEntry (flat_map queue_entries j.devices) _
    (all_flat_map IsEntry queue_entries j.devices (λ k d h. queue_are _ (is.devices k d h)))
    (All-append IsEntry (flat_map sent_entries j.gateways) (map clock_entry j.gateways)
    (all_flat_map IsEntry sent_entries j.gateways (λ k d h. sent_are _ (is.gateways k d h)))
    (All-map IsEntry clock_entry j.gateways (λ k d h. clock_is _ (is.gateways k d h))))))

-- its text is that of a journal of one batch
renewal_spelled : (j : Journal) → renewal_text j ≡ journal_text (renewal j ∷ [])
renewal_spelled j =
    ap (λ l. head_line ++ 10 ∷ l)
    (sym (text_of-append (map entry_text (renewal j)) (end_line ∷ []))
    ∙ ap text_of (sym (append-nil (map entry_text (renewal j) ++ end_line ∷ []))))

pub renewal_reads_as_state : RenewalReadsAsState
renewal_reads_as_state j is =
    ap journal_of (renewal_spelled j)
    ∙ read_alone (renewal j) [] (one_batch (renewal_are j is))
    ∙ ap (λ s. and_then s (λ k. read_batches (length (head_line ∷ map entry_text (renewal j)) + 2) k []))
    (read_entries 2 nothing (renewed j) (renewal j) (renewal_are j is) (all_made j is))
  where
    one_batch : All IsEntry (renewal j) → All (All IsEntry) (renewal j ∷ [])
    one_batch are = All-cons (All IsEntry) (renewal j) [] are (All-nil (All IsEntry))

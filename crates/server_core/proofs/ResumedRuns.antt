-- What holds of every run of a server that is opened on books.
use Rattle.server_core.proofs.Words
use Words.{ap, inl, inr, sym, ◌∙◌, All, Contains, List, Some, [], ◌∷◌, map, refl, slice_get, subst, ℕ, ◌≡◌}
use Words.{◌≢◌, ◌≤◌, map-id, map_there, from_map, all_get, Reservation, Book, IsOrderly, IsLawful, Limits, Job}
use Words.{Gateway, gateway_of, SettingLists, AreSettings, GatewaySetting, DeviceSetting, IsMember, setting_of}
use Words.{jobs_given, Run, run_from, AreBooksFor, IsWhole, resuming, opened_device}
use Rattle.std.proofs.lemmas.List.Elements.{All-contains}
use Rattle.std.proofs.lemmas.Option.{slice_get-get_or}
use Rattle.server_core.proofs.Holds.{Holds, IsNew, WasThere, member_belongs}
use Rattle.server_core.proofs.Runs.{AreTickets, held_by, once_by, opened, own_at, run_good}
use Rattle.server_core.proofs.{Headlines.disjoint_by, Headlines.on_air_by, Headlines.own_uplink, Members.apart_once}
use Rattle.server_core.specs.Headline.{IsOfItsUplink}
use Rattle.server_core.specs.Resumed.{HasNoNumbers, WasHeld, KeepsResumed, EveryResumedRunKeepsHeadline}

-- the books' gateways are those of the settings
gateways_set : (gs : List GatewaySetting) (books : List Book) → AreBooksFor gs books → map setting_of (map gateway_of books) ≡ gs
gateways_set [] [] a = refl
gateways_set (g ∷ gs) (b ∷ bs) a = rw (a.0.id, a.0.rules, gateways_set gs bs a.1) refl
gateways_set gs books a = absurd a

module _ (books : List Book) where
  past_orderly : All IsWhole books → (i : ℕ) (g : Gateway) → slice_get (map gateway_of books) i ≡ Some g
      → IsOrderly g.rules.gap g.state.list
  past_orderly all i g e =
      let b = from_map gateway_of books i g e in
      let whole = all_get IsWhole books i b.0 all b.1 in
      subst (λ (x : Gateway). IsOrderly x.rules.gap x.state.list) b.2
      (record { rested = whole.rested; by_start = whole.by_start; lawful = whole.lawful })

  -- what was there has the number 0
  was_old : All HasNoNumbers books → (id : ℕ) (r : Reservation) → WasThere (map gateway_of books) id r → r.number ≡ 0
  was_old all id r was =
      let b = from_map gateway_of books was.place was.gateway was.there in
      let c = subst (λ (x : Gateway). Contains x.state.list r) (sym b.2) was.member in
      All-contains (λ (x : Reservation). x.number ≡ 0) b.0.list r (all_get HasNoNumbers books was.place b.0 all b.1) c

-- a counter that is given is not below the one that the device begins with
next_by : (settings : SettingLists) (limits : Limits) (books : List Book) (jobs : List Job)
    → All (IsNew (resuming settings limits books)) jobs → (job : Job) (device : DeviceSetting) → Contains jobs job
    → Contains settings.devices device → device.addr ≡ job.addr → device.down ≤ job.counter
next_by settings limits books jobs new job device c d same =
    let there = slice_get-get_or settings.devices d.0 device d.1 ∙ ap (λ (x : DeviceSetting). Some x) d.2 in
    let opened = map_there opened_device settings.devices d.0 device there in
    (All-contains (IsNew (resuming settings limits books)) jobs job new c).counter d.0 (opened_device device) opened same

-- After every list of steps.

module _ (settings : SettingLists) (are : AreSettings settings.gateways settings.devices) (books : List Book)
    (for : AreBooksFor settings.gateways books) (unnumbered : All HasNoNumbers books) (r : Run)
    (h : Holds settings (map gateway_of books) (Contains (jobs_given r.replies)) r.world) where
  abbrev past : List Gateway
  past = map gateway_of books

  past_set : map setting_of past ≡ settings.gateways
  past_set = gateways_set settings.gateways books for

  lawful : (i : ℕ) (g : Gateway) → slice_get r.world.gateways i ≡ Some g → IsLawful g.rules.gap g.state.list
  lawful i g e = (h.in_order i g e).orderly.lawful

  -- what has another number than 0 wasn't there
  is_new : (id : ℕ) (a : Reservation) → a.number ≢ 0 → WasThere past id a → ⊥
  is_new id a numbered was = numbered (was_old books unnumbered id a was)

  -- what was there at a gateway was in its book
  was_held : (i : ℕ) (g : Gateway) (a : Reservation) → slice_get r.world.gateways i ≡ Some g → WasThere past g.id a
      → WasHeld books i a
  was_held i g a e was =
      let now = subst (λ l. slice_get l i ≡ Some (setting_of g)) h.gateways (map_there setting_of r.world.gateways i g e) in
      let then = subst (λ l. slice_get l was.place ≡ Some (setting_of was.gateway)) past_set
      (map_there setting_of past was.place was.gateway was.there) in
      let place = apart_once (λ s. s) (λ s. s.id) settings.gateways settings.gateways (map-id settings.gateways)
      are.ids_differ was.place i (setting_of was.gateway) (setting_of g) then now was.same in
      let b = from_map gateway_of books was.place was.gateway was.there in
      record {
        book = b.0;
        there = subst (λ j. slice_get books j ≡ Some b.0) place b.1;
        member = subst (λ (x : Gateway). Contains x.state.list a) (sym b.2) was.member;
      }

  old_at : (i k : ℕ) (g : Gateway) (a : Reservation) → IsMember r.world i k g a → a.number ≡ 0 → WasHeld books i a
  old_at i k g a m zero = elim (member_belongs h i k g a m) [
    | inl was ↦ was_held i g a m.gateway was
    | inr s ↦ let there = rw zero at s.own.now.there in absurd (cc (there))
  ]

  once_at : (i j k l : ℕ) (g f : Gateway) (a b : Reservation) → IsMember r.world i k g a → IsMember r.world j l f b
      → a.number ≢ 0 → a.number ≡ b.number → (i ≡ j) × (k ≡ l)
  once_at i j k l g f a b m o numbered q =
      once_by are h i j k l g f a b m o (is_new g.id a numbered) (is_new f.id b (λ z. numbered (q ∙ z))) q

  own_uplink_at : (i k : ℕ) (g : Gateway) (a : Reservation) → IsMember r.world i k g a → a.number ≢ 0
      → IsOfItsUplink settings r.world.reg.gathered.list g a
  own_uplink_at i k g a m numbered =
      own_uplink settings r h.devices g a (own_at settings past r h i k g a m (is_new g.id a numbered))

  keeps_resumed : (limits : Limits) → AreTickets (resuming settings limits books) (jobs_given r.replies)
      → KeepsResumed settings books r
  keeps_resumed limits t =
      record {
        disjoint = disjoint_by r lawful;
        hour = λ i g e band s. (lawful i g e).duty band s;
        on_air = on_air_by r lawful;
        old = λ i k g a e x. old_at i k g a (record { gateway = e; member = x });
        once = λ i j k l g f a b e x o y. once_at i j k l g f a b (record { gateway = e; member = x })
            (record { gateway = o; member = y });
        own = λ i k g a e x. own_uplink_at i k g a (record { gateway = e; member = x });
        tickets = t.tickets;
        counters = t.counters;
        next = next_by settings limits books (jobs_given r.replies) t.new;
      }

pub every_resumed_run_keeps_headline : EveryResumedRunKeepsHeadline
every_resumed_run_keeps_headline settings are limits books for whole unnumbered steps =
    let past = map gateway_of books in
    let w = resuming settings limits books in
    let set = gateways_set settings.gateways books for in
    let first = opened settings are past set (past_orderly books whole) (λ j. ⊥) limits in
    let good = run_good settings are past (λ j. ⊥) w first steps in
    keeps_resumed settings are books for unnumbered (run_from w steps)
    (held_by settings are past w (run_from w steps) good) limits good.given

-- A desk that is made anew.
use Rattle.std.proofs.Common.{◌≡◌, ◌≢◌, ◌∙◌, ◌+◌, ◌<◌, ◌++◌, AllPairs, Bool, true, false, List, [], ◌∷◌, ℕ, suc, IfSome, Option, Some, None, Result, Ok, Err, ap, arith, cond, get_or, length, map, map-id, refl, slice_get, subst, sym, take}
use Rattle.std.specs.Prelude.{◌-◌, ◌^◌, ◌&&◌, IsOkAnd, MatchOption, is_none, is_some, not}
use Rattle.std.specs.List.{flat_map}
use Rattle.std.specs.Option.{option_map}
use Rattle.std.specs.Result.{result_ok}
use Rattle.std.proofs.lemmas.List.{flat_map_more, take_more}
use Rattle.gateway_book.specs.Book.{Book}
use Rattle.answer_ticket.specs.Job.{Payload}
use Rattle.forwarder_sessions.specs.Sessions.{renumbered}
use Rattle.server_core.proofs.Members.{apart_once}
use Rattle.server_core.specs.Entries.{gateway_of, kept_gateway}
use Rattle.server_core.specs.Opened.{AreBooksFor, IsOpened, resuming}
use Rattle.server_core.specs.Promise.{setting_of}
use Rattle.server_core.specs.Server.{AreBooksOf, IsAt, IsBookOf, seen}
use Rattle.server_desk.specs.declared.setting.DeviceSetting.{DeviceSetting}
use Rattle.server_desk.specs.declared.setting.GatewaySetting.{GatewaySetting}
use Rattle.server_desk.specs.declared.settings_fault.SettingsFault.{SettingsFault}
use Rattle.server_desk.specs.Desk.{DeskView}
use Rattle.server_desk.specs.Passing.{pass_answer}
use Rattle.server_desk.specs.Register.{Device, counters_of, device_with, opened_device, waiting_for}
use Rattle.server_desk.specs.Settings.{SettingLists, settings_fault}
use Rattle.server_desk.specs.World.{Gateway, World, opening}
use Rattle.server_desk.proofs.Places.{from_map, map_there}
use Rattle.serve_journal.specs.Payload.{Waiting}
use Rattle.serve_renewal.specs.State.{waiting_of}
use Rattle.serve_turns.specs.declared.answerer.Answerer.{Answerer}
use Rattle.serve_turns.specs.Devices.{settings_of, without_counters}
use Rattle.serve_turns.specs.Life.{Life, IsAlive, IsReady, Makes}
use Rattle.serve_turns.specs.NewDesk.{HasNewDesk, accepted, after_desk, all_waiting, are_accepted, has_open, is_desk_due, is_spent, reopened, serve_limits, set_as_book, set_now, set_with, settings_now, waits_for, with_counters, with_new_desk}
use Rattle.serve_turns.specs.Queues.{after_queues}
use Rattle.serve_turns.proofs.Counters.{found_once}

-- How devices are set is kept.

all_opened : (ss : List DeviceSetting) → map without_counters ss ≡ settings_of (map opened_device ss)
all_opened [] = refl
all_opened (s ∷ ss) = ap (λ l. without_counters s ∷ l) (all_opened ss)

pub set_opened : (settings kept : SettingLists) → kept ≡ settings
    → map without_counters kept.devices ≡ settings_of (map opened_device settings.devices)
set_opened settings kept is = ap (λ (s : SettingLists). map without_counters s.devices) is ∙ all_opened settings.devices

pub set_again : (ds : List Device) → settings_of (map opened_device (map set_now ds)) ≡ settings_of ds
set_again [] = refl
set_again (d ∷ ds) = ap (λ l. without_counters d.setting ∷ l) (set_again ds)

-- What a server tells of the devices, one after another by how it was set, is what is known of them.

-- what waits for a device, each payload with its address
abbrev pub waits_with : List Device → DeviceSetting → List (ℕ × Waiting)
waits_with devices s = map (λ q. (s.addr, q)) (flat_map waiting_of (waiting_for (device_with s.addr devices)))

flat_by_map : {X Y Z : Type 0} (f : X → List Z) (g : Y → List Z) (xs : List X) (ys : List Y) → map f xs ≡ map g ys
    → flat_map f xs ≡ flat_map g ys
flat_by_map f g [] [] e = refl
flat_by_map f g [] (y ∷ ys) e = absurd (cc (e))
flat_by_map f g (x ∷ xs) [] e = absurd (cc (e))
flat_by_map f g (x ∷ xs) (y ∷ ys) e =
    let head : f x ≡ g y = cc (e) in
    ap (λ l. l ++ flat_map f xs) head ∙ ap (λ l. g y ++ l) (flat_by_map f g xs ys (cc (e)))

module _ (ss : List DeviceSetting) (ds : List Device) (set : map without_counters ss ≡ settings_of ds)
    (differ : AllPairs (λ s t. s.addr ≢ t.addr) ss) where
  setting_at : (k : ℕ) (d : Device) → slice_get ds k ≡ Some d
      → (s : DeviceSetting) × (slice_get ss k ≡ Some s) × (without_counters s ≡ without_counters d.setting)
  setting_at k d there = from_map without_counters ss k (without_counters d.setting)
      (subst (λ l. slice_get l k ≡ Some (without_counters d.setting)) (sym set)
      (map_there (λ x. without_counters x.setting) ds k d there))

  one_place : (i j : ℕ) (c d : Device) → slice_get ds i ≡ Some c → slice_get ds j ≡ Some d → c.setting.addr ≡ d.setting.addr → i ≡ j
  one_place i j c d at there same =
      let s = setting_at i c at in
      let t = setting_at j d there in
      apart_once (λ x. x) (λ (x : DeviceSetting). x.addr) ss ss (map-id ss) differ i j s.0 t.0 s.1 t.1
      (ap (λ (x : DeviceSetting). x.addr) s.2 ∙ same ∙ sym (ap (λ (x : DeviceSetting). x.addr) t.2))

  module _ {X : Type 0} (by_setting : DeviceSetting → X) (of_device : Device → X)
      (same : (k : ℕ) (s : DeviceSetting) (d : Device) → without_counters s ≡ without_counters d.setting
      → device_with s.addr ds ≡ Some (k, d) → by_setting s ≡ of_device d) where
    each : (rest : List Device) (part : List DeviceSetting) (k : ℕ)
        → ((j : ℕ) (d : Device) → slice_get rest j ≡ Some d → slice_get ds (k + j) ≡ Some d)
        → map without_counters part ≡ settings_of rest → map by_setting part ≡ map of_device rest
    each [] [] k stand e = refl
    each [] (s ∷ part) k stand e = absurd (cc (e))
    each (d ∷ rest) [] k stand e = absurd (cc (e))
    each (d ∷ rest) (s ∷ part) k stand e =
        let own : without_counters s ≡ without_counters d.setting = cc (e) in
        let found = found_once ds one_place (k + 0) d (stand 0 d refl) in
        let is = same (k + 0) s d own (subst (λ a. device_with a ds ≡ Some (k + 0, d))
        (sym (ap (λ (x : DeviceSetting). x.addr) own)) found) in
        ap (λ x. x ∷ map by_setting part) is
        ∙ ap (λ l. of_device d ∷ l) (each rest part (k + 1)
        (λ j x i.
        let next : k + suc j ≡ k + 1 + j = omega arith in
        subst (λ p. slice_get ds p ≡ Some x) next (stand (suc j) x i)) (cc (e)))

    each_device : map by_setting ss ≡ map of_device ds
    each_device = each ds ss 0 (λ j d i.
        let here : j ≡ 0 + j = omega arith in
        subst (λ p. slice_get ds p ≡ Some d) here i) set

  pub devices_now_are : map (set_with ds) ss ≡ map set_now ds
  devices_now_are = each_device (set_with ds) set_now (λ k s d own found.
      ap (λ o. with_counters s (option_map (λ f. counters_of f.1) o)) found
      ∙ ap (λ (x : DeviceSetting). record x { up = d.up; down = d.down }) own)

  pub waiting_now_is : flat_map (waits_with ds) ss ≡ all_waiting ds
  waiting_now_is = flat_by_map (waits_with ds) waits_for ss ds (each_device (waits_with ds) waits_for (λ k s d own found.
      ap (λ o. map (λ q. (s.addr, q)) (flat_map waiting_of (waiting_for o))) found
      ∙ ap (λ a. map (λ (q : Waiting). (a, q)) (flat_map waiting_of d.queue)) (ap (λ (x : DeviceSetting). x.addr) own)))

-- The gateways, by their books.

one_set : (b : Book) (g : Gateway) → IsBookOf b g → set_as_book b ≡ setting_of g
one_set b g is = rw (is.id, is.rules) refl

pub books_set : (bs : List Book) (gs : List Gateway) → AreBooksOf bs gs → map set_as_book bs ≡ map setting_of gs
books_set [] [] are = refl
books_set [] (g ∷ gs) are = absurd are
books_set (b ∷ bs) [] are = absurd are
books_set (b ∷ bs) (g ∷ gs) are =
    ap (λ x. x ∷ map set_as_book bs) (one_set b g are.0) ∙ ap (λ l. setting_of g ∷ l) (books_set bs gs are.1)

one_kept : (b : Book) (g : Gateway) → IsBookOf b g → gateway_of b ≡ kept_gateway g
one_kept b g is =
    rw (is.id, is.rules, is.remembers.floor, is.remembers.list, is.remembers.booked, is.remembers.cancelled) refl

books_kept : (bs : List Book) (gs : List Gateway) → AreBooksOf bs gs → map gateway_of bs ≡ map kept_gateway gs
books_kept [] [] are = refl
books_kept [] (g ∷ gs) are = absurd are
books_kept (b ∷ bs) [] are = absurd are
books_kept (b ∷ bs) (g ∷ gs) are =
    ap (λ x. x ∷ map gateway_of bs) (one_kept b g are.0) ∙ ap (λ l. kept_gateway g ∷ l) (books_kept bs gs are.1)

pub books_for : (bs : List Book) → AreBooksFor (map set_as_book bs) bs
books_for [] = tt
books_for (b ∷ bs) = (record { id = refl; rules = refl }, books_for bs)

-- Whether settings are accepted.

accepted_by : (t : Bool) (s u : SettingLists) → Some u ≡ cond t (Some s) None → (t ≡ true) × (u ≡ s)
accepted_by true s u e = (refl, cc (e))
accepted_by false s u e = absurd (cc (e))

refused_by : (t : Bool) (s : SettingLists) → None ≡ cond t (Some s) None → t ≡ false
refused_by true s e = absurd (cc (e))
refused_by false s e = refl

accepted_so : (s : SettingLists) (r : Result SettingLists SettingsFault) (o : Option SettingsFault)
    → MatchOption o (IsOkAnd r (λ made. made ≡ s)) (λ fault. r ≡ Err fault) → result_ok r ≡ cond (is_none o) (Some s) None
accepted_so s (Ok made) None is = ap (λ x. Some x) is
accepted_so s (Err e) None is = absurd is
accepted_so s (Ok made) (Some fault) is = absurd (cc (is))
accepted_so s (Err e) (Some fault) is = refl

pub settings_accepted : (s : SettingLists) (r : Result SettingLists SettingsFault)
    → MatchOption (settings_fault s.gateways s.devices) (IsOkAnd r (λ made. made ≡ s)) (λ fault. r ≡ Err fault)
    → result_ok r ≡ accepted s
settings_accepted s r is = accepted_so s r (settings_fault s.gateways s.devices) is

pub if_accepted : (s : SettingLists) (P : SettingLists → Type 0) → P s → IfSome (accepted s) P
if_accepted s P p = by_test (are_accepted s)
  where
    by_test : (t : Bool) → IfSome (cond t (Some s) None) P
    by_test true = p
    by_test false = tt

pub settings_same : (gs : List GatewaySetting) (ds : List DeviceSetting) (w : World) → gs ≡ map setting_of w.gateways
    → ds ≡ map set_now w.reg.devices → ◌≡◌ {A = SettingLists} (record { gateways = gs; devices = ds }) (settings_now w)
settings_same gs ds w gateways devices = rw (gateways, devices) refl

-- A new desk.

-- all but the server is the same, and numbers begin anew
pub record IsRenumbered {S A R : Type 0} {C : _} (old new : Answerer S A R C) : Type 0 where
  pub set : new.settings ≡ old.settings
  pub known : new.forwarders.sessions.items ≡ map renumbered old.forwarders.sessions.items
  pub kept : new.keeping ≡ old.keeping
  pub drops : new.drops.items ≡ old.drops.items
  pub told_at : new.told_at ≡ old.told_at
  pub counts : new.counts ≡ old.counts
  pub text : new.text.writer.items ≡ old.text.writer.items

module _ {S A R : Type 0} {C : _} (settings : SettingLists) (books : List Book) (old middle : Answerer S A R C)
    (taken : books ≡ (seen old.server).books) (opens : IsOpened (resuming settings serve_limits books) None (seen middle.server)) where
  pub desk_ready : IsReady middle
  desk_ready = record { between = opens.ready; taken = opens.outcomes }

  module _ (new : Answerer S A R C) (waiting : List (ℕ × Waiting)) (same : IsRenumbered old middle)
      (waits : (l : Life) → IsAlive l old → waiting ≡ all_waiting l.world.reg.devices)
      (made : Makes (after_queues A waiting) middle new) where
    world_is : (l : Life) → IsAlive l old → settings ≡ settings_now l.world → resuming settings serve_limits books ≡ reopened l.world
    world_is l alive is =
        ap (λ s. resuming s serve_limits books) is
        ∙ ap (λ gs. record (opening (settings_now l.world) serve_limits) { gateways = gs })
        (ap (map gateway_of) taken ∙ books_kept (seen old.server).books l.world.gateways alive.at.books)

    reopens : (l : Life) → IsAlive l old → settings ≡ settings_now l.world
        → IsAlive (record l { world = reopened l.world; known = map renumbered l.known }) middle
    reopens l alive is =
        record {
          at = subst (λ w. IsAt w (seen middle.server)) (world_is l alive is) opens.at;
          set = ap (λ (s : SettingLists). map without_counters s.devices) same.set ∙ alive.set ∙ sym (set_again l.world.reg.devices);
          known = same.known ∙ ap (map renumbered) alive.known;
          kept = same.kept ∙ alive.kept;
          drops = same.drops ∙ alive.drops;
          told_at = same.told_at ∙ alive.told_at;
          counts = same.counts ∙ alive.counts;
          text = same.text ∙ alive.text;
        }

    pub desk_made : HasNewDesk settings old new
    desk_made =
        record {
          ready = made.ready;
          lives = λ l alive is.
              let m : Life = record l { world = reopened l.world; known = map renumbered l.known } in
              subst (λ ws. IsAlive (after_queues A ws m) new) (waits l alive) (made.goes m (reopens l alive is));
        }

-- Where a desk is made anew, and where it isn't.

module _ {S A R : Type 0} {C : _} (old : Answerer S A R C) where
  spent_same : (l : Life) → IsAlive l old → is_spent l.known ≡ is_spent old.forwarders.sessions.items
  spent_same l alive = ap is_spent (sym alive.known)

  open_same : (l : Life) → IsAlive l old → has_open l.world ≡ is_some (pass_answer (seen old.server).desk.reg (2 ^ 64 - 1))
  open_same l alive = ap (λ (d : DeskView). is_some (pass_answer d.reg (2 ^ 64 - 1))) (sym alive.at.desk)

  stays_by : IsReady old → ((l : Life) → IsAlive l old → is_desk_due l ≡ false) → Makes (after_desk A) old old
  stays_by ready not_due =
      record { ready = ready; goes = λ l alive. subst (λ t. IsAlive (cond t (with_new_desk A l) l) old) (sym (not_due l alive)) alive }

  pub desk_unspent : IsReady old → is_spent old.forwarders.sessions.items ≡ false → Makes (after_desk A) old old
  desk_unspent ready unspent = stays_by ready (λ l alive. rw (spent_same l alive ∙ unspent) refl)

  pub desk_open : IsReady old → is_some (pass_answer (seen old.server).desk.reg (2 ^ 64 - 1)) ≡ true → Makes (after_desk A) old old
  desk_open ready is_so = stays_by ready (λ l alive. not_due (is_spent l.known) (are_accepted (settings_now l.world)) (has_open l.world)
      (open_same l alive ∙ is_so))
    where
      not_due : (s a o : Bool) → o ≡ true → ((s && not o) && a) ≡ false
      not_due true a o e = rw e refl
      not_due false a o e = refl

  pub desk_refused : IsReady old → ((l : Life) → IsAlive l old → None ≡ accepted (settings_now l.world)) → Makes (after_desk A) old old
  desk_refused ready refused = stays_by ready (λ l alive. not_due (is_spent l.known) (has_open l.world) (are_accepted (settings_now l.world))
      (refused_by (are_accepted (settings_now l.world)) (settings_now l.world) (refused l alive)))
    where
      not_due : (s o a : Bool) → a ≡ false → ((s && not o) && a) ≡ false
      not_due true true a e = refl
      not_due true false a e = e
      not_due false o a e = refl

  pub desk_renewed : (new : Answerer S A R C) (settings : SettingLists) → is_spent old.forwarders.sessions.items ≡ true
      → is_some (pass_answer (seen old.server).desk.reg (2 ^ 64 - 1)) ≡ false
      → ((l : Life) → IsAlive l old → Some settings ≡ accepted (settings_now l.world)) → HasNewDesk settings old new
      → Makes (after_desk A) old new
  desk_renewed new settings spent closed are made =
      record {
        ready = made.ready;
        goes = λ l alive.
            let may = accepted_by (are_accepted (settings_now l.world)) (settings_now l.world) settings (are l alive) in
            let due : is_desk_due l ≡ true = rw (spent_same l alive ∙ spent, open_same l alive ∙ closed, may.0) refl in
            subst (λ t. IsAlive (cond t (with_new_desk A l) l) new) (sym due) (made.lives l alive may.1);
      }

-- What a server tells of its devices is what its life knows.

module _ {S A R : Type 0} {C : _} (a : Answerer S A R C) (l : Life) (alive : IsAlive l a)
    (differ : AllPairs (λ s t. s.addr ≢ t.addr) a.settings.devices) where
  devices_seen : (seen a.server).desk.reg.devices ≡ l.world.reg.devices
  devices_seen = ap (λ (d : DeskView). d.reg.devices) alive.at.desk

  pub devices_of_life : map (set_with (seen a.server).desk.reg.devices) a.settings.devices ≡ map set_now l.world.reg.devices
  devices_of_life =
      ap (λ ds. map (set_with ds) a.settings.devices) devices_seen
      ∙ devices_now_are a.settings.devices l.world.reg.devices alive.set differ

  pub waiting_of_life : flat_map (waits_with (seen a.server).desk.reg.devices) a.settings.devices ≡ all_waiting l.world.reg.devices
  waiting_of_life =
      ap (λ ds. flat_map (waits_with ds) a.settings.devices) devices_seen
      ∙ waiting_now_is a.settings.devices l.world.reg.devices alive.set differ

-- what waits for one device more
pub waiting_next : (ds : List Device) (now after : List (ℕ × Waiting)) (ss : List DeviceSetting) (i : ℕ) (d : DeviceSetting)
    (queue : List Payload) → i < length ss → now ≡ flat_map (waits_with ds) (take i ss)
    → queue ≡ waiting_for (device_with (get_or ss i d).addr ds)
    → after ≡ now ++ map (λ q. ((get_or ss i d).addr, q)) (flat_map waiting_of queue)
    → after ≡ flat_map (waits_with ds) (take (i + 1) ss)
waiting_next ds now after ss i d queue within so_far waits next =
    next
    ∙ ap (λ l. l ++ map (λ q. ((get_or ss i d).addr, q)) (flat_map waiting_of queue)) so_far
    ∙ ap (λ q. flat_map (waits_with ds) (take i ss) ++ map (λ w. ((get_or ss i d).addr, w)) (flat_map waiting_of q)) waits
    ∙ flat_map_more (waits_with ds) [] (take i ss) (get_or ss i d)
    ∙ ap (flat_map (waits_with ds)) (sym (take_more ss i d within))

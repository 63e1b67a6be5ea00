-- The devices as the desk keeps them, and as they are seen.
use Rattle.server_desk.proofs.Words
use Words.{Register, ℕ, ◌≡◌, ◌==◌, ◌<◌, List, map, length, slice_get, slice_set, get_or, Some, Result, Ok, Err, IfOk, OnOk, OnErr}
use Words.{refl, sym, ap, ◌∙◌, arith, nat_tests, length-set, map-set, All-set, All-push, Payload, KnownDevice, Known, Device}
use Words.{Asked, device_with, Gatherings, shown, outs, IsSendable, IsServable, AreOut, IsDesk, DeskView, desk_queue, Bool}
use Rattle.server_desk.proofs.Places.{all_get, map_set, map_there, HasPlace, place_within, is_placed}
use Rattle.server_desk.specs.Queueing.{queue_fault, queued_or, with_payload}
use Rattle.server_desk.specs.declared.faults.QueueFault.{QueueFault}

-- the desk's part of the world, by what it keeps, and what is true of it
abbrev pub seen_reg : {A : Type 0} → List (KnownDevice A) → Gatherings → List Asked → Register
seen_reg kepts gathered asked = record { devices = map shown kepts; gathered = gathered; asked = asked }

abbrev pub seen : {A : Type 0} → List ℕ → List (KnownDevice A) → Gatherings → List Asked → List Known → DeskView
seen ids kepts gathered asked known = record { ids = ids; reg = seen_reg kepts gathered asked; known = known }

abbrev pub Holds : {A : Type 0} → List ℕ → List (KnownDevice A) → Gatherings → List Asked → List Known → Type 0
Holds keys kepts gathered asked known = IsDesk keys (outs kepts) (seen_reg kepts gathered asked) known

-- the device that was found by its address, as it is kept
module _ {A : Type 0} (kepts : List (KnownDevice A)) (addr place : ℕ) where
  abbrev test : Device → Bool
  test d = d.setting.addr == addr

  pub found_within : HasPlace shown test place kepts → place < length kepts
  found_within p = place_within shown test kepts place p

  pub found_at : (k : KnownDevice A) → k ≡ get_or kepts place k → HasPlace shown test place kepts → slice_get kepts place ≡ Some k
  found_at k g p = (is_placed shown test kepts place k p g).there

  pub found_kept : (k : KnownDevice A) → k ≡ get_or kepts place k → HasPlace shown test place kepts
      → device_with addr (map shown kepts) ≡ Some (place, shown k)
  found_kept k g p = (is_placed shown test kepts place k p g).found

-- a device is written anew
module _ {A : Type 0} (kepts : List (KnownDevice A)) (gathered : Gatherings) (asked : List Asked) (known : List Known) (place : ℕ)
    (k new : KnownDevice A) (at : slice_get kepts place ≡ Some k) where
  -- what is true of the desk's fields stays so where the device keeps its setting
  pub written_holds : (keys : List ℕ) → Holds keys kepts gathered asked known → (more : List Known) → new.setting ≡ k.setting
      → (IsServable (shown k) → IsServable (shown new)) → length more ≡ length known
      → AreOut (outs (slice_set kepts place new)) asked more
      → Holds keys (slice_set kepts place new) gathered asked more
  written_holds keys i more s servable l out =
      let there : slice_get (map shown kepts) place ≡ Some (shown k) = map_there shown kepts place k at in
      rw (map-set shown kepts place new) (record {
        addrs = i.addrs ∙ sym (map_set (λ (d : Device). d.setting.addr) (map shown kepts) place (shown k) (shown new) there
            (ap (λ x. x.addr) s));
        asked = i.asked;
        told = l ∙ i.told;
        placed = λ n a h. omega (arith, i.placed n a h, length-set (map shown kepts) place (shown new));
        servable = All-set IsServable (map shown kepts) place (shown new)
            (servable (all_get IsServable (map shown kepts) place (shown k) i.servable there)) i.servable;
        gathered = i.gathered;
        engaged = out;
      })

  -- and as many tickets of it are out as before
  pub queued_holds : (keys : List ℕ) → Holds keys kepts gathered asked known → new.setting ≡ k.setting
      → (IsServable (shown k) → IsServable (shown new)) → new.out ≡ k.out
      → Holds keys (slice_set kepts place new) gathered asked known
  queued_holds keys i s servable o =
      written_holds keys i known s servable refl (rw (map_set (λ (x : KnownDevice A). x.out) kepts place k new at o) i.engaged)

  -- a payload that was queued is the step, and one that was refused changes nothing
  pub queued_step : (ids : List ℕ) (addr : ℕ) (payload : Payload) (r : Result ℕ QueueFault)
      → device_with addr (map shown kepts) ≡ Some (place, shown k)
      → IfOk r (λ count. queued_or (shown k) (queue_fault (shown k) payload) ≡ Ok count)
      → OnOk r (shown new ≡ with_payload payload (shown k))
      → OnOk r (seen ids (slice_set kepts place new) gathered asked known
      ≡ desk_queue (seen ids kepts gathered asked known) addr payload)
  queued_step ids addr payload (Err fault) f t s = tt
  queued_step ids addr payload (Ok count) f t s = rw (map-set shown kepts place new, s, f, t) refl

  pub queued_refused : (ids : List ℕ) (r : Result ℕ QueueFault) → OnErr r (shown new ≡ shown k)
      → OnErr r (seen ids (slice_set kepts place new) gathered asked known ≡ seen ids kepts gathered asked known)
  queued_refused ids (Ok count) s = tt
  queued_refused ids (Err fault) s = rw (map_set shown kepts place k new at s) refl

-- what is said of the device with an address
pub ruleset by_address = (found_within, found_kept, found_at, queued_refused)

-- a payload that is queued is in its ranges
pub pushed_servable : (device new : Device) (payload : Payload) (r : Result ℕ QueueFault)
    → IfOk r (λ count. queued_or device (queue_fault device payload) ≡ Ok count)
    → OnOk r (new ≡ with_payload payload device) → OnErr r (new ≡ device) → IsServable device → IsServable new
pushed_servable device new payload (Ok count) told e f i =
    let may : IsSendable payload = record {
      port = (grind (arith, nat_tests, told), grind (arith, nat_tests, told));
      len = grind (arith, nat_tests, told);
    } in
    rw e (record { setting = i.setting; queue = All-push IsSendable device.queue payload i.queue may; down = i.down })
pushed_servable device new payload (Err fault) told e f i = rw f i

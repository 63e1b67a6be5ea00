-- An answer is settled, as the desk settles it.
use Rattle.server_desk.proofs.Words
use Words.{arith, ℕ, ◌≡◌, ◌-◌, Bool, true, false, if◌then◌else◌, List, slice_get, slice_set, get_or, Option, Some, refl, sym, ap}
use Words.{◌∙◌, get_or_from_slice_get, length-set, map-set, All-drop, Gatherings, numbered, Ending, KnownDevice, Known, Pending}
use Words.{Done, Sent, Device, Asked, sent_of, has_carried, is_here, may_settle, without_head, delivered, shown, outs, IsSendable}
use Words.{IsServable, desk_settled}
use Rattle.server_desk.proofs.DeskLemmas.{seen_reg, Holds, seen, written_holds}
use Rattle.server_desk.proofs.{TakeLemmas.number_too, TakeLemmas.out_there, Places.map_set, Places.map_there, Numbers.at_number}
use Rattle.server_desk.proofs.{OutLemmas.out_settled}

-- what may be settled is out, and on one of the gateways
pub is_out : (ids : List ℕ) (known : List Known) (n : ℕ) (ending : Ending) → may_settle ids known n ending ≡ true
    → (numbered n known ≡ Some Pending) × (is_here ids ending ≡ true)
is_out ids known n ending e = grind arith

-- a device without its payload is in its ranges
settled_servable : (t : Bool) (device : Device) → IsServable device → IsServable (if t then without_head device else device)
settled_servable true device i = record { setting = i.setting; queue = All-drop IsSendable 1 device.queue i.queue; down = i.down }
settled_servable false device i = i

module _ {A : Type 0} (keys : List ℕ) (kepts : List (KnownDevice A)) (gathered : Gatherings) (asked : List Asked)
    (known : List Known)
    (i : Holds keys kepts gathered asked known) (n : ℕ) (waits : numbered n known ≡ Some Pending) where
  -- what the uplink says of which the ticket was given
  pub its_uplink : (a : Asked) → a ≡ get_or asked (n - 1) a → numbered n asked ≡ Some a
  its_uplink a at =
      let x = number_too n known asked Pending (i.told ∙ sym i.asked) waits in
      x.1 ∙ ap Some (sym (get_or_from_slice_get asked (n - 1) x.0 a (at_number n asked x.0 x.1)) ∙ sym at)

  module _ (a : Asked) (uplink : numbered n asked ≡ Some a) (k new : KnownDevice A) (at : slice_get kepts a.device ≡ Some k)
      (carried : Bool) (s : shown new ≡ (if carried then without_head (shown k) else shown k)) where
    -- what is true of the desk's fields holds where the answer is settled
    pub settled_holds : (sent : Option Sent) → new.out ≡ false → new.setting ≡ k.setting
        → Holds keys (slice_set kepts a.device new) gathered asked (slice_set known (n - 1) (Done sent))
    settled_holds sent o same =
        let out = out_settled (outs kepts) asked known (n - 1) a (at_number n asked a uplink) i.engaged sent k.out
        (at_number n known Pending waits) (out_there keys kepts gathered asked known i n a uplink k at) in
        written_holds kepts gathered asked known a.device k new at keys i (slice_set known (n - 1) (Done sent)) same
        (rw s (settled_servable carried (shown k))) (length-set known (n - 1) (Done sent))
        (rw (map-set (λ (x : KnownDevice A). x.out) kepts a.device new, o) out)

    -- and it is the step
    step_by : (ids : List ℕ) (after : List Known) (t : Bool) → t ≡ carried
        → seen ids (slice_set kepts a.device new) gathered asked after ≡ record (seen ids kepts gathered asked after)
        { reg = if t then delivered (numbered n asked) (seen_reg kepts gathered asked) else seen_reg kepts gathered asked }
    step_by ids after true e =
        let s = rw (← e) at s in
        rw (uplink, map_there shown kepts a.device k at, map-set shown kepts a.device new, s) refl
    step_by ids after false e =
        let s = rw (← e) at s in
        rw (map_set shown kepts a.device k new at s) refl

    pub settled_here : (ids : List ℕ) (ending : Ending) → has_carried ending ≡ carried
        → seen ids (slice_set kepts a.device new) gathered asked (slice_set known (n - 1) (Done (sent_of ending)))
        ≡ desk_settled ending n (seen ids kepts gathered asked known)
    settled_here ids ending c = rw (c, waits) (step_by ids (slice_set known (n - 1) (Done (sent_of ending))) carried refl)

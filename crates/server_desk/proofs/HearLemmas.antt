-- A copy of an uplink, as the desk hears it.
use Rattle.server_desk.proofs.Words
use Words.{length_push, nat_tests, slice_get_within, decide, ℕ, ◌≡◌, ◌+◌, ◌<◌, ◌==◌, Bool, false, List, [], ◌∷◌, ◌++◌, map}
use Words.{length, slice_get, slice_set, Some, Result, Ok, Err, IfOk, OnErr, MatchResult, IsOkUnless, refl, sym, ap, ◌∙◌, arith}
use Words.{addr_of, Heard, HearFault, Gatherings, hear_answer, after_hearing, with_copy, hear_step, KnownDevice, Known, NotGiven}
use Words.{NewUplink, Heard1, Device, Asked, Register, copy_of, answer_to, shown, IsServable, IsDesk, desk_answer, desk_hear}
use Words.{length-map, length-set, map-set, All-push, DeskFault, NoMemory, same_Some}
use Rattle.server_desk.proofs.DeskLemmas.{Holds, seen_reg, seen, queued_holds}
use Rattle.server_desk.proofs.{Places.map_there, Places.found_there, Numbers.length-rewritten}
use Rattle.server_desk.proofs.{OutLemmas.count_push, CopyLemmas.all_heard, Decided.IsJoin, Decided.IsNew}
use Rattle.uplink_gather.specs.Hearing.{opening}
use Rattle.server_desk.specs.declared.heard.DeskHeard.{DeskHeard}
use Rattle.uplink_gather.specs.declared.answers.Heard.TheVariants as gathers
use Rattle.uplink_gather.specs.declared.fault.HearFault.TheVariants as gathering

-- the desk's answer follows from that of the gatherings
pub answered : (repeat : Bool) (a r : Result Heard HearFault)
    → MatchResult a (λ _. IsOkUnless r gathering.NoMemory) (λ fault. r ≡ Err fault)
    → MatchResult (desk_answer repeat a) (λ _. IsOkUnless (desk_answer repeat r) NoMemory)
    (λ fault. desk_answer repeat r ≡ Err fault)
answered repeat a r h = grind (arith, h)

pub told : (repeat : Bool) (a r : Result Heard HearFault) → IfOk r (λ heard. a ≡ Ok heard)
    → IfOk (desk_answer repeat r) (λ told. desk_answer repeat a ≡ Ok told)
told repeat a r h = grind (arith, h)

-- where the desk's answer is a fault, the gathering's was one
pub was_fault : (P : Type 0) (repeat : Bool) (r : Result Heard HearFault) (fault : DeskFault) → desk_answer repeat r ≡ Err fault
    → OnErr r P → P
was_fault P repeat (Ok (gathers.Opened n)) fault e h = absurd (cc)
was_fault P repeat (Ok (gathers.Joined n copies)) fault e h = absurd (cc)
was_fault P repeat (Err f) fault e h = h

-- and where it is none, the gathering's is the one that was told
pub was_told : (repeat : Bool) (a r : Result Heard HearFault) (x : DeskHeard) → desk_answer repeat r ≡ Ok x
    → IfOk r (λ heard. a ≡ Ok heard) → r ≡ a
was_told repeat a r x q h = grind arith

-- a copy joins a gathering
module _ {ids : List ℕ} {reg : Register} {bytes : List ℕ} {heard : Heard1} {arrived n : ℕ}
    (j : IsJoin ids reg bytes heard arrived n) where
  pub join_answer : answer_to (decide ids reg bytes heard arrived) reg
      ≡ desk_answer false (hear_answer reg.gathered bytes heard.gateway arrived)
  join_answer = rw (j.decided_so, j.so.place) refl

  -- no gathering more, then
  joined_length : (r : Result Heard HearFault) → IfOk r (λ h. hear_answer reg.gathered bytes heard.gateway arrived ≡ Ok h)
      → length (after_hearing r reg.gathered bytes (copy_of heard) arrived).list ≡ length reg.gathered.list
  joined_length (Ok (gathers.Opened k)) h = let e = rw j.so.place at h in absurd (cc (e))
  joined_length (Ok (gathers.Joined k copies)) h = length-rewritten (with_copy (copy_of heard)) k reg.gathered.list
  joined_length (Err fault) h = refl

  -- the desk's fields hold
  pub join_holds : (keys : List ℕ) (flags : List Bool) (known : List Known) (r : Result Heard HearFault)
      → IfOk r (λ h. hear_answer reg.gathered bytes heard.gateway arrived ≡ Ok h) → IsDesk keys flags reg known
      → IsDesk keys flags (record reg { gathered = after_hearing r reg.gathered bytes (copy_of heard) arrived }) known
  join_holds keys flags known r h i =
      let same = sym (joined_length r h) in
      let gathered = all_heard reg.gathered bytes (copy_of heard) arrived r h j.so.early i.gathered in
      assumption (i.asked ∙ same, i.told ∙ same, gathered, i)

-- a copy opens a gathering
module _ {A : Type 0} (ids : List ℕ) (kepts : List (KnownDevice A)) (gathered : Gatherings) (asked : List Asked) {bytes : List ℕ}
    {heard : Heard1} {arrived : ℕ} {new : NewUplink}
    (n : IsNew ids (seen_reg kepts gathered asked) bytes heard arrived new) where
  opened : hear_answer gathered bytes heard.gateway arrived ≡ Ok (gathers.Opened (length gathered.list + 1))
  opened = rw (n.so.place, n.so.room) refl

  pub open_answer : answer_to (decide ids (seen_reg kepts gathered asked) bytes heard arrived) (seen_reg kepts gathered asked)
      ≡ desk_answer new.repeat (hear_answer gathered bytes heard.gateway arrived)
  open_answer = rw (n.decided_so, opened, ← n.is) refl

  -- the device stands among the others
  there : slice_get (map shown kepts) new.asked.device ≡ Some n.opening.device
  there =
      rw (ap (λ (u : NewUplink). u.asked.device) n.is) at
      (found_there (λ (x : Device). x.setting.addr == addr_of bytes) (map shown kepts)
      (n.opening.place, n.opening.device) n.so.found).0

  pub open_within : new.asked.device < length kepts
  open_within = omega (arith, slice_get_within (map shown kepts) new.asked.device n.opening.device there, length-map kepts shown)

  -- and there is room for it
  pub open_room : length gathered.list < gathered.limits.max_ever
  open_room = let room = n.so.room in grind (arith, nat_tests, room)

  module _ (known : List Known) (k new_kept : KnownDevice A) (at : slice_get kepts new.asked.device ≡ Some k)
      (s : shown new_kept ≡ record (shown k) { up = Some new.counter }) where
    -- the desk's fields hold
    pub open_holds : (keys : List ℕ) → Holds keys kepts gathered asked known → new_kept.out ≡ k.out
        → Holds keys (slice_set kepts new.asked.device new_kept) (hear_step gathered bytes (copy_of heard) arrived)
        (asked ++ new.asked ∷ []) (known ++ NotGiven ∷ [])
    open_holds keys i o =
        let servable : IsServable (shown k) → IsServable (record (shown k) { up = Some new.counter }) =
        λ h. record { setting = h.setting; queue = h.queue; down = h.down } in
        let j = queued_holds kepts gathered asked known new.asked.device k new_kept at keys i (ap (λ (x : Device). x.setting) s)
        (rw s servable) o in
        let more : List (KnownDevice A) = slice_set kepts new.asked.device new_kept in
        let here : new.asked.device < length (map shown more) =
        omega (arith, open_within, length-map more shown, length-set kepts new.asked.device new_kept) in
        let longer = length_push gathered.list (opening bytes (copy_of heard) arrived) in
        let r : Result Heard HearFault = Ok (gathers.Opened (length gathered.list + 1)) in
        rw opened (record {
          addrs = j.addrs;
          asked = omega (arith, length_push asked new.asked, longer, i.asked);
          told = omega (arith, length_push known NotGiven, longer, i.told);
          placed = All-push (λ (x : Asked). x.device < length (map shown more)) asked new.asked j.placed here;
          servable = j.servable;
          gathered = all_heard gathered bytes (copy_of heard) arrived r opened n.so.early i.gathered;
          engaged = λ p b q. count_push p asked known new.asked (i.asked ∙ sym i.told) ∙ j.engaged p b q;
        })

    -- and it is the step
    pub open_step : seen ids (slice_set kepts new.asked.device new_kept) (hear_step gathered bytes (copy_of heard) arrived)
        (asked ++ new.asked ∷ []) (known ++ NotGiven ∷ []) ≡ desk_hear (seen ids kepts gathered asked known) bytes heard arrived
    open_step =
        let same : shown k ≡ n.opening.device = same_Some _ _ (sym (map_there shown kepts new.asked.device k at) ∙ there) in
        rw (n.decided_so, map-set shown kepts new.asked.device new_kept, s, ← same, ← n.is) refl

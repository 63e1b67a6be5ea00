-- What is known of a copy that joins a gathering, or opens one.
use Rattle.server_desk.proofs.Words
use Words.{ℕ, ◌≡◌, ◌≢◌, ◌^◌, ◌≤◌, false, true, List, Option, Some, None, Result, Ok, Err, refl, sym, ap, ◌∙◌, arith, nat_tests}
use Words.{addr_of, uplink_record, uplink_of, Joins, Opens, place_of, is_crowded, Heard1, NewUplink, Register, device_with}
use Words.{Decision, Refuse, Join, Open, Opening, HearFault, DeskFault, decide, decide_copy, decide_place, decide_frame}
use Words.{copy_fault, is_last, asked_by, is_among, verdict_of}
use Rattle.lora_frame.specs.{declared.reading.Uplink.Uplink, declared.reading.FrameFault.FrameFault}
use Rattle.uplink_gather.specs.declared.answers.Place.{Place}
use Rattle.server_desk.specs.declared.verdict.Verdict.TheVariants as says

-- what was read of the bytes is their record
pub read_same : (bytes : List ℕ) (u : Uplink) → uplink_of bytes ≡ Ok u → uplink_record bytes ≡ u
read_same bytes u e = grind arith

module _ (ids : List ℕ) (reg : Register) (bytes : List ℕ) (heard : Heard1) (arrived : ℕ) where
  right : copy_fault ids heard arrived ≡ None → (is_among ids heard.gateway ≡ true) × (heard.at ≤ 2 ^ 60)
  right e = grind (arith, nat_tests)

  join_by : (u : Uplink) (p : Result Place HearFault) (n : ℕ) → decide_place reg bytes u p ≡ Join n → p ≡ Ok (Joins n)
  join_by u p n e = grind arith

  open_by : (u : Uplink) (p : Result Place HearFault) (o : Opening) → decide_place reg bytes u p ≡ Open o
      → (p ≡ Ok Opens) × (is_crowded reg.gathered ≡ false) × (device_with u.addr reg.devices ≡ Some (o.place, o.device))
  open_by u p o e = grind arith

  -- a gateway here heard it by the last moment, and its gathering takes it
  pub record IsToJoin (n : ℕ) : Type 0 where
    pub place : place_of reg.gathered bytes heard.gateway arrived ≡ Ok (Joins n)
    pub here : is_among ids heard.gateway ≡ true
    pub early : heard.at ≤ 2 ^ 60

  -- or no gathering does, there is room for one, and it is of a device
  pub record IsToOpen (o : Opening) : Type 0 where
    pub place : place_of reg.gathered bytes heard.gateway arrived ≡ Ok Opens
    pub room : is_crowded reg.gathered ≡ false
    pub found : device_with (addr_of bytes) reg.devices ≡ Some (o.place, o.device)
    pub here : is_among ids heard.gateway ≡ true
    pub early : heard.at ≤ 2 ^ 60

  -- it was read, its own numbers are right, and it goes where its bytes do
  read : (r : Result Uplink FrameFault) (o : Option DeskFault) (d : Decision) → decide_frame ids reg bytes heard arrived r ≡ d
      → copy_fault ids heard arrived ≡ o → ((fault : DeskFault) → d ≢ Refuse fault)
      → (u : Uplink) × (r ≡ Ok u) × (decide_place reg bytes u (place_of reg.gathered bytes heard.gateway arrived) ≡ d)
      × (is_among ids heard.gateway ≡ true) × (heard.at ≤ 2 ^ 60)
  read (Err fault) o d e c n = absurd (n _ (sym e))
  read (Ok u) (Some fault) d e c n = absurd (n fault (sym e ∙ ap (decide_copy reg bytes heard arrived u) c))
  read (Ok u) None d e c n = (u, refl, sym (ap (decide_copy reg bytes heard arrived u) c) ∙ e, (right c).0, (right c).1)

  pub join_decided : (n : ℕ) → decide ids reg bytes heard arrived ≡ Join n → IsToJoin n
  unfolding decide
  join_decided n e =
      let g = read (uplink_of bytes) (copy_fault ids heard arrived) (Join n) e refl (λ f q. absurd (cc (q))) in
      record { place = join_by g.0 _ n g.2; here = g.3; early = g.4 }

  pub open_decided : (o : Opening) → decide ids reg bytes heard arrived ≡ Open o → IsToOpen o
  unfolding decide
  open_decided o e =
      let g = read (uplink_of bytes) (copy_fault ids heard arrived) (Open o) e refl (λ f q. absurd (cc (q))) in
      let p = open_by g.0 _ o g.2 in
      let found = ap (λ (u : Uplink). device_with u.addr reg.devices) (read_same bytes g.0 g.1) ∙ p.2 in
      record { place = p.0; room = p.1; found = found; here = g.3; early = g.4 }

  -- what a verdict was given for
  pub record IsJoin (n : ℕ) : Type 0 where
    pub decided_so : decide ids reg bytes heard arrived ≡ Join n
    pub so : IsToJoin n

  pub record IsNew (new : NewUplink) : Type 0 where
    pub opening : Opening
    pub decided_so : decide ids reg bytes heard arrived ≡ Open opening
    pub so : IsToOpen opening
    pub is : record { counter = opening.counter; repeat = is_last opening.device opening.counter; asked = asked_by opening bytes }
        ≡ new

  pub is_join : (n : ℕ) → verdict_of bytes (decide ids reg bytes heard arrived) ≡ says.Join n → IsJoin n
  is_join n e = grind (arith, join_decided)

  pub is_new : (new : NewUplink) → verdict_of bytes (decide ids reg bytes heard arrived) ≡ says.Open new → IsNew new
  is_new new e = grind (arith, open_decided)

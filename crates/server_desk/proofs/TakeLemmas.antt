-- A ticket is given, as the desk gives it.
use Rattle.server_desk.proofs.Words
use Words.{slice_get_read, get_or, ℕ, zero, suc, ◌≡◌, ◌-◌, ◌^◌, ◌<◌, ◌≤◌, true, false, List, [], ◌∷◌, map, length, All, slice_get}
use Words.{slice_set, Option, Some, None, Result, Ok, Err, IfOk, refl, option_map, ForSome, sym, ap, ◌∙◌, subst, arith, nat_tests}
use Words.{length-map, length-set, map-set, All-head, HeardCopy, Gatherings, numbered, is_closed_at, copies_of, length-ranked}
use Words.{All-ranked, IsHeard, Job, Payload, IsJob, IsPort, payload_len, KnownDevice, Known, NotGiven, Pending, is_not_given}
use Words.{Device, Asked, head, is_engaged, job_for, fault_of, given_or, take_answer, with_counter_given, shown, outs, IsSendable}
use Words.{IsServable, longest_payload, IsGathered, MayBeGiven, desk_take, TakeFault, same_Some, slice_get_cases, slice_get_within}
use Words.{inl, inr}
use Rattle.server_desk.proofs.Places.{map_there, all_get}
use Rattle.server_desk.proofs.DeskLemmas.{seen_reg, Holds, seen, written_holds}
use Rattle.server_desk.proofs.{Numbers.at_number, OutLemmas.engaged_is, OutLemmas.out_given}
use Rattle.rx_windows.specs.Rank.{ranked}
use Rattle.answer_ticket.specs.Ticket.{Standing}

-- the job that a ticket is given for
head_port : (queue : List Payload) → All IsSendable queue → ForSome (head queue) (λ b. IsPort b.0)
head_port [] h x e = absurd (cc)
head_port (p ∷ queue) h x e = subst (λ y. IsPort y.0) (same_Some _ _ e) (All-head IsSendable p queue h).port

head_len : (queue : List Payload) → All IsSendable queue
    → ForSome (option_map payload_len (head queue)) (λ n. n ≤ longest_payload)
head_len [] h x e = absurd (cc)
head_len (p ∷ queue) h x e = subst (λ n. n ≤ longest_payload) (same_Some _ _ e) (All-head IsSendable p queue h).len

is_job : (device : Device) (n : ℕ) (a : Asked) (copies : List HeardCopy) → IsServable device → 0 < length copies
    → All IsHeard copies → IsJob (job_for device n a (ranked copies))
is_job device n a copies s some h =
    record {
      heard_by_one = omega (arith, some, length-ranked copies);
      heard = All-ranked IsHeard copies h;
      plan = record {
        delay_from = s.setting.delay.0;
        delay_to = s.setting.delay.1;
        offset = s.setting.offset.1;
        payload = head_len device.queue s.queue;
      };
      port = head_port device.queue s.queue;
      len = refl;
    }

-- a list that is as long has this number too
pub number_too : {X Y : Type 0} (n : ℕ) (xs : List X) (ys : List Y) (x : X) → length xs ≡ length ys → numbered n xs ≡ Some x
    → (y : Y) × (numbered n ys ≡ Some y)
number_too zero xs ys x l e = absurd (cc)
number_too (suc i) xs ys x l e = elim (slice_get_cases ys i).1
    [ inl h ↦ (h.0, h.2) | inr h ↦ absurd (omega (arith, h.0, l, slice_get_within xs i x e)) ]

-- what is true of a known uplink on a desk
module _ {A : Type 0} (keys : List ℕ) (kepts : List (KnownDevice A)) (gathered : Gatherings) (asked : List Asked)
    (known : List Known)
    (i : Holds keys kepts gathered asked known) (n : ℕ) (a : Asked) (p : numbered n asked ≡ Some a) where
  -- its device stands among the others
  pub within_here : a.device < length kepts
  within_here =
      let Stands : Asked → Type 0 = λ x. x.device < length (map shown kepts) in
      omega (arith, all_get Stands asked (n - 1) a i.placed (at_number n asked a p), length-map kepts shown)

  -- its copies are in their ranges
  own_copies : (0 < length (copies_of n gathered.list)) × (All IsHeard (copies_of n gathered.list))
  own_copies =
      let g = number_too n asked gathered.list a i.asked p in
      let own : IsGathered g.0 = all_get IsGathered gathered.list (n - 1) g.0 i.gathered (at_number n gathered.list g.0 g.1) in
      rw g.1 (own.copied, own.heard)

  pub at_here : (k : KnownDevice A) → k ≡ get_or kepts a.device k → slice_get kepts a.device ≡ Some k
  at_here k g = slice_get_read kepts (length kepts) a.device k refl within_here g

  module _ (k : KnownDevice A) (at : slice_get kepts a.device ≡ Some k) where
    there : slice_get (map shown kepts) a.device ≡ Some (shown k)
    there = map_there shown kepts a.device k at

    pub out_there : slice_get (outs kepts) a.device ≡ Some k.out
    out_there = map_there (λ (x : KnownDevice A). x.out) kepts a.device k at

    engaged : is_engaged a.device asked known ≡ k.out
    engaged = engaged_is (outs kepts) asked known a.device k.out i.engaged out_there

    -- the answer to `take`, by what is found
    module _ (s : Known) (closed : true ≡ is_closed_at n gathered.list) (q : Some s ≡ numbered n known)
        (t : true ≡ is_not_given s) where
      pub answer_is : (o : Option TakeFault) → o ≡ fault_of a (shown k) k.out
          → take_answer (seen_reg kepts gathered asked) known n ≡ given_or (seen_reg kepts gathered asked) n a (shown k) o
      unfolding take_answer
      answer_is o f = rw (← closed, p, ← q, ← t, there, engaged, ← f) refl

      waiting : (x : Known) → true ≡ is_not_given x → Some x ≡ numbered n known → numbered n known ≡ Some NotGiven
      waiting x h e = grind arith

      pub is_ready : None ≡ fault_of a (shown k) k.out → MayBeGiven (seen_reg kepts gathered asked) known n a
      is_ready f =
          record {
            uplink = p;
            waits = waiting s t q;
            device = shown k;
            served = there;
            free = rw engaged (sym f);
            answer = answer_is None f;
          }

    -- a ticket may be given
    module _ (ready : MayBeGiven (seen_reg kepts gathered asked) known n a) where
      same_device : ready.device ≡ shown k
      same_device = same_Some _ _ (sym ready.served ∙ there)

      -- no other is out, and a counter is left
      free : (k.out ≡ false) × (k.down < 2 ^ 32)
      free =
          let fault = ready.free in
          let out : is_engaged a.device asked known ≡ false = grind (arith, fault) in
          let left : ready.device.down < 2 ^ 32 = grind (arith, nat_tests, fault) in
          (sym engaged ∙ out, rw same_device at left)

      -- the job, as the desk makes it
      pub job_here : take_answer (seen_reg kepts gathered asked) known n
          ≡ Ok (job_for (shown k) n a (ranked (copies_of n gathered.list)))
      job_here = rw (ready.answer, same_device) refl

      pub is_job_here : IsJob (job_for (shown k) n a (ranked (copies_of n gathered.list)))
      is_job_here =
          let servable = all_get IsServable (map shown kepts) a.device (shown k) i.servable there in
          is_job (shown k) n a (copies_of n gathered.list) servable own_copies.0 own_copies.1

      -- what is true of the desk's fields holds where the ticket is out
      module _ (new : KnownDevice A) (e : shown new ≡ with_counter_given (shown k)) where
        pub given_holds : new.out ≡ true
            → Holds keys (slice_set kepts a.device new) gathered asked (slice_set known (n - 1) Pending)
        given_holds o =
            let counted : IsServable (shown k) → IsServable (with_counter_given (shown k)) =
            λ s. record { setting = s.setting; queue = s.queue; down = omega (arith, free.1) } in
            let was : slice_get (outs kepts) a.device ≡ Some false = rw free.0 at out_there in
            let out = out_given (outs kepts) asked known (n - 1) a (at_number n asked a p) i.engaged
            (at_number n known NotGiven ready.waits) was in
            written_holds kepts gathered asked known a.device k new at keys i (slice_set known (n - 1) Pending)
            (ap (λ (x : Device). x.setting) e) (rw e counted) (length-set known (n - 1) Pending)
            (rw (map-set (λ (x : KnownDevice A). x.out) kepts a.device new, o) out)

        -- and it is the step
        pub given_here : (ids : List ℕ) → seen ids (slice_set kepts a.device new) gathered asked (slice_set known (n - 1) Pending)
            ≡ desk_take (seen ids kepts gathered asked known) n
        given_here ids = rw (ready.answer, p, there, ready.waits, map-set shown kepts a.device new, e) refl

pub ticket_told : {E : Type 0} (r : Result Standing E) (job : Job) (answer : Result Job TakeFault)
    → IfOk r (λ t. t ≡ record { job = job; at = 0 }) → answer ≡ Ok job → IfOk r (λ t. answer ≡ Ok t.job)
ticket_told (Ok t) job answer h e = e ∙ ap (λ (s : Standing). Ok s.job) (sym h)
ticket_told (Err fault) job answer h e = tt

-- A ticket is given: what is known of its uplink, and what holds of the world then.
use Rattle.server_core.proofs.Words
use Words.{arith, inl, inr, subst, sym, true≢false, ◌∙◌, Err, List, Ok, Result, Some, map, refl, slice_get, true, ℕ, ◌≡◌, ◌⊎◌}
use Words.{copies_of, numbered, IsWindowOf, IsWindowOf-ranked, on_gateways_that_heard, candidates_of, Candidate, Job}
use Words.{candidate_at, Answer, Open, Waiting, is_not_given, known_of, numbered-here, all_get, get_set_same, same_Some, Device}
use Words.{Register, job_of, with_counter_given, Gateway, World, known, AreSettings, SettingLists, Asked, Known, TakeFault}
use Words.{take, take_by, take_answer, numbered-map}
use Rattle.server_core.proofs.Holds.{IsJobAt, Holds, IsGood, IsGoodStep, IsNew, IsUsed, Holds-weaker, has_now}
use Rattle.server_core.proofs.Holds.{unchanged, both_good, device_setting}
use Rattle.server_core.proofs.Members.{apart_once}
use Rattle.server_core.proofs.Written.{with_device, device_written, with_answer, answer_written}

-- no ticket was given for it before, and the job is made of what is known of it and of its device
pub record IsTicket (reg : Register) (known : List Known) (n : ℕ) (job : Job) : Type 0 where
  pub asked : Asked
  pub there : numbered n reg.asked ≡ Some asked
  pub state : Known
  pub stated : numbered n known ≡ Some state
  pub waits : is_not_given state ≡ true
  pub device : Device
  pub served : slice_get reg.devices asked.device ≡ Some device
  pub made : job_of reg n asked device ≡ job

pub ticket : (reg : Register) (known : List Known) (n : ℕ) (job : Job) → take_answer reg known n ≡ Ok job
    → IsTicket reg known n job
unfolding take_answer
ticket reg known n job e = grind arith

-- the answer of such an uplink waits
pub still_waits : (answers : List Answer) (n : ℕ) (k : Known) → numbered n (map known_of answers) ≡ Some k → is_not_given k ≡ true
    → numbered n answers ≡ Some Waiting
still_waits answers n k e t = let same = numbered-map known_of n answers in grind (arith, e, t, same)

-- each candidate of such a job is RX1 or RX2 of a copy of the uplink
pub job_window : (reg : Register) (n : ℕ) (asked : Asked) (device : Device) (k : ℕ) (c : Candidate)
    → candidate_at (job_of reg n asked device) k ≡ Some c
    → IsWindowOf (job_of reg n asked device).plan (copies_of n reg.gathered.list) c
job_window reg n asked device k c e =
    let job : Job = job_of reg n asked device in
    IsWindowOf-ranked job.plan (copies_of n reg.gathered.list) c
    (all_get (IsWindowOf job.plan job.copies) (candidates_of job.copies job.plan) k c
    (on_gateways_that_heard job.plan job.copies) e)

module _ {settings : SettingLists} (are : AreSettings settings.gateways settings.devices) {past : List Gateway}
    {T : Job → Type 0} {w : World} (h : Holds settings past T w) (n : ℕ) where
  module _ (asked : Asked) (there : numbered n w.reg.asked ≡ Some asked) (waits : numbered n w.answers ≡ Some Waiting)
      (device : Device) (served : slice_get w.reg.devices asked.device ≡ Some device)
      (told : T (job_of w.reg n asked device)) where
    abbrev job : Job
    job = job_of w.reg n asked device

    job_at : IsJobAt settings T w.reg.gathered.list n job
    job_at =
        let u = h.asked n asked there in
        let served_is = device_setting h asked.device device served in
        let same : u.own.setting ≡ device.setting = same_Some _ _ (sym u.own.served ∙ served_is) in
        record {
          number = refl;
          given = told;
          gathering = u.now.member;
          own = record {
            place = asked.device;
            uplink = record {
              setting = device.setting;
              served = served_is;
              its_own = rw (← same, u.now.is.bytes) u.own.its_own;
            };
            addr = refl;
            plan = refl;
            windows = λ k c e. rw u.now.there at (job_window w.reg n asked device k c e);
          };
          now = has_now w.reg.gathered.list n u.now.member u.now.there;
        }

    abbrev counted : World
    counted = with_device h asked.device (with_counter_given device)

    first : IsGood settings past T w counted
    first = device_written h asked.device device (with_counter_given device) served refl (omega arith)

    abbrev given : World
    given = with_answer first.holds n (Open 0 job)

    given_good : IsGood settings past T w given
    given_good = both_good first (answer_written first.holds n Waiting (Open 0 job) waits (λ s q. absurd (cc (q))) refl
        (λ k j q. let same : job ≡ j = cc (q) in subst (IsJobAt settings T w.reg.gathered.list n) same job_at))

    new : IsNew w job
    new = record {
      number = λ g. let same : g.member ≡ Waiting = same_Some _ _ (sym g.there ∙ waits) in true≢false (rw same at g.is);
      counter = λ p d e a.
          let place = apart_once (λ x. x.setting) (λ x. x.addr) w.reg.devices settings.devices h.devices are.addrs_differ p
          asked.device d device e served a in
          let same : d ≡ device = same_Some _ _ (sym (rw place at e) ∙ served) in
          rw same (omega arith);
    }

    used : IsUsed given job
    used =
        record {
          number = record { member = Open 0 job; there = numbered-here (λ a. Open 0 job) n w.answers Waiting waits; is = refl };
          place = asked.device;
          device = with_counter_given device;
          there = get_set_same w.reg.devices asked.device device (with_counter_given device) served;
          addr = refl;
          counter = omega arith;
        }

    taken_good : IsGood settings past T w (take_by w n (Ok job)).0 × (IsNew w job × IsUsed (take_by w n (Ok job)).0 job)
    taken_good = rw (there, served) (given_good, (new, used))

module _ {settings : SettingLists} (are : AreSettings settings.gateways settings.devices) {past : List Gateway}
    {T : Job → Type 0} {w : World} (h : Holds settings past T w) (n : ℕ) where
  -- a ticket was given for one job more
  given_step : (asked : Asked) (device : Device) → numbered n w.reg.asked ≡ Some asked → numbered n w.answers ≡ Some Waiting
      → slice_get w.reg.devices asked.device ≡ Some device → IsGoodStep settings past T w
      (take_by w n (Ok (job_of w.reg n asked device)))
  given_step asked device there waits served =
      let job = job_of w.reg n asked device in
      let U : Job → Type 0 = λ j. T j ⊎ (j ≡ job) in
      let all = taken_good are (Holds-weaker settings past T U (λ j t. inl t) w h) n asked there waits device served
      (inr refl) in
      record { good = all.0; used = all.1 }

  taken_by : (r : Result Job TakeFault) → take_answer w.reg (known w) n ≡ r → IsGoodStep settings past T w (take_by w n r)
  taken_by (Err fault) e = record { good = unchanged h; used = tt }
  taken_by (Ok made) e =
      let t = ticket w.reg (known w) n made e in
      subst (λ j. IsGoodStep settings past T w (take_by w n (Ok j))) t.made
      (given_step t.asked t.device t.there (still_waits w.answers n t.state t.stated t.waits) t.served)

  pub take_good : IsGoodStep settings past T w (take w n)
  take_good = taken_by (take_answer w.reg (known w) n) refl

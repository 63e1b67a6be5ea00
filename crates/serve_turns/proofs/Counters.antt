-- The downlinks of a pass are answers to devices, each with a counter that was given to it.
use Rattle.std.proofs.Common.{◌≡◌, ◌∙◌, ◌≤◌, ◌<◌, ◌+◌, ◌^◌, ◌++◌, Bool, true, false, List, [], ◌∷◌, ℕ, All, Option, Some, None, Result, Ok, Err, ap, arith, map, refl, subst, sym}
use Rattle.std.specs.Prelude.{◌==◌, drop, length, nat_lt, slice_get, suc, ⊤}
use Rattle.std.proofs.lemmas.Bool.{eq-eqb, eqb-true}
use Rattle.std.proofs.lemmas.Bool.Decides.{nat_tests}
use Rattle.std.proofs.lemmas.List.Elements.{All-cons, All-nil, All-weaker}
use Rattle.std.proofs.lemmas.Nat.{from_le_bytes-to_le_bytes_4}
use Rattle.std.proofs.lemmas.Option.{same_Some}
use Rattle.uplink_gather.specs.Gatherings.{numbered, rewritten}
use Rattle.gateway_book.specs.declared.refusal.Refusal.{Refusal}
use Rattle.rx_windows.specs.declared.candidate.Candidate.{Candidate}
use Rattle.lora_frame.specs.Frame.{down_frame}
use Rattle.lora_frame.specs.Reading.{addr_of}
use Rattle.answer_ticket.specs.declared.outcome.Ending.TheVariants as ends
use Rattle.answer_ticket.specs.Job.{Job, candidate_at, candidates, frame_for}
use Rattle.server_desk.specs.declared.faults.TakeFault.{TakeFault}
use Rattle.server_desk.specs.declared.faults.TakeFault.TheVariants as takes
use Rattle.server_desk.specs.declared.setting.DeviceSetting.{DeviceSetting}
use Rattle.server_desk.specs.Answers.{Answer, Waiting, Open as Tried_at, Booked, Out, Settled}
use Rattle.server_desk.specs.Register.{Device, device_with, first_at}
use Rattle.server_desk.specs.declared.answers.Asked.{Asked}
use Rattle.server_desk.specs.Taking.{job_of, keys_of, take_answer, with_counter_given}
use Rattle.server_desk.specs.World.{World, known}
use Rattle.server_desk.proofs.Numbers.{numbered-here}
use Rattle.server_desk.proofs.Places.{all_get, found_there, get_set_same, map_there}
use Rattle.server_core.proofs.DeskSteps.{by_option, try_walk}
use Rattle.server_core.proofs.Members.{apart_once}
use Rattle.server_core.proofs.TakeStep.{still_waits, ticket}
use Rattle.server_core.specs.declared.entry.Line.{Line}
use Rattle.server_core.specs.Entries.{lines_for, not_taken, sent_as, sent_lines, step_lines}
use Rattle.server_core.specs.Schedule.{answer_steps, closing_steps, given_steps, is_accepted, pass_steps, reached, up_to_first}
use Rattle.server_core.specs.Steps.{After, Reply, Step, Queue, Hear, Pass, Take, Settle, Try, Cancel, Tick, Queued, Heard, Passed, Given, Ended, Tried, Cancelled, Ticked, refused, run_from, sent_by, step, take_by, tried_by, try}
use Rattle.serve_downlinks.specs.Downlinks.{ToSend, downlinks}
use Rattle.serve_downlinks.specs.Batch.{addr_in}
use Rattle.serve_turns.specs.CounterLaw.{HaveOwnAddresses, IsCounted}
use Rattle.serve_turns.specs.Devices.{settings_of, without_counters}
use Rattle.serve_turns.proofs.DeviceSteps.{Keep, keep_both, keep_step, keep_steps, stood}

-- a job is for one of these devices, with its keys and a counter that was given to it, and not before
pub record IsGiven (old devices : List Device) (job : Job) : Type 0 where
  place : ℕ
  before : Device
  device : Device
  was : slice_get old place ≡ Some before
  there : slice_get devices place ≡ Some device
  set : without_counters before.setting ≡ without_counters device.setting
  addr : device.setting.addr ≡ job.addr
  keys : job.keys ≡ keys_of device.setting
  not_below : before.down ≤ job.counter
  below : job.counter < device.down

-- and so it is later on
given_on : (old devices new : List Device) (job : Job) → Keep devices new → IsGiven old devices job → IsGiven old new job
given_on old devices new job keep g =
    let later = keep.later g.place g.device g.there in
    record {
      place = g.place;
      before = g.before;
      device = later.device;
      was = g.was;
      there = later.there;
      set = g.set ∙ sym later.setting;
      addr = ap (λ (s : DeviceSetting). s.addr) later.setting ∙ g.addr;
      keys = g.keys ∙ ap keys_of (sym later.setting);
      not_below = g.not_below;
      below = omega (arith, g.below, later.counter);
    }

-- wherever the answer to this uplink is open, it is so for its job
abbrev IsOpenGiven : List Device → ℕ → World → Type 0
IsOpenGiven old n w = (k : ℕ) (job : Job) → numbered n w.answers ≡ Some (Tried_at k job) → IsGiven old w.reg.devices job

-- a ticket is given

module _ (old : List Device) (w : World) (n : ℕ) where
  given_of : (asked : Asked) (device : Device) → numbered n w.reg.asked ≡ Some asked → slice_get w.reg.devices asked.device ≡ Some device
      → Keep old w.reg.devices
      → IsGiven old (take_by w n (Ok (job_of w.reg n asked device))).0.reg.devices (job_of w.reg n asked device)
  given_of asked device there served keep =
      let b = stood old w.reg.devices keep asked.device device served in
      rw (there, served) (record {
        place = asked.device;
        before = b.0;
        device = with_counter_given device;
        was = b.1;
        there = get_set_same w.reg.devices asked.device device (with_counter_given device) served;
        set = b.2;
        addr = refl;
        keys = refl;
        not_below = b.3;
        below = omega arith;
      })

  given_taken : (job : Job) → take_answer w.reg (known w) n ≡ Ok job → Keep old w.reg.devices
      → IsGiven old (take_by w n (Ok job)).0.reg.devices job
  given_taken job e keep =
      let t = ticket w.reg (known w) n job e in
      subst (λ j. IsGiven old (take_by w n (Ok j)).0.reg.devices j) t.made (given_of t.asked t.device t.there t.served keep)

  opened_at : (job : Job) → take_answer w.reg (known w) n ≡ Ok job
      → numbered n (rewritten (λ a. Tried_at 0 job) n w.answers) ≡ Some (Tried_at 0 job)
  opened_at job e =
      let t = ticket w.reg (known w) n job e in
      numbered-here (λ a. Tried_at 0 job) n w.answers Waiting (still_waits w.answers n t.state t.stated t.waits)

  taken_open : (job : Job) → take_answer w.reg (known w) n ≡ Ok job → Keep old w.reg.devices
      → IsOpenGiven old n (take_by w n (Ok job)).0
  taken_open job e keep k other is =
      let same : job ≡ other = open_job 0 k job other (sym (opened_at job e) ∙ is) in
      subst (λ j. IsGiven old (take_by w n (Ok job)).0.reg.devices j) same (given_taken job e keep)
    where
      open_job : (i k : ℕ) (job other : Job) → Some (Tried_at i job) ≡ Some (Tried_at k other) → job ≡ other
      open_job i k job other e = cc

  -- a candidate is tried

  abbrev OpenAfter : After → Type 0
  OpenAfter after = IsOpenGiven old n after.0

  refused_open : (i k : ℕ) (job other : Job) (refusal : Refusal) (o : Option Candidate)
      → Some (refused i job refusal o) ≡ Some (Tried_at k other) → job ≡ other
  refused_open i k job other refusal None e = absurd (cc)
  refused_open i k job other refusal (Some c) e = cc

  tried_open : IsOpenGiven old n w → IsOpenGiven old n (try w n).0
  tried_open given = try_walk w OpenAfter n given (λ i job c place g e f q own o is. by_answer i job c place g e o)
    where
      by_answer : (i : ℕ) (job : Job) (c : Candidate) (place : ℕ) (g : _) → numbered n w.answers ≡ Some (Tried_at i job)
          → (o : Option Refusal) → OpenAfter (tried_by w n i job c (place, g) o)
      by_answer i job c place g e (Some refusal) k other is =
          let here = numbered-here (λ a. refused i job refusal (candidate_at job (i + 1))) n w.answers (Tried_at i job) e in
          subst (λ j. IsGiven old w.reg.devices j)
          (refused_open i k job other refusal (candidate_at job (i + 1)) (sym here ∙ is)) (given i job e)
      by_answer i job c place g e None k other is =
          let here = numbered-here (λ a. Booked (sent_by job c) c.window c.carries) n w.answers (Tried_at i job) e in
          absurd (cc (sym here ∙ is))

-- Steps of passes, in which a candidate is tried only of a job whose counter was given.

module _ (old : List Device) where
  abbrev pub ArePassing : World → List Step → Type 0
  ArePassing w [] = ⊤
  ArePassing w (Pass now ∷ ss) = ArePassing (step w (Pass now)).0 ss
  ArePassing w (Take n ∷ ss) = ArePassing (step w (Take n)).0 ss
  ArePassing w (Settle n ∷ ss) = ArePassing (step w (Settle n)).0 ss
  ArePassing w (Try n ∷ ss) = IsOpenGiven old n w × ArePassing (step w (Try n)).0 ss
  ArePassing w (Queue addr payload ∷ ss) = ⊥
  ArePassing w (Hear bytes heard arrived ∷ ss) = ⊥
  ArePassing w (Cancel n ∷ ss) = ⊥
  ArePassing w (Tick id now ∷ ss) = ⊥

  passing_append : (w : World) (xs ys : List Step) → ArePassing w xs → ArePassing (reached w xs) ys → ArePassing w (xs ++ ys)
  unfolding run_from
  passing_append w [] ys p q = q
  passing_append w (Pass now ∷ xs) ys p q = passing_append (step w (Pass now)).0 xs ys p q
  passing_append w (Take n ∷ xs) ys p q = passing_append (step w (Take n)).0 xs ys p q
  passing_append w (Settle n ∷ xs) ys p q = passing_append (step w (Settle n)).0 xs ys p q
  passing_append w (Try n ∷ xs) ys p q = (p.0, passing_append (step w (Try n)).0 xs ys p.1 q)
  passing_append w (Queue addr payload ∷ xs) ys p q = absurd p
  passing_append w (Hear bytes heard arrived ∷ xs) ys p q = absurd p
  passing_append w (Cancel n ∷ xs) ys p q = absurd p
  passing_append w (Tick id now ∷ xs) ys p q = absurd p

  tries_pass : (n : ℕ) (cs : List Candidate) (w : World) → IsOpenGiven old n w → ArePassing w (map (λ c. Try n) cs ++ Settle n ∷ [])
  unfolding step
  tries_pass n [] w given = tt
  tries_pass n (c ∷ cs) w given = (given, tries_pass n cs (try w n).0 (tried_open old w n given))

  given_pass : (w : World) (n : ℕ) (r : Result Job TakeFault) → take_answer w.reg (known w) n ≡ r → Keep old w.reg.devices
      → ArePassing (take_by w n r).0 (given_steps (take_by w n r).0 n (take_by w n r).1)
  given_pass w n (Err fault) e keep = tt
  given_pass w n (Ok job) e keep =
      tries_pass n (up_to_first (is_accepted (take_by w n (Ok job)).0 job) (candidates job)) (take_by w n (Ok job)).0
      (taken_open old w n job e keep)

  answer_passes : (w : World) (n : ℕ) → Keep old w.reg.devices → ArePassing w (answer_steps w n)
  unfolding step
  answer_passes w n keep = given_pass w n (take_answer w.reg (known w) n) refl keep

  closing_passes : (w : World) (now n : ℕ) → Keep old w.reg.devices → ArePassing w (closing_steps w now n)
  closing_passes w now n keep =
      let v = (step w (Pass now)).0 in
      answer_passes v n (keep_both old w.reg.devices v.reg.devices keep (keep_step w (Pass now)))

  pub passes : (w : World) (now : ℕ) (ns : List ℕ) → Keep old w.reg.devices → ArePassing w (pass_steps w now ns)
  unfolding pass_steps
  passes w now [] keep = tt
  passes w now (n ∷ ns) keep =
      let ss = closing_steps w now n in
      let v = reached w ss in
      passing_append w ss (pass_steps v now ns) (closing_passes w now n keep)
      (passes v now ns (keep_both old w.reg.devices v.reg.devices keep (keep_steps w ss)))

-- The downlinks among their lines.

-- a downlink's frame is that of a job whose counter was given
pub record IsOfJob (old devices : List Device) (d : ToSend) : Type 0 where
  pub job : Job
  pub frame : d.frame ≡ frame_for job d.candidate
  pub given : IsGiven old devices job

abbrev pub AreOfJobs : List Device → List Device → List ToSend → Type 0
AreOfJobs old devices ds = All (IsOfJob old devices) ds

module _ {A : Type 0} (old devices : List Device) (more : List (Line A)) (others : AreOfJobs old devices (downlinks more)) where
  sent_of_job : (n : ℕ) (job : Job) (o : Option Candidate) → IsGiven old devices job
      → AreOfJobs old devices (downlinks (sent_as n job o ++ more))
  sent_of_job n job None given = others
  sent_of_job n job (Some c) given =
      let d : ToSend = record { number = n; candidate = c; frame = frame_for job c } in
      All-cons (IsOfJob old devices) d (downlinks more) (record { job = job; frame = refl; given = given }) others

  answered_of_jobs : (n : ℕ) (o : Option Answer) → ((k : ℕ) (job : Job) → o ≡ Some (Tried_at k job) → IsGiven old devices job)
      → AreOfJobs old devices (downlinks (sent_lines n o ++ more))
  answered_of_jobs n (Some (Tried_at k job)) given = sent_of_job n job (candidate_at job k) (given k job refl)
  answered_of_jobs n None given = others
  answered_of_jobs n (Some Waiting) given = others
  answered_of_jobs n (Some (Booked sent window carried)) given = others
  answered_of_jobs n (Some (Out refusal)) given = others
  answered_of_jobs n (Some (Settled sent)) given = others

  tried_of_jobs : (w : World) (n : ℕ) (reply : Reply)
      → ((k : ℕ) (job : Job) → numbered n w.answers ≡ Some (Tried_at k job) → IsGiven old devices job)
      → AreOfJobs old devices (downlinks (lines_for w (Try n) reply ++ more))
  tried_of_jobs w n (Tried (Some None)) given = answered_of_jobs n (numbered n w.answers) given
  tried_of_jobs w n (Tried (Some (Some refusal))) given = others
  tried_of_jobs w n (Tried None) given = others
  tried_of_jobs w n (Queued r) given = others
  tried_of_jobs w n (Heard r) given = others
  tried_of_jobs w n (Passed o) given = others
  tried_of_jobs w n (Given r) given = others
  tried_of_jobs w n (Ended o) given = others
  tried_of_jobs w n (Cancelled r) given = others
  tried_of_jobs w n (Ticked o) given = others

-- what a step tells that tries no candidate is no downlink
module _ {A : Type 0} (more : List (Line A)) where
  not_taken_none : (n : ℕ) (fault : TakeFault) → downlinks (not_taken n fault ∷ more) ≡ downlinks more
  not_taken_none n takes.NotReady = refl
  not_taken_none n takes.Taken = refl
  not_taken_none n takes.Silent = refl
  not_taken_none n takes.Engaged = refl
  not_taken_none n takes.CounterSpent = refl
  not_taken_none n takes.NoMemory = refl

  pub taken_none : (w : World) (n : ℕ) (reply : Reply) → downlinks (lines_for w (Take n) reply ++ more) ≡ downlinks more
  taken_none w n (Given (Err fault)) = not_taken_none n fault
  taken_none w n (Given (Ok job)) = refl
  taken_none w n (Queued r) = refl
  taken_none w n (Heard r) = refl
  taken_none w n (Passed o) = refl
  taken_none w n (Ended o) = refl
  taken_none w n (Tried o) = refl
  taken_none w n (Cancelled r) = refl
  taken_none w n (Ticked o) = refl

  pub settled_none : (w : World) (n : ℕ) (reply : Reply) → downlinks (lines_for w (Settle n) reply ++ more) ≡ downlinks more
  settled_none w n (Ended (Some (ends.Unanswered refusal))) = refl
  settled_none w n (Ended (Some (ends.Answered gateway window start airtime carried))) = refl
  settled_none w n (Ended (Some ends.GivenUp)) = refl
  settled_none w n (Ended None) = refl
  settled_none w n (Given r) = refl
  settled_none w n (Queued r) = refl
  settled_none w n (Heard r) = refl
  settled_none w n (Passed o) = refl
  settled_none w n (Tried o) = refl
  settled_none w n (Cancelled r) = refl
  settled_none w n (Ticked o) = refl

module _ (A : Type 0) (old : List Device) where
  pub all_of_jobs : (w : World) (ss : List Step) → ArePassing old w ss
      → AreOfJobs old (reached w ss).reg.devices (downlinks (step_lines {A = A} w ss))
  unfolding run_from step_lines
  all_of_jobs w [] p = All-nil (IsOfJob old w.reg.devices)
  all_of_jobs w (Pass now ∷ ss) p = all_of_jobs (step w (Pass now)).0 ss p
  all_of_jobs w (Take n ∷ ss) p =
      let v = (step w (Take n)).0 in
      subst (AreOfJobs old (reached v ss).reg.devices) (sym (taken_none (step_lines {A = A} v ss) w n (step w (Take n)).1))
      (all_of_jobs v ss p)
  all_of_jobs w (Settle n ∷ ss) p =
      let v = (step w (Settle n)).0 in
      subst (AreOfJobs old (reached v ss).reg.devices) (sym (settled_none (step_lines {A = A} v ss) w n (step w (Settle n)).1))
      (all_of_jobs v ss p)
  all_of_jobs w (Try n ∷ ss) p =
      let v = (step w (Try n)).0 in
      tried_of_jobs old (reached v ss).reg.devices (step_lines v ss) (all_of_jobs v ss p.1) w n (step w (Try n)).1
      (λ k job e. given_on old w.reg.devices (reached v ss).reg.devices job
      (keep_both w.reg.devices v.reg.devices (reached v ss).reg.devices (keep_step w (Try n)) (keep_steps v ss)) (p.0 k job e))
  all_of_jobs w (Queue addr payload ∷ ss) p = absurd p
  all_of_jobs w (Hear bytes heard arrived ∷ ss) p = absurd p
  all_of_jobs w (Cancel n ∷ ss) p = absurd p
  all_of_jobs w (Tick id now ∷ ss) p = absurd p

-- The device with an address.

module _ {X : Type 0} (test : X → Bool) where
  none_passes : (xs : List X) (k : ℕ) (x : X) → first_at test xs ≡ None → slice_get xs k ≡ Some x → test x ≡ true → ⊥
  none_passes [] k x none there passes = absurd (cc)
  none_passes (y ∷ xs) k x none there passes = grind (arith, none_passes xs)

module _ (devices : List Device) (once : (i j : ℕ) (c d : Device) → slice_get devices i ≡ Some c → slice_get devices j ≡ Some d
    → c.setting.addr ≡ d.setting.addr → i ≡ j) where
  pub found_once : (place : ℕ) (d : Device) → slice_get devices place ≡ Some d → device_with d.setting.addr devices ≡ Some (place, d)
  found_once place d there = by_option (λ o. device_with d.setting.addr devices ≡ o → o ≡ Some (place, d)) _
      (λ none is. absurd (none_passes test devices place d none there (eq-eqb _ _ refl)))
      (λ found is e.
      let f = found_there test devices found is in
      found_is found f.0 (eqb-true found.1.setting.addr d.setting.addr f.1))
      refl
    where
      test : Device → Bool
      test x = x.setting.addr == d.setting.addr

      found_is : (found : ℕ × Device) → slice_get devices found.0 ≡ Some found.1 → found.1.setting.addr ≡ d.setting.addr
          → Some found ≡ Some (place, d)
      found_is (k, x) at same =
          let places = once k place x d at there same in
          let is : x ≡ d = same_Some _ _ (sym at ∙ subst (λ j. slice_get devices j ≡ Some d) (sym places) there) in
          cc (places, is)

pub device_found : (devices : List Device) → HaveOwnAddresses (settings_of devices) → (place : ℕ) (d : Device)
    → slice_get devices place ≡ Some d → device_with d.setting.addr devices ≡ Some (place, d)
device_found devices own = found_once devices (λ i j c d at there same.
    apart_once (λ (y : Device). without_counters y.setting) (λ s. s.addr) devices (settings_of devices) refl own.differ i j c d at
    there same)

-- DevAddr of a PHYPayload

not_short : (n : ℕ) → nat_lt (suc (suc (suc (suc (suc n))))) 5 ≡ false
not_short n = grind (arith, nat_tests)

addressed : (bytes : List ℕ) → nat_lt (length bytes) 5 ≡ false → addr_in bytes ≡ Some (addr_of bytes)
addressed bytes long = rw long refl

addressed_frame : (job : Job) (c : Candidate) → job.addr < 2 ^ 32 → addr_in (frame_for job c) ≡ Some job.addr
unfolding down_frame
addressed_frame job c fits =
    addressed (frame_for job c) (not_short (length (drop 5 (frame_for job c)))) ∙ ap Some (from_le_bytes-to_le_bytes_4 job.addr fits)

module _ (old new : List Device) (own : HaveOwnAddresses (settings_of old)) (also : HaveOwnAddresses (settings_of new)) where
  counted_of_job : (d : ToSend) → IsOfJob old new d → IsCounted old new d
  counted_of_job d o =
      let g = o.given in
      let fits = all_get (λ s. s.addr < 2 ^ 32) (settings_of new) g.place (without_counters g.device.setting) also.fit
      (map_there (λ x. without_counters x.setting) new g.place g.device g.there) in
      let first : g.before.setting.addr ≡ o.job.addr = ap (λ (s : DeviceSetting). s.addr) g.set ∙ g.addr in
      record {
        job = o.job;
        frame = o.frame;
        addressed = ap addr_in o.frame ∙ addressed_frame o.job d.candidate (subst (λ a. a < 2 ^ 32) g.addr fits);
        before = (g.place, g.before);
        after = (g.place, g.device);
        was = subst (λ a. device_with a old ≡ Some (g.place, g.before)) first (device_found old own g.place g.before g.was);
        is = subst (λ a. device_with a new ≡ Some (g.place, g.device)) g.addr (device_found new also g.place g.device g.there);
        keys = g.keys;
        not_below = g.not_below;
        below = g.below;
      }

  pub all_counted : (ds : List ToSend) → AreOfJobs old new ds → All (IsCounted old new) ds
  all_counted ds all = All-weaker (IsOfJob old new) (IsCounted old new) counted_of_job ds all

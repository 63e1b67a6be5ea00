-- The world before the first step and after every list of steps, and what is promised of a run.
use Rattle.server_core.proofs.Words
use Words.{ap, arith, inl, inr, subst, sym, ◌∙◌, All-cons, All-nil, All-weaker, Contains-append_right, AllPairs-cons, All}
use Words.{AllPairs, Contains, List, Ok, Some, [], map, refl, slice_get, ℕ, ◌+◌, ◌∷◌, ◌≡◌, ◌≢◌, ◌⊎◌, start_of, Reservation}
use Words.{orderly_nil, IsLawful, addr_of, Limits, Job, candidates, from_map, get_contains, same_Some, Device, opened_device}
use Words.{plan_for, Gateway, World, opened_gateway, opening, AreSettings, SettingLists, Sent, EveryInterleavingIsSafe}
use Words.{HaveOwnCounters, IsMember, IsOwnWindow, IsSafe, jobs_given, setting_of, with_given, Cancel, Given, Hear, Pass, Queue}
use Words.{all_get, map_there, IsGatewayInRange, IsOrderly}
use Words.{Reply, Run, Settle, Step, Take, Tick, Try, run, sent_for, net, run_from, step, map-map, map-id}
use Rattle.server_core.proofs.Holds.{IsKept, Stands, Holds, IsInOrder, AllBelong, Belongs, WasThere, IsGivenAt, Follows}
use Rattle.server_core.proofs.Holds.{IsGoodStep, IsNew, UsesUp, given_after, Holds-weaker, member_stands}
use Rattle.std.proofs.lemmas.List.Elements.{All-contains_itself}
use Rattle.server_core.proofs.KnownSteps.{queue_good, hear_good, pass_good, settle_good}
use Rattle.server_core.proofs.GatewaySteps.{try_good, cancel_good, tick_good}
use Rattle.server_core.proofs.Members.{rises_once, apart_once}
use Rattle.server_core.proofs.{Members.none_numbered, TakeStep.take_good}

module _ {settings : SettingLists} (are : AreSettings settings.gateways settings.devices) {past : List Gateway}
    {T : Job → Type 0} {w : World} (h : Holds settings past T w) where
  -- one number has one answer
  same_sent : (m n : ℕ) (s t : Sent) → m ≡ n → IsKept w.answers m s → IsKept w.answers n t → s ≡ t
  same_sent m n s t q a b = same_Some _ _ (sym a.is ∙ ap sent_for (same_Some _ _ (sym (rw q at a.there) ∙ b.there)) ∙ b.is)

  module _ (i j k l : ℕ) (g f : Gateway) (a b : Reservation) (m : IsMember w i k g a) (o : IsMember w j l f b) where
    -- of what wasn't there before, a number stands once
    pub once_by : (WasThere past g.id a → ⊥) → (WasThere past f.id b → ⊥) → a.number ≡ b.number → (i ≡ j) × (k ≡ l)
    once_by c d q =
        let s = member_stands h i k g a m c in
        let t = member_stands h j l f b o d in
        let sent = same_sent a.number b.number s.sent t.sent q s.kept t.kept in
        let id = sym s.booking.gateway ∙ ap (λ (x : Sent). x.gateway) sent ∙ t.booking.gateway in
        let start = sym s.booking.start ∙ ap (λ (x : Sent). x.start) sent ∙ t.booking.start in
        let p : i ≡ j =
        apart_once setting_of (λ x. x.id) w.gateways settings.gateways h.gateways are.ids_differ i j g f m.gateway o.gateway id in
        let same : f ≡ g = same_Some _ _ (sym o.gateway ∙ rw p at m.gateway) in
        let rises = (h.in_order i g m.gateway).orderly.by_start in
        (p, rises_once start_of 0 g.state.list k l a b rises m.member (rw same at o.member) start)

module _ (settings : SettingLists) (past : List Gateway) (r : Run)
    (h : Holds settings past (Contains (jobs_given r.replies)) r.world) where
  own_by : (g : Gateway) (a : Reservation) (s : Stands settings
      (Contains (jobs_given r.replies)) r.world.reg.gathered.list r.world.answers g.id a)
      → (d : Device) × (slice_get r.world.reg.devices s.own.own.place ≡ Some d) × (d.setting ≡ s.own.own.uplink.setting)
      → IsOwnWindow r g a
  own_by g a s d =
      let j = s.own.own in
      let b = s.booking in
      let now = s.own.now in
      let x = j.windows b.place b.candidate b.tried in
      let its_own : j.uplink.setting.addr ≡ addr_of now.member.bytes = rw now.is.bytes j.uplink.its_own in
      let plan : s.job.plan ≡ plan_for d.0.setting s.job.body = rw d.2 j.plan in
      record {
        gathering = now.member;
        gathered = now.there;
        device = d.0;
        served = get_contains r.world.reg.devices j.place d.0 d.1;
        its_own = rw d.2 its_own;
        job = s.job;
        given = s.own.given;
        addr = j.addr ∙ its_own;
        plan = plan;
        candidate = b.candidate;
        tried = get_contains (candidates s.job) b.place b.candidate b.tried;
        window = record {
          copy = x.copy;
          heard = now.is.copies x.copy x.heard;
          gateway = x.gateway;
          window = rw plan at x.window;
        };
        here = b.here;
        asked = b.asked;
      }

  pub own_at : (i k : ℕ) (g : Gateway) (a : Reservation) → IsMember r.world i k g a → (WasThere past g.id a → ⊥)
      → IsOwnWindow r g a
  own_at i k g a m new =
      let s = member_stands h i k g a m new in
      let u = s.own.own.uplink in
      let served = subst (λ l. slice_get l s.own.own.place ≡ Some u.setting) (sym h.devices) u.served in
      own_by g a s (from_map (λ d. d.setting) r.world.reg.devices s.own.own.place u.setting served)

-- What holds before the first step, whatever the gateways had booked.

module _ (settings : SettingLists) (are : AreSettings settings.gateways settings.devices) (past : List Gateway)
    (set : map setting_of past ≡ settings.gateways)
    (orderly : (i : ℕ) (g : Gateway) → slice_get past i ≡ Some g → IsOrderly g.rules.gap g.state.list) where
  in_order_at : (i : ℕ) (g : Gateway) → slice_get past i ≡ Some g → IsInOrder past g
  in_order_at i g e =
      record {
        orderly = orderly i g e;
        balanced = λ j p there same.
            let place = apart_once setting_of (λ x. x.id) past settings.gateways set are.ids_differ j i p g there e same in
            let own : p ≡ g = same_Some _ _ (sym (rw place at there) ∙ e) in
            rw own refl;
      }

  module _ (T : Job → Type 0) (limits : Limits) where
    belong_at : (i : ℕ) (g : Gateway) → slice_get past i ≡ Some g → AllBelong settings past T [] [] g
    belong_at i g e = All-weaker (Contains g.state.list) (Belongs settings past T [] [] g.id)
        (λ r c. inl (record { place = i; gateway = g; there = e; same = refl; member = c })) g.state.list
        (All-contains_itself g.state.list)

    pub opened : Holds settings past T (record (opening settings limits) { gateways = past })
    opened =
        record {
          gateways = set;
          devices = map-map (λ d. d.setting) opened_device settings.devices ∙ map-id settings.devices;
          in_order = in_order_at;
          together = refl;
          answered = refl;
          asked = λ n a e. absurd (none_numbered n a e);
          jobs = λ n k job e. absurd (none_numbered n _ e);
          belong = belong_at;
        }

-- What holds after every list of steps.

-- the jobs of the tickets that are given from a world on are new to it, and share neither number nor counter
pub record AreTickets (w : World) (jobs : List Job) : Type 0 where
  pub new : All (IsNew w) jobs
  pub tickets : AllPairs (λ a b. a.number ≢ b.number) jobs
  pub counters : AllPairs (λ a b. a.addr ≡ b.addr → a.counter ≢ b.counter) jobs

-- what is new after a step was new before it, and differs from what the step used up
still_new : (w v : World) → Follows w v → (job : Job) → IsNew v job → IsNew w job
still_new w v f job x =
    record {
      number = λ g. x.number (f.given job.number g);
      counter = λ p d e a.
          let l = f.devices p d e in
          omega (arith, l.counter, x.counter p l.device l.there (l.addr ∙ a));
    }

module _ (w v : World) (f : Follows w v) where
  one_more : (reply : Reply) (jobs : List Job) → UsesUp w v reply → AreTickets v jobs → AreTickets w (with_given reply jobs)
  one_more (Given (Ok job)) jobs u t =
      record {
        new = All-cons (IsNew w) job jobs u.0 (All-weaker (IsNew v) (IsNew w) (still_new w v f) jobs t.new);
        tickets = AllPairs-cons (λ a b. a.number ≢ b.number) job jobs (All-weaker (IsNew v) (λ b. job.number ≢ b.number)
            (λ b x e. x.number (subst (IsGivenAt v.answers) e u.1.number)) jobs t.new) t.tickets;
        counters = AllPairs-cons HaveOwnCounters job jobs (All-weaker (IsNew v) (HaveOwnCounters job)
            (λ b x e q. let own = x.counter u.1.place u.1.device u.1.there (u.1.addr ∙ e) in omega (arith, u.1.counter, own))
            jobs t.new) t.counters;
      }
  one_more reply jobs u t = assumption (All-weaker (IsNew v) (IsNew w) (still_new w v f) jobs t.new, t)

-- a ticket was given for a job before, or it is among those for which one was given then
abbrev pub WithGiven : (Job → Type 0) → List Job → Job → Type 0
WithGiven T jobs = λ j. T j ⊎ Contains jobs j

given_cases : (reply : Reply) (T : Job → Type 0) (jobs : List Job) (j : Job) → WithGiven (given_after reply T) jobs j
    → WithGiven T (with_given reply jobs) j
given_cases (Given (Ok job)) T jobs j (inl (inl t)) = inl t
given_cases (Given (Ok job)) T jobs j (inl (inr e)) = inr (subst (Contains (job ∷ jobs)) (sym e)
    (get_contains (job ∷ jobs) 0 job refl))
given_cases (Given (Ok job)) T jobs j (inr c) = inr (Contains-append_right (job ∷ []) jobs j c)
given_cases reply T jobs j c = c

module _ (settings : SettingLists) (are : AreSettings settings.gateways settings.devices) (past : List Gateway) where
  step_good : (T : Job → Type 0) (w : World) → Holds settings past T w → (s : Step) → IsGoodStep settings past T w (step w s)
  unfolding step
  step_good T w h (Queue addr payload) = queue_good h addr payload
  step_good T w h (Hear bytes heard arrived) = hear_good h bytes heard arrived
  step_good T w h (Pass now) = pass_good h now
  step_good T w h (Take n) = take_good are h n
  step_good T w h (Settle n) = settle_good h n
  step_good T w h (Try n) = try_good h n
  step_good T w h (Cancel n) = cancel_good h n
  step_good T w h (Tick id now) = tick_good h id now

  -- what is known of a run from a world in which all of this holds
  pub record IsGoodRun (T : Job → Type 0) (w : World) (r : Run) : Type 0 where
    pub holds : Holds settings past (WithGiven T (jobs_given r.replies)) r.world
    pub given : AreTickets w (jobs_given r.replies)

  pub run_good : (T : Job → Type 0) (w : World) → Holds settings past T w → (steps : List Step) → IsGoodRun T w (run_from w steps)
  unfolding run_from
  run_good T w h [] =
      record {
        holds = Holds-weaker settings past T (WithGiven T []) (λ j t. inl t) w h;
        given = record {
          new = All-nil (IsNew w);
          tickets = λ i j d l g. absurd (omega arith);
          counters = λ i j d l g. absurd (omega arith);
        };
      }
  run_good T w h (s ∷ ss) =
      let first = step_good T w h s in
      let reply = (step w s).1 in
      let after = run_from (step w s).0 ss in
      let jobs = jobs_given after.replies in
      let rest = run_good (given_after reply T) (step w s).0 first.good.holds ss in
      record {
        holds = Holds-weaker settings past (WithGiven (given_after reply T) jobs) (WithGiven T (with_given reply jobs))
            (given_cases reply T jobs) after.world rest.holds;
        given = one_more w (step w s).0 first.good.follows reply jobs first.used rest.given;
      }

  -- tickets were given for the jobs of the run alone
  pub held_by : (w : World) (r : Run) → IsGoodRun (λ j. ⊥) w r → Holds settings past (Contains (jobs_given r.replies)) r.world
  held_by w r g = Holds-weaker settings past (WithGiven (λ j. ⊥) (jobs_given r.replies)) (Contains (jobs_given r.replies))
      (λ j x. elim x [ inl e ↦ absurd e | inr y ↦ y ]) r.world g.holds

-- Every run of gateways that had booked nothing is safe.

module _ (settings : SettingLists) (are : AreSettings settings.gateways settings.devices) where
  abbrev unused : List Gateway
  unused = map opened_gateway settings.gateways

  unused_orderly : (i : ℕ) (g : Gateway) → slice_get unused i ≡ Some g → IsOrderly g.rules.gap g.state.list
  unused_orderly i g e =
      let s = from_map opened_gateway settings.gateways i g e in
      let range = all_get IsGatewayInRange settings.gateways i s.0 are.gateways_in_range s.1 in
      subst (λ (x : Gateway). IsOrderly x.rules.gap x.state.list) s.2 (orderly_nil s.0.gap range.gap.1)

  pub none_was : (id : ℕ) (r : Reservation) → WasThere (map opened_gateway settings.gateways) id r → ⊥
  none_was id r was =
      let s = from_map opened_gateway settings.gateways was.place was.gateway was.there in
      let c : Contains [] r = subst (λ (x : Gateway). Contains x.state.list r) (sym s.2) was.member in
      absurd (omega (arith, c.1))

  pub unused_run : (limits : Limits) (steps : List Step)
      → IsGoodRun settings are (map opened_gateway settings.gateways) (λ j. ⊥) (opening settings limits)
      (run settings limits steps)
  unused_run limits steps =
      let set : map setting_of unused ≡ settings.gateways =
      map-map setting_of opened_gateway settings.gateways ∙ map-id settings.gateways in
      run_good settings are unused (λ j. ⊥) (opening settings limits)
      (opened settings are unused set unused_orderly (λ j. ⊥) limits) steps

  -- and what was booked less what was cancelled is the airtime of the list
  counted_by : {T : Job → Type 0} {w : World} → Holds settings unused T w → (i : ℕ) (g : Gateway)
      → slice_get w.gateways i ≡ Some g → g.state.booked ≡ g.state.cancelled + net g.state.list
  unfolding net
  counted_by {T} {w} h i g e =
      let set = subst (λ l. slice_get l i ≡ Some (setting_of g)) h.gateways (map_there setting_of w.gateways i g e) in
      let there = map_there opened_gateway settings.gateways i (setting_of g) set in
      omega (arith, (h.in_order i g e).balanced i (opened_gateway (setting_of g)) there refl)

  pub run_safe : (limits : Limits) (steps : List Step) → IsSafe settings (run settings limits steps)
  run_safe limits steps =
      let r = run settings limits steps in
      let good = unused_run limits steps in
      let h = held_by settings are unused (opening settings limits) r good in
      let lawful : (i : ℕ) (x : Gateway) → slice_get r.world.gateways i ≡ Some x → IsLawful x.rules.gap x.state.list =
      λ i x e. (h.in_order i x e).orderly.lawful in
      let once : (i j k l : ℕ) (g f : Gateway) (a b : Reservation) → IsMember r.world i k g a → IsMember r.world j l f b
      → a.number ≡ b.number → (i ≡ j) × (k ≡ l) =
      λ i j k l g f a b m o q. once_by are h i j k l g f a b m o (none_was g.id a) (none_was f.id b) q in
      let own : (i k : ℕ) (g : Gateway) (a : Reservation) → IsMember r.world i k g a → IsOwnWindow r g a =
      λ i k g a m. own_at settings unused r h i k g a m (none_was g.id a) in
      assumption (h, good.given, lawful, counted_by h, once, own)

pub every_interleaving_is_safe : EveryInterleavingIsSafe
every_interleaving_is_safe settings are limits steps = run_safe settings are limits steps

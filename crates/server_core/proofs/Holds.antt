-- What the system keeps at every step.
use Rattle.server_core.proofs.Words
use Words.{arith, inl, inr, subst, ◌∙◌, All-weaker, All, Contains, List, Ok, Some, false, length, map, refl, slice_get, ℕ, ⊤}
use Words.{◌++◌, ◌+◌, ◌<◌, ◌≡◌, ◌≤◌, ◌⊎◌, Reservation, IsOrderly, addr_of, Gathering, numbered, rewritten, HeardCopy, IsWindowOf}
use Words.{Candidate, Job, candidate_at, Answer, Open, is_not_given, known_of, numbered-append, numbered_after, all_get}
use Words.{map_there, Device, plan_for, Gateway, World, SettingLists, Asked, Sent, DeviceSetting, IsMember, setting_of, Given}
use Words.{Reply, sent_for, net, IsAsked, ask_for}

-- a member with this number, of which this holds
pub record Has {X : Type 0} (P : X → Type 0) (xs : List X) (n : ℕ) : Type 0 where
  pub member : X
  pub there : numbered n xs ≡ Some member
  pub is : P member

-- the gathering has the bytes and the copies that it had
pub record IsGrown (before g : Gathering) : Type 0 where
  pub bytes : g.bytes ≡ before.bytes
  pub copies : (c : HeardCopy) → Contains before.copies c → Contains g.copies c

pub has_now : (l : List Gathering) (n : ℕ) (g : Gathering) → numbered n l ≡ Some g → Has (IsGrown g) l n
has_now l n g e = record { member = g; there = e; is = record { bytes = refl; copies = λ c k. k } }

-- the uplink is of the device with this place and setting: the address in its bytes is the device's
pub record IsOfDevice (settings : SettingLists) (place : ℕ) (g : Gathering) : Type 0 where
  pub setting : DeviceSetting
  pub served : slice_get settings.devices place ≡ Some setting
  pub its_own : setting.addr ≡ addr_of g.bytes

-- uplink n was of the device with this place when it was asked after, and is gathered still
pub record IsAskedAt (settings : SettingLists) (l : List Gathering) (n place : ℕ) : Type 0 where
  pub gathering : Gathering
  pub own : IsOfDevice settings place gathering
  pub now : Has (IsGrown gathering) l n

-- the job answers this uplink as its device listens, and each candidate of it is RX1 or RX2 of a copy of the uplink
pub record IsJobFor (settings : SettingLists) (job : Job) (gathering : Gathering) : Type 0 where
  pub place : ℕ
  pub uplink : IsOfDevice settings place gathering
  pub addr : job.addr ≡ uplink.setting.addr
  pub plan : job.plan ≡ plan_for uplink.setting job.body
  pub windows : (k : ℕ) (c : Candidate) → candidate_at job k ≡ Some c → IsWindowOf job.plan gathering.copies c

-- the job answers uplink n, and a ticket was given for it: T tells for which jobs tickets were given
pub record IsJobAt (settings : SettingLists) (T : Job → Type 0) (l : List Gathering) (n : ℕ) (job : Job) : Type 0 where
  pub number : job.number ≡ n
  pub given : T job
  pub gathering : Gathering
  pub own : IsJobFor settings job gathering
  pub now : Has (IsGrown gathering) l n

-- an answer keeps what was booked for its number
abbrev pub IsKept : List Answer → ℕ → Sent → Type 0
IsKept answers n sent = Has (λ a. sent_for a ≡ Some sent) answers n

-- a reservation on the gateway with this id stands for this candidate of its uplink's job, which was booked
pub record IsBooking (id : ℕ) (r : Reservation) (sent : Sent) (job : Job) : Type 0 where
  pub start : sent.start ≡ r.start
  pub gateway : sent.gateway ≡ id
  pub place : ℕ
  pub candidate : Candidate
  pub tried : candidate_at job place ≡ Some candidate
  pub here : candidate.gateway ≡ id
  pub asked : IsAsked (ask_for job candidate) r

pub record Stands (settings : SettingLists) (T : Job → Type 0) (l : List Gathering) (answers : List Answer) (id : ℕ)
    (r : Reservation) : Type 0 where
  pub sent : Sent
  pub job : Job
  pub booking : IsBooking id r sent job
  pub own : IsJobAt settings T l r.number job
  pub kept : IsKept answers r.number sent

-- What the gateways of before the first step, its past, have to do with a gateway and its members.

-- the gateway's list is one that it may hold, and its airtime grew by what was booked less what was cancelled since then
pub record IsInOrder (past : List Gateway) (g : Gateway) : Type 0 where
  pub orderly : IsOrderly g.rules.gap g.state.list
  pub balanced : (i : ℕ) (p : Gateway) → slice_get past i ≡ Some p → p.id ≡ g.id
      → g.state.booked + (p.state.cancelled + net p.state.list) ≡ p.state.booked + (g.state.cancelled + net g.state.list)

-- the gateway with this id held the reservation before the first step
pub record WasThere (past : List Gateway) (id : ℕ) (r : Reservation) : Type 0 where
  pub place : ℕ
  pub gateway : Gateway
  pub there : slice_get past place ≡ Some gateway
  pub same : gateway.id ≡ id
  pub member : Contains gateway.state.list r

-- it did, or the reservation stands for its own uplink's answer
abbrev pub Belongs : SettingLists → List Gateway → (Job → Type 0) → List Gathering → List Answer → ℕ → Reservation → Type 0
Belongs settings past T l answers id r = WasThere past id r ⊎ Stands settings T l answers id r

-- that is so of each reservation of the gateway
abbrev pub AllBelong : SettingLists → List Gateway → (Job → Type 0) → List Gathering → List Answer → Gateway → Type 0
AllBelong settings past T l answers g = All (Belongs settings past T l answers g.id) g.state.list

pub record Holds (settings : SettingLists) (past : List Gateway) (T : Job → Type 0) (w : World) : Type 0 where
  pub gateways : map setting_of w.gateways ≡ settings.gateways
  pub devices : map (λ d. d.setting) w.reg.devices ≡ settings.devices
  pub in_order : (i : ℕ) (g : Gateway) → slice_get w.gateways i ≡ Some g → IsInOrder past g
  pub together : length w.reg.asked ≡ length w.reg.gathered.list
  pub answered : length w.answers ≡ length w.reg.gathered.list
  pub asked : (n : ℕ) (a : Asked) → numbered n w.reg.asked ≡ Some a → IsAskedAt settings w.reg.gathered.list n a.device
  pub jobs : (n k : ℕ) (job : Job) → numbered n w.answers ≡ Some (Open k job) → IsJobAt settings T w.reg.gathered.list n job
  pub belong : (i : ℕ) (g : Gateway) → slice_get w.gateways i ≡ Some g
      → AllBelong settings past T w.reg.gathered.list w.answers g

-- What a step never takes back.

-- a ticket for this number was given
abbrev pub IsGivenAt : List Answer → ℕ → Type 0
IsGivenAt answers n = Has (λ a. is_not_given (known_of a) ≡ false) answers n

-- the device at this place, with at least as many downlink counters given
pub record IsLater (devices : List Device) (place : ℕ) (before : Device) : Type 0 where
  pub device : Device
  pub there : slice_get devices place ≡ Some device
  pub addr : device.setting.addr ≡ before.setting.addr
  pub counter : before.down ≤ device.down

pub record Follows (w v : World) : Type 0 where
  pub given : (n : ℕ) → IsGivenAt w.answers n → IsGivenAt v.answers n
  pub devices : (p : ℕ) (d : Device) → slice_get w.reg.devices p ≡ Some d → IsLater v.reg.devices p d

-- a change of the system that keeps what holds, and takes nothing back
pub record IsGood (settings : SettingLists) (past : List Gateway) (T : Job → Type 0) (w v : World) : Type 0 where
  pub holds : Holds settings past T v
  pub follows : Follows w v

-- What a ticket that is given uses up.

-- neither the job's number nor its counter is used up
pub record IsNew (w : World) (job : Job) : Type 0 where
  pub number : IsGivenAt w.answers job.number → ⊥
  pub counter : (p : ℕ) (d : Device) → slice_get w.reg.devices p ≡ Some d → d.setting.addr ≡ job.addr → d.down ≤ job.counter

-- both are used up
pub record IsUsed (w : World) (job : Job) : Type 0 where
  pub number : IsGivenAt w.answers job.number
  pub place : ℕ
  pub device : Device
  pub there : slice_get w.reg.devices place ≡ Some device
  pub addr : device.setting.addr ≡ job.addr
  pub counter : job.counter < device.down

-- the job of the ticket that is given, if one is, is new before and used up after
abbrev pub UsesUp : World → World → Reply → Type 0
UsesUp w v (Given (Ok job)) = IsNew w job × IsUsed v job
UsesUp w v reply = ⊤

-- a ticket was given for these jobs after a reply
abbrev pub given_after : Reply → (Job → Type 0) → Job → Type 0
given_after (Given (Ok job)) T = λ j. T j ⊎ (j ≡ job)
given_after reply T = T

pub record IsGoodStep (settings : SettingLists) (past : List Gateway) (T : Job → Type 0) (w : World)
    (after : World × Reply) : Type 0 where
  pub good : IsGood settings past (given_after after.1 T) w after.0
  pub used : UsesUp w after.0 after.1

-- a change after another
pub Follows-trans : (u v w : World) → Follows u v → Follows v w → Follows u w
Follows-trans u v w f g =
    record {
      given = λ n h. g.given n (f.given n h);
      devices = λ p d e.
          let a = f.devices p d e in
          let b = g.devices p a.device a.there in
          record { device = b.device; there = b.there; addr = b.addr ∙ a.addr; counter = omega (arith, a.counter, b.counter) };
    }

pub Follows-refl : (w : World) → Follows w w
Follows-refl w =
    record { given = λ n h. h; devices = λ p d e. record { device = d; there = e; addr = refl; counter = omega arith } }

pub both_good : {settings : SettingLists} {past : List Gateway} {T : Job → Type 0} {u v w : World}
    → IsGood settings past T u v → IsGood settings past T v w → IsGood settings past T u w
both_good {settings} {past} {T} {u} {v} {w} a b = record { holds = b.holds; follows = Follows-trans u v w a.follows b.follows }

pub unchanged : {settings : SettingLists} {past : List Gateway} {T : Job → Type 0} {w : World} → Holds settings past T w
    → IsGood settings past T w w
unchanged {settings} {past} {T} {w} h = record { holds = h; follows = Follows-refl w }

-- what holds also holds where tickets were given for more jobs, and where gatherings have grown

abbrev pub Grow : List Gathering → List Gathering → Type 0
Grow l m = (n : ℕ) (g : Gathering) → Has (IsGrown g) l n → Has (IsGrown g) m n

module _ (settings : SettingLists) (T U : Job → Type 0) (more : (job : Job) → T job → U job) (l m : List Gathering)
    (grow : Grow l m) where
  pub job_on : (n : ℕ) (job : Job) → IsJobAt settings T l n job → IsJobAt settings U m n job
  job_on n job j =
      let now = grow n j.gathering j.now in
      record { number = j.number; given = more job j.given; gathering = j.gathering; own = j.own; now = now }

  -- and an answer keeps what was booked for it
  stand_on : (answers others : List Answer) → ((n : ℕ) (sent : Sent) → IsKept answers n sent → IsKept others n sent)
      → (id : ℕ) (r : Reservation) → Stands settings T l answers id r → Stands settings U m others id r
  stand_on answers others f id r s =
      let own = job_on r.number s.job s.own in
      record { sent = s.sent; job = s.job; booking = s.booking; own = own; kept = f r.number s.sent s.kept }

  belongs_on : (past : List Gateway) (answers others : List Answer)
      → ((n : ℕ) (sent : Sent) → IsKept answers n sent → IsKept others n sent) → (id : ℕ) (r : Reservation)
      → Belongs settings past T l answers id r → Belongs settings past U m others id r
  belongs_on past answers others f id r (inl was) = inl was
  belongs_on past answers others f id r (inr s) = inr (stand_on answers others f id r s)

  pub belong_on : (past : List Gateway) (answers others : List Answer)
      → ((n : ℕ) (sent : Sent) → IsKept answers n sent → IsKept others n sent) → (gs : List Gateway)
      → ((i : ℕ) (g : Gateway) → slice_get gs i ≡ Some g → AllBelong settings past T l answers g) → (i : ℕ) (g : Gateway)
      → slice_get gs i ≡ Some g → AllBelong settings past U m others g
  belong_on past answers others f gs h i g e = All-weaker (Belongs settings past T l answers g.id)
      (Belongs settings past U m others g.id) (belongs_on past answers others f g.id) g.state.list (h i g e)

  pub jobs_on : (answers : List Answer) → ((n k : ℕ) (job : Job) → numbered n answers ≡ Some (Open k job)
      → IsJobAt settings T l n job) → (n k : ℕ) (job : Job) → numbered n answers ≡ Some (Open k job) → IsJobAt settings U m n job
  jobs_on answers h n k job e = job_on n job (h n k job e)

pub Holds-weaker : (settings : SettingLists) (past : List Gateway) (T U : Job → Type 0) → ((job : Job) → T job → U job)
    → (w : World) → Holds settings past T w → Holds settings past U w
Holds-weaker settings past T U more w h =
    let l = w.reg.gathered.list in
    assumption (
      jobs_on settings T U more l l (λ m g x. x) w.answers h.jobs,
      belong_on settings T U more l l (λ m x y. y) past w.answers w.answers (λ m x y. y) w.gateways h.belong,
    )

-- What has a number has it still in a list that goes on, or in which a member was written anew.

module _ {X : Type 0} (P : X → Type 0) (xs : List X) where
  pub Has-append : (ys : List X) (n : ℕ) → Has P xs n → Has P (xs ++ ys) n
  Has-append ys n x = record { member = x.member; there = numbered-append n xs ys x.member x.there; is = x.is }

  pub Has-rewritten : (f : X → X) (n m : ℕ) → ((y : X) → numbered n xs ≡ Some y → P y → P (f y)) → Has P xs m
      → Has P (rewritten f n xs) m
  Has-rewritten f n m k x = elim (numbered_after f n m xs x.member x.there) [
    | inl e ↦ record { member = f x.member; there = e.1; is = k x.member (rw e.0 x.there) x.is }
    | inr e ↦ record { member = x.member; there = e; is = x.is }
  ]

module _ {settings : SettingLists} {past : List Gateway} {T : Job → Type 0} {w : World} (h : Holds settings past T w) where
  pub device_setting : (p : ℕ) (d : Device) → slice_get w.reg.devices p ≡ Some d → slice_get settings.devices p ≡ Some d.setting
  device_setting p d e = subst (λ l. slice_get l p ≡ Some d.setting) h.devices (map_there (λ x. x.setting) w.reg.devices p d e)

  -- each member of a gateway was there, or stands
  pub member_belongs : (i k : ℕ) (g : Gateway) (r : Reservation) → IsMember w i k g r
      → Belongs settings past T w.reg.gathered.list w.answers g.id r
  member_belongs i k g r m = all_get (Belongs settings past T w.reg.gathered.list w.answers g.id) g.state.list k r
      (h.belong i g m.gateway) m.member

  -- and stands, if it wasn't there
  pub member_stands : (i k : ℕ) (g : Gateway) (r : Reservation) → IsMember w i k g r → (WasThere past g.id r → ⊥)
      → Stands settings T w.reg.gathered.list w.answers g.id r
  member_stands i k g r m new = elim (member_belongs i k g r m) [ inl was ↦ absurd (new was) | inr s ↦ s ]

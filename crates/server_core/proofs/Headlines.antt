-- The headline follows from what is promised of every run.
use Rattle.server_core.proofs.Words
use Words.{one_after_another, ap, inl, inr, subst, sym, ◌∙◌, Contains, List, Some, slice_get, ℕ, ◌+◌, ◌≡◌, ◌≢◌, ◌≤◌, ◌⊎◌}
use Words.{Reservation, IsAsked, IsLawful, HeardCopy, Candidate, Job}
use Words.{ask_for, Gateway, SettingLists, Device, Run, IsSafe, IsOwnWindow, plan_for, map, get_contains, map_there}
use Rattle.server_core.proofs.Runs.{every_interleaving_is_safe}
use Rattle.std.proofs.lemmas.Option.{slice_get-get_or}
use Rattle.rx_windows.specs.Windows.{rx1_of, rx2_of}
use Rattle.gateway_book.proofs.OnAirLaws.{on_air_keeps_limit}
use Rattle.radio_airtime.specs.TimeOnAir.{airtime_of}
use Rattle.radio_bands.specs.{declared.band.Band.Band, Band.limit_of}
use Rattle.resv_list.specs.OnAir.{on_air}
use Rattle.server_core.specs.Headline.{TakesRx1, TakesRx2, IsOfItsUplink, KeepsHeadline, EveryRunKeepsHeadline}

contains_map : {X Y : Type 0} (f : X → Y) (xs : List X) (x : X) → Contains xs x → Contains (map f xs) (f x)
contains_map f xs x c =
    get_contains (map f xs) c.0 (f x)
    (map_there f xs c.0 x (slice_get-get_or xs c.0 x c.1 ∙ ap (λ y. Some y) c.2))

-- what a candidate that is a window of the copy asks for takes that window
module _ (device : Device) (job : Job) (copy : HeardCopy) (c : Candidate) (a : Reservation)
    (asked : IsAsked (ask_for job c) a) where
  takes : (c ≡ rx1_of (plan_for device.setting job.body) copy) ⊎ (c ≡ rx2_of (plan_for device.setting job.body) copy)
      → TakesRx1 device.setting copy a ⊎ TakesRx2 device.setting copy a
  takes (inl e) = inl (let its = rw e at asked in record { start = its.start; freq_hz = its.freq_hz; rate = its.rate })
  takes (inr e) = inr (let its = rw e at asked in record { start = its.start; freq_hz = its.freq_hz; rate = its.rate })

module _ (settings : SettingLists) (r : Run) (devices : map (λ d. d.setting) r.world.reg.devices ≡ settings.devices) where
  pub own_uplink : (g : Gateway) (a : Reservation) → IsOwnWindow r g a → IsOfItsUplink settings r.world.reg.gathered.list g a
  own_uplink g a o =
      record {
        uplink = o.gathering;
        its_own = o.gathered;
        copy = o.window.copy;
        copied = o.window.heard;
        heard = sym o.window.gateway ∙ o.here;
        device = o.device.setting;
        set = subst (λ l. Contains l o.device.setting) devices
            (contains_map (λ d. d.setting) r.world.reg.devices o.device o.served);
        addr = o.its_own;
        window = takes o.device o.job o.window.copy o.candidate a o.asked o.window.window;
      }

-- what lawful lists keep
module _ (r : Run) (lawful : (i : ℕ) (g : Gateway) → slice_get r.world.gateways i ≡ Some g → IsLawful g.rules.gap g.state.list)
  where
    pub disjoint_by : (i k l : ℕ) (g : Gateway) (a b : Reservation) → slice_get r.world.gateways i ≡ Some g
        → slice_get g.state.list k ≡ Some a → slice_get g.state.list l ≡ Some b → k ≢ l
        → (a.start + airtime_of a.rate a.len ≤ b.start) ⊎ (b.start + airtime_of b.rate b.len ≤ a.start)
    disjoint_by i k l g a b e x y d = one_after_another g.rules.gap a b ((lawful i g e).apart k l a b x y d)

    pub on_air_by : (i : ℕ) (g : Gateway) → slice_get r.world.gateways i ≡ Some g → (band : Band) (t : ℕ)
        → on_air band t (t + 3600000000) g.state.list ≤ limit_of band
    on_air_by i g e band t = on_air_keeps_limit g.rules.gap g.state.list (lawful i g e) band t

module _ (settings : SettingLists) (r : Run) (safe : IsSafe settings r) where
  pub keeps_headline : KeepsHeadline settings r
  keeps_headline =
      record {
        disjoint = disjoint_by r safe.lawful;
        hour = λ i g e band t. (safe.lawful i g e).duty band t;
        on_air = on_air_by r safe.lawful;
        once = λ i j k l g h a b e x f y same.
            safe.once i j k l g h a b (record { gateway = e; member = x }) (record { gateway = f; member = y }) same;
        own = λ i k g a e x. own_uplink settings r safe.devices g a (safe.own i k g a (record { gateway = e; member = x }));
      }

pub every_run_keeps_headline : EveryRunKeepsHeadline
every_run_keeps_headline settings are limits steps =
    keeps_headline settings _ (every_interleaving_is_safe settings are limits steps)

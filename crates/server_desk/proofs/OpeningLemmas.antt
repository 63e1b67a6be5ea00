-- A desk before anything was heard.
use Rattle.server_desk.proofs.Words
use Words.{map_push, map_more, map-map, ℕ, ◌≡◌, ◌≢◌, ◌+◌, ◌<◌, ◌==◌, nat_eq, false, if◌then◌else◌, List, [], ◌∷◌, ◌++◌, map}
use Words.{length, take, get_or, All, AllPairs, refl, list_any, sym, ◌∙◌, All-nil, All-push, All-map, All-weaker, DeviceSetting}
use Words.{KnownDevice, SettingLists, IsDeviceInRange, AreSettings, Asked, opened_device, shown, outs, IsSendable, IsServable}
use Words.{IsGathered, AreOut, desk_of, Limits}
use Rattle.server_desk.proofs.Places.{from_map, all_get}
use Rattle.server_desk.proofs.{DeskLemmas.Holds, DeskLemmas.seen, SettingsLemmas.IsNew-from_AllPairs, AddrLemmas.flipped}
use Rattle.server_desk.specs.World.{opening}

abbrev addr_of : DeviceSetting → ℕ
addr_of d = d.addr

any_addr : (v : ℕ) (xs : List DeviceSetting) → list_any (nat_eq v) (map addr_of xs) ≡ list_any (λ e. e.addr == v) xs
any_addr v [] = refl
any_addr v (x ∷ xs) = rw (flipped v x.addr (nat_eq x.addr v) refl, any_addr v xs) refl

-- an address that is put behind those of the devices before it is new
pub addr_added : (devices : List DeviceSetting) (i : ℕ) (d : DeviceSetting) (keys after : List ℕ)
    → AllPairs (λ x y. x.addr ≢ y.addr) devices → i < length devices
    → keys ≡ map addr_of (take i devices)
    → after ≡ (if list_any (nat_eq (get_or devices i d).addr) keys then keys else keys ++ (get_or devices i d).addr ∷ [])
    → after ≡ map addr_of (take (i + 1) devices)
addr_added devices i d keys after differ h e a =
    let new = any_addr (get_or devices i d).addr (take i devices) ∙ IsNew-from_AllPairs addr_of devices differ i d h in
    rw (map_more addr_of devices i d h, a, e, new) refl

opened_servable : (d : DeviceSetting) → IsDeviceInRange d → IsServable (opened_device d)
opened_servable d i = record { setting = i; queue = All-nil IsSendable; down = i.down.1 }

-- one device more is kept
pub opened_more : {A : Type 0} (devices : List DeviceSetting) (i : ℕ) (d : DeviceSetting) (kepts more : List (KnownDevice A))
    (new : KnownDevice A) → i < length devices
    → (map shown kepts ≡ map opened_device (take i devices)) × All (λ k. k.out ≡ false) kepts
    → shown new ≡ opened_device (get_or devices i d) → new.out ≡ false → more ≡ kepts ++ new ∷ []
    → (map shown more ≡ map opened_device (take (i + 1) devices)) × All (λ k. k.out ≡ false) more
opened_more devices i d kepts more new h both s o e = (
  rw (e, map_push shown kepts new, map_more opened_device devices i d h, both.0, s) refl,
  rw e (All-push (λ k. k.out ≡ false) kepts new both.1 o),
)

module _ {A : Type 0} (settings : SettingLists) (limits : Limits) (kepts : List (KnownDevice A))
    (d : map shown kepts ≡ map opened_device settings.devices) where
  no_out : All (λ (x : KnownDevice A). x.out ≡ false) kepts → AreOut (outs kepts) [] []
  no_out n place out e =
      let x = from_map (λ (x : KnownDevice A). x.out) kepts place out e in
      let none : out ≡ false = sym x.2 ∙ all_get (λ (y : KnownDevice A). y.out ≡ false) kepts place x.0 n x.1 in
      rw none refl

  -- what is true of a desk's fields holds
  pub opened_holds : AreSettings settings.gateways settings.devices → All (λ (x : KnownDevice A). x.out ≡ false) kepts
      → Holds (map addr_of settings.devices) kepts (record { list = []; limits = limits }) [] []
  opened_holds are n =
      record {
        addrs = rw (d, map-map) refl;
        asked = refl;
        told = refl;
        placed = All-nil (λ (x : Asked). x.device < length (map shown kepts));
        servable = rw d (All-map IsServable opened_device settings.devices
            (All-weaker IsDeviceInRange _ opened_servable settings.devices are.devices_in_range));
        gathered = All-nil IsGathered;
        engaged = no_out n;
      }

  -- it is the desk's part of the whole system before the first step
  pub opened_desk : seen (map (λ g. g.id) settings.gateways) kepts (record { list = []; limits = limits }) [] []
      ≡ desk_of (opening settings limits)
  opened_desk = rw (d, map-map) refl

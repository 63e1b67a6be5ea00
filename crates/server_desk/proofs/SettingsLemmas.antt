use Rattle.server_desk.proofs.Words
use Words.{◌≡◌, ◌≢◌, ℕ, zero, suc, ◌<◌, ◌==◌, true, false, List, [], ◌∷◌, ◌++◌, length, get_or, take, Option, None, AllPairs}
use Words.{refl, sym, ◌∙◌, append_assoc, length-take, arith, option_or, list_any, true≢false, eq-eqb, ne_eqb, nat_tests}
use Words.{append-nil, get_or-take, get_or_default, list_any_at, list_any_none, GatewaySetting, DeviceSetting, IsGatewayInRange}
use Words.{is_gateway_in_range, IsDeviceInRange, is_device_in_range, has_rx2_band, AreSettings, are_counts_in_range}
use Words.{gateway_fault, device_fault, first_fault, settings_fault}
use Rattle.server_desk.specs.declared.settings_fault.SettingsFault.{SettingsFault}

-- Settings have no fault exactly where they are what `AreSettings` says.

both_none : (o p : Option SettingsFault) → option_or o p ≡ None → (o ≡ None) × (p ≡ None)
both_none o p h = grind arith

-- the member at each place has no fault beside those before it
abbrev pub FaultFree : {S : Type 0} → (List S → S → Option SettingsFault) → List S → List S → Type 0
FaultFree {S} fault_of earlier xs = (k : ℕ) (d : S) → k < length xs → fault_of (earlier ++ take k xs) (get_or xs k d) ≡ None

pub FaultFree-from_none : {S : Type 0} (fault_of : List S → S → Option SettingsFault) (earlier xs : List S)
    → first_fault fault_of earlier xs ≡ None → FaultFree fault_of earlier xs
FaultFree-from_none fault_of earlier [] h k d l = absurd (omega arith)
FaultFree-from_none fault_of earlier (s ∷ more) h zero d l = rw (append-nil earlier) (both_none (fault_of earlier s) _ h).0
FaultFree-from_none fault_of earlier (s ∷ more) h (suc k) d l =
    let rest = (both_none (fault_of earlier s) (first_fault fault_of (earlier ++ s ∷ []) more) h).1 in
    rw append_assoc at (FaultFree-from_none fault_of (earlier ++ s ∷ []) more rest k d (omega arith))

pub first_fault-none : {S : Type 0} (fault_of : List S → S → Option SettingsFault) (earlier xs : List S)
    → FaultFree fault_of earlier xs → first_fault fault_of earlier xs ≡ None
first_fault-none fault_of earlier [] h = refl
first_fault-none fault_of earlier (s ∷ more) h =
    let here : fault_of earlier s ≡ None = rw (append-nil earlier) at (h 0 s (omega arith)) in
    rw here (first_fault-none fault_of (earlier ++ s ∷ []) more (λ k d l. rw append_assoc (h (suc k) d (omega arith))))

-- no member has the number of one before it
abbrev pub IsNew : {S : Type 0} → (S → ℕ) → List S → Type 0
IsNew {S} key xs = (k : ℕ) (d : S) → k < length xs → list_any (λ e. key e == key (get_or xs k d)) (take k xs) ≡ false

pub AllPairs-from_IsNew : {S : Type 0} (key : S → ℕ) (xs : List S) → IsNew key xs → AllPairs (λ x y. key x ≢ key y) xs
AllPairs-from_IsNew key xs h i j d i<j j<n same =
    let there = list_any_at (λ e. key e == key (get_or xs j d)) (take j xs) i d (omega (arith, length-take j xs))
    (rw (get_or-take j xs i d i<j) (eq-eqb _ _ same)) in
    true≢false (sym there ∙ h j d j<n)

pub IsNew-from_AllPairs : {S : Type 0} (key : S → ℕ) (xs : List S) → AllPairs (λ x y. key x ≢ key y) xs → IsNew key xs
IsNew-from_AllPairs key xs h k d k<n =
    list_any_none (λ e. key e == key (get_or xs k d)) (take k xs)
    (λ i e l.
    let i<k : i < k = omega (arith, length-take k xs) in
    let i<n : i < length xs = omega arith in
    rw (get_or-take k xs i e i<k, get_or_default xs i e d i<n) (ne_eqb _ _ (h i k d i<k k<n)))

-- a gateway without a fault is in range and new
gateway_passed : (earlier : List GatewaySetting) (g : GatewaySetting) → gateway_fault earlier g ≡ None
    → IsGatewayInRange g × (list_any (λ e. e.id == g.id) earlier ≡ false)
gateway_passed earlier g h = grind (arith, nat_tests, h)

-- a device without a fault is in range and new, and the channel of its RX2 lies in a sub-band
device_passed : (earlier : List DeviceSetting) (d : DeviceSetting) → device_fault earlier d ≡ None
    → IsDeviceInRange d × (has_rx2_band d ≡ true) × (list_any (λ e. e.addr == d.addr) earlier ≡ false)
device_passed earlier d h = grind (arith, nat_tests, h)

-- settings without a fault are what the type keeps
pub are_settings : (gateways : List GatewaySetting) (devices : List DeviceSetting)
    → settings_fault gateways devices ≡ None → AreSettings gateways devices
unfolding settings_fault
are_settings gateways devices h =
    let counts : are_counts_in_range (length gateways) (length devices) ≡ true = grind (arith, h) in
    let faultless = rw counts at h in
    let both = both_none (first_fault gateway_fault [] gateways) (first_fault device_fault [] devices) faultless in
    let gateway_at = λ (k : ℕ) (d : GatewaySetting) (l : k < length gateways). gateway_passed (take k gateways)
    (get_or gateways k d) (FaultFree-from_none gateway_fault [] gateways both.0 k d l) in
    let device_at = λ (k : ℕ) (d : DeviceSetting) (l : k < length devices). device_passed (take k devices) (get_or devices k d)
    (FaultFree-from_none device_fault [] devices both.1 k d l) in
    record {
      gateway_count = (grind (arith, nat_tests), grind (arith, nat_tests));
      device_count = (grind (arith, nat_tests), grind (arith, nat_tests));
      gateways_in_range = λ k d l. (gateway_at k d l).0;
      ids_differ = AllPairs-from_IsNew (λ g. g.id) gateways (λ k d l. (gateway_at k d l).1);
      devices_in_range = λ k d l. (device_at k d l).0;
      rx2_in_bands = λ k d l. (device_at k d l).1;
      addrs_differ = AllPairs-from_IsNew (λ d. d.addr) devices (λ k d l. (device_at k d l).2);
    }

-- what the type keeps has no fault
pub no_fault : (gateways : List GatewaySetting) (devices : List DeviceSetting) → AreSettings gateways devices
    → settings_fault gateways devices ≡ None
unfolding settings_fault
no_fault gateways devices h =
    let ids = IsNew-from_AllPairs (λ g. g.id) gateways h.ids_differ in
    let addrs = IsNew-from_AllPairs (λ d. d.addr) devices h.addrs_differ in
    let counts : are_counts_in_range (length gateways) (length devices) ≡ true = grind (arith, nat_tests) in
    let gateway_free : FaultFree gateway_fault [] gateways = λ k d l.
    let here : is_gateway_in_range (get_or gateways k d) ≡ true = grind (arith, nat_tests, h.gateways_in_range k d l) in
    rw (here, ids k d l) refl in
    let device_free : FaultFree device_fault [] devices = λ k d l.
    let here : is_device_in_range (get_or devices k d) ≡ true = grind (arith, nat_tests, h.devices_in_range k d l) in
    rw (here, h.rx2_in_bands k d l, addrs k d l) refl in
    rw (counts, first_fault-none gateway_fault [] gateways gateway_free) (first_fault-none device_fault [] devices device_free)

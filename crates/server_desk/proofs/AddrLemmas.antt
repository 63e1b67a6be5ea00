-- A device's place by its address.
use Rattle.server_desk.proofs.Words
use Words.{ℕ, ◌≡◌, ◌==◌, nat_eq, Bool, List, map, position, refl, option_map, arith, nat_tests, Device, device_with}
use Rattle.server_desk.proofs.Places.{place_of_first}

-- the address of a device
abbrev pub addr_of : Device → ℕ
addr_of d = d.setting.addr

-- a comparison of numbers, the other way round
pub flipped : (a b : ℕ) (t : Bool) → nat_eq b a ≡ t → nat_eq a b ≡ t
flipped a b t e = grind (arith, nat_tests, e)

-- the place of an address among the addresses is that of its device
pub place_found : (addr : ℕ) (devices : List Device) → position (nat_eq addr) (map addr_of devices)
    ≡ option_map (λ p. p.0) (device_with addr devices)
place_found addr = place_of_first addr_of (nat_eq addr) (λ d. d.setting.addr == addr) (λ d. flipped addr (addr_of d) _ refl)

use Rattle.std.specs.Prelude.{ℕ, List, take}
use Rattle.aes_cmac.specs.Mac.{cmac}

-- What tells a session of a device from others of the same address.

-- the first four bytes of the code of its AppSKey under its NwkSKey (RFC 4493)
abbrev pub session_of : List ℕ → List ℕ → List ℕ
session_of nwkskey appskey = take 4 (cmac nwkskey appskey)

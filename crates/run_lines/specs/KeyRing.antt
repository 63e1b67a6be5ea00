use Rattle.std.specs.Prelude.{ℕ, ◌≡◌, nat_eq, List}
use Rattle.indexmap.specs.IndexMap.{IndexMap, get}
use Rattle.lora_frame.specs.declared.parts.Keys.{Keys}
use Rattle.server_desk.specs.declared.setting.DeviceSetting.{DeviceSetting}
use Rattle.run_lines.specs.RunWords.{keys_for}

-- Session keys that were expanded before a line asks for them.

-- each address leads to the session keys of its device, and no other address to any
abbrev pub KeepsKeys : {S : Type 0} → List DeviceSetting → IndexMap ℕ Keys S → Type 0
KeepsKeys devices keys = (addr : ℕ) → get nat_eq keys addr ≡ keys_for addr devices

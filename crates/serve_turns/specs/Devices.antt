use Rattle.std.specs.Prelude.{List, map, None}
use Rattle.server_desk.specs.declared.setting.DeviceSetting.{DeviceSetting}
use Rattle.server_desk.specs.Register.{Device}

-- How devices are set, but for the counters with which a desk opened.

abbrev pub without_counters : DeviceSetting → DeviceSetting
without_counters s = record s { up = None; down = 0 }

abbrev pub settings_of : List Device → List DeviceSetting
settings_of devices = map (λ d. without_counters d.setting) devices

use Rattle.uplink_gather.specs.declared.limits.Limits.{Limits}

-- how many uplinks may be gathered, and how many copies of one, where nobody says so
abbrev pub usual_limits : Limits
usual_limits = record { max_open = 4096; max_ever = 1000000; max_copies = 64 }

use Rattle.std.proofs.Common.{sym, ap, ◌∙◌}
use Rattle.server_desk.specs.Desk.{total_of}
use Rattle.server_desk.proofs.AirtimeLaws.{total-opening}
use Rattle.server_station.proofs.station.Station.new.Goals as goal

pub new-requires : goal.new-requires
new-requires g c = c.begin-tally.ensures.total ∙ sym (ap total_of c.in_ok-desk.ensures
    ∙ total-opening c.args.settings.now (record { max_open = 4096; max_ever = 1000000; max_copies = 64 }))

use Rattle.server_station.proofs.Settled.{told, handed_back, rises}
use Rattle.server_station.proofs.station.Station.settle.Goals as goal

pub returns-clause-kept : goal.returns-clause-kept
returns-clause-kept g c = told c.args.stub c.settle.result _ c.settle.ensures.answer

pub returns-clause-rose : goal.returns-clause-rose
returns-clause-rose g c =
    rises c.args.stub c.settle.result _ _ (told c.args.stub c.settle.result _ c.settle.ensures.answer) c.settle.ensures.booked
    c.settle.ensures.counted

pub returns-clause-back : goal.returns-clause-back
returns-clause-back g c = handed_back c.args.stub c.settle.result _ c.settle.ensures.answer

-- A worker's thread may be sent what it is passed: its worker, and the runtime, the station, the numbers and the gate that all
-- share.
use Rattle.std.specs.Prelude.{[]}
use mir.Syntax.{named, of_param}
use denote.Exit.{unseen}
use denote.Param.{param, copied}
use denote.Param.Send.{IsSend, IsSync, Frees, Quiet-if}
use Rattle.server_station.proofs.Crossing.{station_sync}
use Rattle.server_station.specs.contracts.station.Station as Station
use Rattle.server_workers.proofs.Crossing.{passed_send}
use Rattle.server_workers.specs.contracts.member.Member as Member
use Rattle.server_workers.specs.contracts.member.Numbers as Numbers
use Rattle.server_workers.proofs.member.Member.TheSendSync as sent_member
use Rattle.server_workers.proofs.member.Numbers.TheSendSync as shared_numbers
use Rattle.server_workers.proofs.serving.fn.run.scope.Goals as goal

pub spawn-started-requires-send-F : goal.spawn-started-requires-send-F
spawn-started-requires-send-F g c κs within =
    let may = c.requires-raw.1.1.1.1.1.1.1 in
    let K = param 0 g.row.K in
    let R = param 1 g.row.R in
    let B = param 2 g.row.B in
    let S = param 3 g.row.S in
    let A = copied 4 g.row.A in
    let G = param 5 g.row.G in
    let H = param 6 g.row.S-Hasher in
    let send_S : IsSend S = may.1.1.0 in
    let send_A : IsSend A = may.1.1.1.0 in
    let sync_R : IsSync R = may.1.1.1.1.1.1.0 in
    let sync_A : IsSync A = may.1.1.1.1.1.1.1.1.1.0 in
    let sync_G : IsSync G = may.1.1.1.1.1.1.1.1.1.1.0 in
    let frees : Frees g.A.Allocator g.A.Allocator.dealloc_token = may.1.1.1.1.1.1.1.1.1.1.1.1 in
    let member : IsSend (Member.the_row K B A g.K.Room g.B.Ledger g.A.Allocator) =
    sent_member.the_send K B A g.K.Room g.B.Ledger g.A.Allocator send_A frees in
    let numbers : IsSync (Numbers.the_row K A g.K.Room g.A.Allocator) =
    shared_numbers.the_sync K A g.K.Room g.A.Allocator send_A sync_A frees in
    let station : IsSync (Station.the_row B S A H g.B.Ledger g.S.BuildHasher g.S.Hasher.Hasher g.A.Allocator g.A.Clone) =
    station_sync A g.A.Allocator g.A.Clone send_A frees B S H g.B.Ledger g.S.BuildHasher g.S.Hasher.Hasher sync_A send_S in
    let passed =
    (passed_send [] (named 5) (named 6) (named 7) (named 8) (named 9) κs.1.1.1.1.1.0 κs.1.1.1.1.1.1.0 κs.1.1.1.1.1.1.1.0
    κs.1.1.1.1.1.1.1.1.0 κs.1.1.1.1.1.1.1.1.1.0 _ _ _ _ _ member sync_R station numbers sync_G) in
    record { owned = passed.owned; leaving = λ k. Quiet-if (k (of_param 1)) _ unseen (λ x w. (tt, tt)) (λ x w. tt) }

use Rattle.std.proofs.Common.{◌≡◌, take, drop, map, All}
use Rattle.server_workers.specs.Filing.{filing, IsByNumber}
use Rattle.run_server.specs.Booking.{booking_of}
use Rattle.run_server.specs.PassAnswers.{answer_in}
use Rattle.run_server.proofs.pass_ends.answers.Given as goal

abbrev pub invariant-loop-number : goal.invariant-loop-number
invariant-loop-number l = record {
  by_number : IsByNumber (filing l.filed);
  same : map booking_of l.filed.receipts.items ≡ map booking_of l.fn.filed.receipts.items;
  told : l.answers.items ≡ map (answer_in (filing l.fn.filed)) (take l.number-index l.numbers);
  left : All (λ n. answer_in (filing l.filed) n ≡ answer_in (filing l.fn.filed) n) (drop l.number-index l.numbers);
}

use Rattle.std.proofs.Common.{◌≡◌, ◌+◌, ◌-◌, ◌*◌, ◌^◌, subst, get_or, arith}
use Rattle.std.proofs.Math.Nat.{pow-succ'}
use Rattle.text_lines.proofs.NumberLemmas.{IsFront, digit_more}
use Rattle.forwarder_packets.proofs.Digits.{digit_small}
use Rattle.forwarder_packets.proofs.scaled.value_of.Goals as goal

pub loop-byte-preserved : goal.loop-byte-preserved
loop-byte-preserved c =
    let digits = c.args.digits.now in
    let k = c.loop-byte.byte-index in
    let longer : c.loop-byte.value * 10 + (get_or digits k 0 - 48) ≡ c.loop-byte.value * 10 + c.from.result =
    omega (arith, c.from.ensures) in
    let next : 10 ^ (k + 1) ≡ 10 * 10 ^ k = grind (arith, pow-succ' 10 k) in (
      subst (IsFront digits (k + 1)) longer (digit_more digits k c.loop-byte.value c.loop-byte-test.true c.loop-byte.invariant.0),
      omega (arith, c.from.ensures, c.loop-byte.invariant.1, digit_small digits k c.requires.digits c.loop-byte-test.true, next),
    )

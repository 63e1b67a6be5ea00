use Rattle.std.proofs.Common.{◌≡◌, ◌+◌, ◌-◌, ◌*◌, ◌^◌, ◌∙◌, Some, ap, sym, subst, get_or, arith}
use Rattle.text_lines.specs.Number.{value_of}
use Rattle.text_lines.proofs.NumberLemmas.{IsFront, digit_more, front_too_large, in_bound, all_digits}
use Rattle.text_lines.proofs.numbers.number_u64.Goals as goal

pub returns-in_err-checked_mul : goal.returns-in_err-checked_mul
returns-in_err-checked_mul c =
    c.from_residual.ensures
    ∙ sym (front_too_large (2 ^ 64) c.args.word.now c.loop-byte.byte-index c.loop-byte.value c.loop-byte-test.true
    c.loop-byte.invariant.0 (λ small. c.in_err-checked_mul.ensures (omega (arith, small))))

pub returns-in_err-value : goal.returns-in_err-value
returns-in_err-value c =
    c.from_residual-in_err-value.ensures
    ∙ sym (front_too_large (2 ^ 64) c.args.word.now c.loop-byte.byte-index c.loop-byte.value c.loop-byte-test.true
    c.loop-byte.invariant.0
    (λ small. c.in_err-value.ensures (omega (arith, small, c.from.ensures, c.in_ok-checked_mul.ensures.1))))

pub loop-byte-preserved : goal.loop-byte-preserved
loop-byte-preserved c =
    let word = c.args.word.now in
    let k = c.loop-byte.byte-index in
    let longer : c.loop-byte.value * 10 + (get_or word k 0 - 48) ≡ c.in_ok-value.value =
    omega (arith, c.from.ensures, c.in_ok-checked_mul.ensures.1, c.in_ok-value.ensures.1) in (
      subst (IsFront word (k + 1)) longer (digit_more word k c.loop-byte.value c.loop-byte-test.true c.loop-byte.invariant.0),
      omega (arith, c.in_ok-value.ensures.0, c.in_ok-value.ensures.1),
    )

pub returns : goal.returns
returns c =
    let word = c.args.word.now in
    let whole : c.loop-byte.value ≡ value_of word =
    all_digits word c.loop-byte.byte-index c.loop-byte.value
    (omega (arith, c.loop-byte-test.false, c.loop-byte.auto.byte-index-end)) c.loop-byte.invariant.0 in
    ap Some whole ∙ sym (in_bound (2 ^ 64) word (sym c.if-not-is_digits.ensures) (omega (arith, whole, c.loop-byte.invariant.1)))

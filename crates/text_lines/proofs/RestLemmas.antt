-- What is left of an input, as more of it is given.
use Rattle.std.proofs.Common.{◌≡◌, ℕ, ◌+◌, min, List, [], ◌++◌, length, take, Option, None, Some, refl, sym, ap, ◌∙◌}
use Rattle.std.proofs.Common.{arith, append_assoc, length-append, Result, Ok, Err}
use Rattle.std.proofs.Math.Seq.{take-append_seam}
use Rattle.std.specs.Prelude.{IfOk, OnErr}
use Rattle.std.specs.Io.{ReadsAtMost}
use Rattle.std.specs.Io.KnownBytes.{Consumes, ReadConsumes}
use Rattle.text_lines.specs.Rest.{IsRest, gone_of}
use Rattle.text_lines.specs.Ahead.{most_input}

-- the bytes before the rest are those that are gone
gone_front : (bytes front rest : List ℕ) → bytes ≡ front ++ rest → gone_of bytes (Some rest) ≡ length front
gone_front bytes front rest e = omega (arith, ap length e, length-append front rest)

parted : (bytes front rest : List ℕ) (taken : ℕ) → bytes ≡ front ++ rest
    → min taken (most_input + 1) ≡ min (length front) (most_input + 1) → IsRest bytes (Some rest) taken
parted bytes front rest taken e counted =
    let n : gone_of bytes (Some rest) ≡ length front = gone_front bytes front rest e in
    record {
      known = refl;
      ends = e ∙ ap (λ l. l ++ rest) (sym (ap (λ k. take k bytes) n ∙ ap (take (length front)) e
          ∙ take-append_seam front rest));
      counted = counted ∙ ap (λ k. min k (most_input + 1)) (sym n);
    }

-- some bytes were given; how many is counted, unless more than 2^28 were before
pub IsRest-given : (bytes : List ℕ) (left left_after : Option (List ℕ)) (taken taken_after : ℕ) (given : List ℕ)
    → IsRest bytes left taken → Consumes left left_after given
    → min taken_after (most_input + 1) ≡ min (taken + length given) (most_input + 1)
    → IsRest bytes left_after taken_after
IsRest-given bytes None left_after taken taken_after given rest consumed counted = absurd (cc (rest.known))
IsRest-given bytes (Some x) None taken taken_after given rest consumed counted = absurd consumed
IsRest-given bytes (Some x) (Some y) taken taken_after given rest consumed counted =
    let front : List ℕ = take (gone_of bytes (Some x)) bytes in
    let more : List ℕ = front ++ given in
    let all : bytes ≡ more ++ y =
    rest.ends ∙ ap (λ l. front ++ l) consumed ∙ sym (append_assoc front given y) in
    let n : gone_of bytes (Some x) ≡ length front = gone_front bytes front x rest.ends in
    parted bytes more y taken_after all (omega (arith, counted, rest.counted, n, length-append front given))

-- one read more
pub IsRest-read : {E : Type 0} (bytes : List ℕ) (left left_after : Option (List ℕ)) (taken taken_after : ℕ) (into : List ℕ)
    (result : Result ℕ E) → IsRest bytes left taken → ReadsAtMost result into → ReadConsumes left left_after result into
    → IfOk result (λ count. min taken_after (most_input + 1) ≡ min (taken + count) (most_input + 1))
    → OnErr result (taken_after ≡ taken) → IsRest bytes left_after taken_after
IsRest-read bytes left left_after taken taken_after into (Ok count) rest bound read counted none =
    let n : length (take count into) ≡ count = sym bound.1 in
    IsRest-given bytes left left_after taken taken_after (take count into) rest read.0 (rw n counted)
IsRest-read bytes None left_after taken taken_after into (Err e) rest bound read counted none = absurd (cc (rest.known))
IsRest-read bytes (Some x) None taken taken_after into (Err e) rest bound read counted none = absurd read
IsRest-read bytes (Some x) (Some y) taken taken_after into (Err e) rest bound read counted none =
    IsRest-given bytes (Some x) (Some y) taken taken_after [] rest (sym read) (omega (arith, none))

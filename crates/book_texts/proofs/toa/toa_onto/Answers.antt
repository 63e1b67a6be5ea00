use Rattle.std.proofs.Common.{◌≡◌, ℕ, ◌≤◌, false, Some, nat_lt, refl, sym, ap, ◌∙◌, arith, decimal}
use Rattle.std.proofs.lemmas.Bool.{le-ltb}
use Rattle.std.proofs.lemmas.Fmt.{decimal_is_IsNumeral}
use Rattle.radio_airtime.specs.declared.data_rate.DataRate.{DataRate}
use Rattle.radio_airtime.specs.DataRate.{max_phy_of, known_rate}
use Rattle.radio_airtime.specs.TimeOnAir.{airtime_of}
use Rattle.text_words.specs.Words.{is_refusal, spaced}
use Rattle.book_texts.specs.Toa.{toa_words, toa_line}
use Rattle.book_texts.proofs.LineLemmas.{is_refusal-numeral}
use Rattle.book_texts.proofs.toa.toa_onto.Goals as goal

-- the line of a length that is not too long
toa_line-fits : (number len : ℕ) (rate : DataRate) → known_rate number ≡ Some rate → len ≤ max_phy_of rate
    → toa_line number len ≡ decimal (airtime_of rate len)
toa_line-fits number len rate e h =
    let short : nat_lt (max_phy_of rate) len ≡ false = le-ltb (max_phy_of rate) len h in
    ap (λ o. spaced (toa_words o len)) e ∙ rw short refl

pub returns-in-Some-2-clause-refused : goal.returns-in-Some-2-clause-refused
returns-in-Some-2-clause-refused c =
    let numeral = (decimal_is_IsNumeral c.airtime.result (omega (arith, c.airtime.ensures.short))).0 in
    let line = toa_line-fits c.args.rate c.args.len c.in-Some.rate (sym c.in-Some.ensures.exact)
    (omega (arith, c.if-len-max_phy.false, c.max_phy.ensures)) in
    sym (ap is_refusal (line ∙ ap decimal (sym c.airtime.ensures.value)) ∙ is_refusal-numeral _ numeral)

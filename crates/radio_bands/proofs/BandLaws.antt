use Rattle.std.specs.Prelude.{◌≡◌, ◌↔◌, ℕ, ◌/◌, ◌<◌, Bool, true, false, Some, None}
use Rattle.std.specs.Bool.{then_some}
use Rattle.std.proofs.Common.{refl, sym, ap, ◌∙◌, arith, true≢false, subst}
use Rattle.std.proofs.lemmas.Bool.Decides.{nat_tests}
use Rattle.radio_airtime.specs.declared.data_rate.DataRate.{DataRate}
use Rattle.radio_airtime.specs.declared.data_rate.DataRate.TheVariants.{Dr0, Dr1, Dr2, Dr3, Dr4, Dr5, Dr6}
use Rattle.radio_airtime.specs.DataRate.{bandwidth_of}
use Rattle.radio_bands.specs.declared.band.Band.{Band}
use Rattle.radio_bands.specs.declared.band.Band.TheVariants.{K, L, M, N, P, Q}
use Rattle.radio_bands.specs.Band.{LiesIn, lies_in, band_of}

pub lies_in-true : (freq_hz : ℕ) (rate : DataRate) (band : Band) → lies_in freq_hz rate band ≡ true → LiesIn freq_hz rate band
lies_in-true f r b h = record { from_low = grind (arith, nat_tests); to_high = grind (arith, nat_tests) }

-- no channel is without width
has_width : (rate : DataRate) → 0 < bandwidth_of rate / 2
has_width Dr0 = omega arith
has_width Dr1 = omega arith
has_width Dr2 = omega arith
has_width Dr3 = omega arith
has_width Dr4 = omega arith
has_width Dr5 = omega arith
has_width Dr6 = omega arith

-- a channel of positive half width `w` that keeps within a band's edges is found there, since the edges follow one another
pub LiesIn-band_of : (freq_hz : ℕ) (rate : DataRate) (band : Band) → LiesIn freq_hz rate band → band_of freq_hz rate ≡ Some band
unfolding band_of
LiesIn-band_of f r K h = let w = has_width r in grind (arith, nat_tests)
LiesIn-band_of f r L h = let w = has_width r in grind (arith, nat_tests)
LiesIn-band_of f r M h = let w = has_width r in grind (arith, nat_tests)
LiesIn-band_of f r N h = let w = has_width r in grind (arith, nat_tests)
LiesIn-band_of f r P h = let w = has_width r in grind (arith, nat_tests)
LiesIn-band_of f r Q h = let w = has_width r in grind (arith, nat_tests)

-- where the only band that a channel may lie in doesn't hold it, no band does
none_by : (t : Bool) (freq_hz : ℕ) (rate : DataRate) (near band : Band) → (LiesIn freq_hz rate band → near ≡ band)
    → lies_in freq_hz rate near ≡ false → lies_in freq_hz rate band ≡ t → lies_in freq_hz rate band ≡ false
none_by true f r near band only none test =
    absurd (true≢false (sym test ∙ sym (ap (lies_in f r) (only (lies_in-true f r band test))) ∙ none))
none_by false f r near band only none test = test

pub none_there : (freq_hz : ℕ) (rate : DataRate) (near : Band) → ((band : Band) → LiesIn freq_hz rate band → near ≡ band)
    → lies_in freq_hz rate near ≡ false → band_of freq_hz rate ≡ None
unfolding band_of
none_there f r near only none =
    let there : (band : Band) → lies_in f r band ≡ false =
    λ band. none_by (lies_in f r band) f r near band (only band) none refl in
    rw (there K, there L, there M, there N, there P, there Q) refl

-- where the only band that a channel may lie in is asked, the answer tells which one it lies in
pub chosen : (t : Bool) (freq_hz : ℕ) (rate : DataRate) (near : Band) → ((band : Band) → LiesIn freq_hz rate band → near ≡ band)
    → lies_in freq_hz rate near ≡ t → then_some t near ≡ band_of freq_hz rate
chosen true f r near only e = sym (LiesIn-band_of f r near (lies_in-true f r near e))
chosen false f r near only e = sym (none_there f r near only e)

pub chosen_alone : (t : Bool) (freq_hz : ℕ) (rate : DataRate) (near : Band)
    → ((band : Band) → LiesIn freq_hz rate band → near ≡ band) → lies_in freq_hz rate near ≡ t
    → (band : Band) → then_some t near ≡ Some band ↔ LiesIn freq_hz rate band
chosen_alone true f r near only e band =
    ((λ h. let same : near ≡ band = cc in subst (LiesIn f r) same (lies_in-true f r near e)), (λ h. ap Some (only band h)))
chosen_alone false f r near only e band =
    ((λ h. absurd (cc)), (λ h. sym (none_there f r near only e) ∙ LiesIn-band_of f r band h))

-- What the worked facts speak of: three transmissions of one gateway, and that it may hold them.
use Rattle.std.proofs.Common.{ℕ, ◌+◌, ◌≤◌, List, [], ◌∷◌, refl, arith}
use Rattle.std.proofs.lemmas.List.Elements.{All-cons}
use Rattle.radio_airtime.specs.TimeOnAir.{airtime_of}
use Rattle.radio_airtime.specs.declared.data_rate.DataRate.TheVariants.{Dr0, Dr5}
use Rattle.radio_bands.specs.Band.{band_of, hour, limit_of}
use Rattle.radio_bands.specs.declared.band.Band.{Band}
use Rattle.radio_bands.specs.declared.band.Band.TheVariants.{K, L, M, N, P, Q}
use Rattle.resv_list.specs.declared.reservation.Reservation.{Reservation}
use Rattle.resv_list.specs.Fit.{IsFit}
use Rattle.resv_list.specs.Reservations.{IsByStart, net}
use Rattle.gateway_book.specs.declared.ask.Ask.{Ask}
use Rattle.gateway_book.specs.Lawful.{IsLawful}
use Rattle.gateway_book.specs.Step.{is_fit-IsFit}
use Rattle.gateway_book.proofs.ApartLaws.{spaced_apart}
use Rattle.gateway_book.proofs.DutyRow.{begun_net}

-- 12 bytes at DR5 on a channel of sub-band M: 41,216 us
abbrev pub fast : ℕ → ℕ → Ask
fast number start = record { number = number; start = start; freq_hz = 868100000; rate = Dr5; len = 12 }

-- 60 bytes at DR0 on a channel of sub-band K: 2,629,632 us of 3,600,000 us
abbrev pub slow : ℕ → ℕ → Ask
slow number start = record { number = number; start = start; freq_hz = 863500000; rate = Dr0; len = 60 }

unfoldable pub early : Reservation
unfolding airtime_of band_of
early = record { number = 1; start = 1000; freq_hz = 868100000; rate = Dr5; len = 12; fit = is_fit-IsFit (fast 1 1000) refl }

unfoldable pub late : Reservation
unfolding airtime_of band_of
late = record {
  number = 2;
  start = 1000000;
  freq_hz = 868100000;
  rate = Dr5;
  len = 12;
  fit = is_fit-IsFit (fast 2 1000000) refl;
}

-- within an hour of the second, and not of the first
unfoldable pub last : Reservation
unfolding airtime_of band_of
last = record {
  number = 3;
  start = 3600500000;
  freq_hz = 868100000;
  rate = Dr5;
  len = 12;
  fit = is_fit-IsFit (fast 3 3600500000) refl;
}

abbrev pub sent : List Reservation
sent = early ∷ late ∷ last ∷ []

pub by_start : IsByStart sent
unfolding early late last
by_start = (omega arith, (omega arith, (omega arith, tt)))

least_limit : (band : Band) → 3600000 ≤ limit_of band
least_limit K = omega arith
least_limit L = omega arith
least_limit M = omega arith
least_limit N = omega arith
least_limit P = omega arith
least_limit Q = omega arith

-- all three together
pub all_sent : net sent ≤ 123648
unfolding net airtime_of early late last
all_sent = omega arith

pub lawful : IsLawful 1000 sent
unfolding airtime_of early late last
lawful =
    let F : Reservation → Type 0 = λ r. IsFit r.start r.freq_hz r.rate r.len in
    record {
      fit = All-cons F early (late ∷ last ∷ []) early.fit
          (All-cons F late (last ∷ []) late.fit (All-cons F last [] last.fit (λ k r h. absurd (omega (arith, h)))));
      apart = spaced_apart 1000 0 sent (omega arith, (omega arith, (omega arith, tt)));
      duty = λ band t. let h = begun_net band t (t + hour) sent in omega (arith, h, all_sent, least_limit band);
    }

-- What the headline and the law of book calls say of the worked run: each clause tells a fact.
use Rattle.server_core.proofs.Words.{ap, arith, inl, inr, subst, sym, ◌∙◌, Contains, refl, true, ◌+◌, ◌≡◌, ◌≤◌, Gathering}
use Rattle.server_core.proofs.Words.{HeardCopy, numbered, same_Some, DeviceSetting, addr_of}
use Rattle.worked_laws.proofs.Inputs.{settings, limits, first_device, second_device, kept_copy, both_copies, gathering}
use Rattle.worked_laws.proofs.Inputs.{uplink}
use Rattle.worked_laws.proofs.Steps.{gateway_1, gateway_3, third_copy, w18, steps, after, whole_run}
use Rattle.worked_laws.proofs.Promise.{are, first_held, second_held, third_held, the_only}
use Rattle.server_core.proofs.Headlines.{every_run_keeps_headline}
use Rattle.radio_airtime.specs.declared.data_rate.DataRate.TheVariants.{Dr3, Dr5}
use Rattle.radio_airtime.specs.TimeOnAir.{airtime_of}
use Rattle.radio_bands.specs.declared.band.Band.TheVariants.{M}
use Rattle.resv_list.specs.OnAir.{on_air}
use Rattle.resv_list.specs.Reservations.{begun}
use Rattle.server_core.specs.Headline.{TakesRx1, TakesRx2, IsOfItsUplink, KeepsHeadline}

module _ (headline : KeepsHeadline settings after) where
  disjoint : second_held.member.start + airtime_of second_held.member.rate second_held.member.len ≤ third_held.member.start
  disjoint = elim (headline.disjoint 1 0 1 gateway_3 second_held.member third_held.member refl second_held.there third_held.there
      (λ e. absurd (omega (arith, e))))
      [ inl e ↦ e | inr e ↦ absurd (omega (arith, e, second_held.asked.start, third_held.asked.start)) ]

  hour_kept : begun M 10000000 3610000000 gateway_3.state.list ≤ 36000000
  hour_kept = headline.hour 1 gateway_3 refl M 10000000

  on_air_kept : on_air M 10000001 3610000001 gateway_3.state.list ≤ 36000000
  on_air_kept = headline.on_air 1 gateway_3 refl M 10000001

  numbers_differ : first_held.member.number ≡ second_held.member.number → ⊥
  numbers_differ e =
      let same = (headline.once 0 1 0 0 gateway_1 gateway_3 first_held.member second_held.member refl first_held.there refl
      second_held.there e).0 in
      absurd (omega (arith, same))

  own : IsOfItsUplink settings w18.reg.gathered.list gateway_3 second_held.member
  own = headline.own 1 0 gateway_3 second_held.member refl second_held.there

  its_uplink : own.uplink ≡ gathering (uplink 0xda 1) 300000 both_copies true
  its_uplink = same_Some _ _ (sym own.its_own ∙ ap (λ n. numbered n w18.reg.gathered.list) second_held.asked.number)

  its_copy : own.copy ≡ kept_copy 2 9000000 50
  its_copy = the_only (λ (c : HeardCopy). c.gateway) (kept_copy 2 9000000 50) both_copies own.copy (assumption)
      (subst (λ (g : Gathering). Contains g.copies own.copy) its_uplink own.copied) own.heard

  its_device : own.device ≡ first_device
  its_device = the_only (λ (d : DeviceSetting). d.addr) first_device settings.devices own.device (assumption) own.set
      (own.addr ∙ ap (λ (g : Gathering). addr_of g.bytes) its_uplink)

  -- it takes RX1 of that copy, and not RX2
  its_window : TakesRx1 first_device (kept_copy 2 9000000 50) second_held.member
  its_window = elim (rw (its_copy, its_device) at own.window)
      [ inl e ↦ e | inr e ↦ absurd (omega (arith, e.start, second_held.asked.start)) ]

  its_channel : second_held.member.freq_hz ≡ 868100000
  its_channel = its_window.freq_hz

  its_rate : second_held.member.rate ≡ Dr5
  its_rate = its_window.rate

  third_own : IsOfItsUplink settings w18.reg.gathered.list gateway_3 third_held.member
  third_own = headline.own 1 1 gateway_3 third_held.member refl third_held.there

  third_uplink : third_own.uplink ≡ gathering (uplink 0xdb 0) 600000 third_copy true
  third_uplink = same_Some _ _ (sym third_own.its_own ∙ ap (λ n. numbered n w18.reg.gathered.list) third_held.asked.number)

  third_is_heard : third_own.copy ≡ kept_copy 2 8000000 50
  third_is_heard = the_only (λ (c : HeardCopy). c.gateway) (kept_copy 2 8000000 50) third_copy third_own.copy (assumption)
      (subst (λ (g : Gathering). Contains g.copies third_own.copy) third_uplink third_own.copied) third_own.heard

  third_device : third_own.device ≡ second_device
  third_device = the_only (λ (d : DeviceSetting). d.addr) second_device settings.devices third_own.device (assumption)
      third_own.set (third_own.addr ∙ ap (λ (g : Gathering). addr_of g.bytes) third_uplink)

  -- it takes RX2 of its copy, as the second device listens, and not RX1
  third_window : TakesRx2 second_device (kept_copy 2 8000000 50) third_held.member
  third_window = elim (rw (third_is_heard, third_device) at third_own.window)
      [ inl e ↦ absurd (omega (arith, e.start, third_held.asked.start)) | inr e ↦ e ]

  third_begins : third_held.member.start ≡ 11000000
  third_begins = third_window.start

  third_channel : third_held.member.freq_hz ≡ 868500000
  third_channel = third_window.freq_hz

  third_rate : third_held.member.rate ≡ Dr3
  third_rate = third_window.rate

pub headline_run : KeepsHeadline settings after
headline_run = subst (KeepsHeadline settings) whole_run (every_run_keeps_headline settings are limits steps)

-- A state that is written whole and read again, by computation; and what the law says of every state.
use Rattle.std.proofs.Common.{◌≡◌, List, [], ◌∷◌, Some, Ok, All, refl, ap, ◌∙◌, arith, zero, suc, codes}
use Rattle.std.specs.Fmt.{digits}
use Rattle.std.proofs.lemmas.List.Elements.{All-cons, All-nil}
use Rattle.hex.specs.Hex.{IsBytes, decode_pairs, encode_with}
use Rattle.radio_airtime.specs.TimeOnAir.{airtime_of}
use Rattle.radio_airtime.specs.declared.data_rate.DataRate.TheVariants.{Dr5}
use Rattle.radio_bands.specs.Band.{band_of}
use Rattle.text_lines.specs.Line.{text_of}
use Rattle.resv_list.specs.declared.reservation.Reservation.{Reservation}
use Rattle.resv_list.specs.Reservations.{begun, net}
use Rattle.resv_list.specs.SameFields.{same_fields}
use Rattle.gateway_book.specs.Answer.{overlap}
use Rattle.gateway_book.specs.Duty.{full_hour}
use Rattle.gateway_book.specs.Kept.{kept}
use Rattle.gateway_book.specs.Step.{is_fit-IsFit}
use Rattle.gateway_book.proofs.MaySave.{books_may_be_saved}
use Rattle.gateway_book.proofs.WorkedLists.{fast, early, late, last}
use Rattle.gateway_book.proofs.WorkedSaved.{worked, worked_stands, worked_is_held}
use Rattle.serve_journal.specs.EntryWords.{is_lower_digit}
use Rattle.serve_journal.specs.Journal.{Journal, Mast, Node}
use Rattle.serve_journal.specs.LineLaws.{IsPayload}
use Rattle.serve_journal.specs.Payload.{Waiting}
use Rattle.serve_journal.specs.Reading.{journal_of}
use Rattle.serve_journal.specs.Renewal.{renewal_text}
use Rattle.serve_journal.specs.RenewalLaw.{IsRenewableGateway, IsRenewableDevice, IsRenewable, unnumbered, renewed}
use Rattle.serve_journal.specs.RenewalLaw.{RenewalReadsAsState}

-- A gateway whose book keeps three reservations, has cancelled one and retired one, and a device for which a payload waits.

abbrev pub its_gateway : Mast
its_gateway = record {
  id = 65535;
  eui = 0 ∷ 0x16 ∷ 0xc0 ∷ 1 ∷ 0xff ∷ 0x10 ∷ 0xa2 ∷ 0xb3 ∷ [];
  high = 3602000000;
  book = worked;
}

abbrev pub its_payload : Waiting
its_payload = record { port = 9; bytes = 1 ∷ 2 ∷ [] }

abbrev pub its_device : Node
its_device = record {
  addr = 0x26011bda;
  session = 0x5c ∷ 0x7e ∷ 0xfb ∷ 0x43 ∷ [];
  up = Some 7;
  down = 1;
  queue = its_payload ∷ [];
}

abbrev pub state : Journal
state = record { gateways = its_gateway ∷ []; devices = its_device ∷ [] }

pub text_is_written : renewal_text state ≡ text_of
    (codes "airbook journal 1"
    ∷ codes "gateway 65535 0016c001ff10a2b3 3 1000"
    ∷ codes "device 26011bda 5c7efb43 7 1"
    ∷ codes "queue 26011bda 9 0102"
    ∷ codes "sent 65535 1000 868100000 5 12"
    ∷ codes "sent 65535 1000000 868100000 5 12"
    ∷ codes "sent 65535 3600500000 868100000 5 12"
    ∷ codes "clock 65535 3602000000 3600001000"
    ∷ codes "."
    ∷ [])
unfolding digits encode_with early late last
text_is_written = refl

-- the members as they are read: they have no numbers

unfoldable pub early_read : Reservation
unfolding airtime_of band_of
early_read = record {
  number = 0;
  start = 1000;
  freq_hz = 868100000;
  rate = Dr5;
  len = 12;
  fit = is_fit-IsFit (fast 0 1000) refl;
}

unfoldable pub late_read : Reservation
unfolding airtime_of band_of
late_read = record {
  number = 0;
  start = 1000000;
  freq_hz = 868100000;
  rate = Dr5;
  len = 12;
  fit = is_fit-IsFit (fast 0 1000000) refl;
}

unfoldable pub last_read : Reservation
unfolding airtime_of band_of
last_read = record {
  number = 0;
  start = 3600500000;
  freq_hz = 868100000;
  rate = Dr5;
  len = 12;
  fit = is_fit-IsFit (fast 0 3600500000) refl;
}

-- the state with these in the book, which has booked what it keeps
abbrev pub state_with : List Reservation → Journal
state_with l = record {
  gateways = (record its_gateway {
    book = record {
      id = 65535;
      rules = record { cap = 3; gap = 1000 };
      floor = 3600001000;
      list = l;
      booked = 123648;
      cancelled = 0;
      retired = 0;
    };
  }) ∷ [];
  devices = its_device ∷ [];
}

pub text_is_read : journal_of (renewal_text state) ≡ Ok (state_with (early_read ∷ late_read ∷ last_read ∷ []))
unfolding digits encode_with decode_pairs is_lower_digit airtime_of band_of begun kept net overlap full_hour early late last early_read late_read last_read
text_is_read = refl

pub state_is_renewed : renewed state ≡ state_with (early_read ∷ late_read ∷ last_read ∷ [])
unfolding airtime_of net early late last early_read late_read last_read
state_is_renewed =
    λ i.
    state_with
    (same_fields (unnumbered early) early_read refl refl refl refl refl i
    ∷ same_fields (unnumbered late) late_read refl refl refl refl refl i
    ∷ same_fields (unnumbered last) last_read refl refl refl refl refl i
    ∷ [])

-- it is a state as a server has it

its_payloads : All IsPayload (its_payload ∷ [])
its_payloads =
    All-cons IsPayload its_payload [] (record { port = refl; few = omega arith; small = bytes_small }) (All-nil IsPayload)
  where
    bytes_small : IsBytes (1 ∷ 2 ∷ [])
    bytes_small zero = omega arith
    bytes_small (suc zero) = omega arith
    bytes_small (suc (suc i)) = omega arith

pub state_is_renewable : IsRenewable state
state_is_renewable = record {
  gateways = All-cons IsRenewableGateway its_gateway [] (record {
    own = refl;
    eui = record { sized = refl; small = eui_small };
    high = omega arith;
    book = books_may_be_saved worked worked_stands worked_is_held;
  }) (All-nil IsRenewableGateway);
  gateways_fit = omega arith;
  ids_differ = λ i k d h l. absurd (omega (arith, h, l));
  euis_differ = λ i k d h l. absurd (omega (arith, h, l));
  devices = All-cons IsRenewableDevice its_device [] (record {
    addr = omega arith;
    session = record { sized = refl; small = session_small };
    up = omega arith;
    down = omega arith;
    payloads = its_payloads;
    queue_fits = omega arith;
  }) (All-nil IsRenewableDevice);
  devices_fit = omega arith;
  addrs_differ = λ i k d h l. absurd (omega (arith, h, l));
}
  where
    session_small : IsBytes its_device.session
    session_small zero = omega arith
    session_small (suc zero) = omega arith
    session_small (suc (suc zero)) = omega arith
    session_small (suc (suc (suc zero))) = omega arith
    session_small (suc (suc (suc (suc i)))) = omega arith

    eui_small : IsBytes its_gateway.eui
    eui_small zero = omega arith
    eui_small (suc zero) = omega arith
    eui_small (suc (suc zero)) = omega arith
    eui_small (suc (suc (suc zero))) = omega arith
    eui_small (suc (suc (suc (suc zero)))) = omega arith
    eui_small (suc (suc (suc (suc (suc zero))))) = omega arith
    eui_small (suc (suc (suc (suc (suc (suc zero)))))) = omega arith
    eui_small (suc (suc (suc (suc (suc (suc (suc zero))))))) = omega arith
    eui_small (suc (suc (suc (suc (suc (suc (suc (suc i)))))))) = omega arith

-- what the law says of it, and of every state
module _ (law : RenewalReadsAsState) where
  pub state_is_read : journal_of (renewal_text state) ≡ Ok (state_with (early_read ∷ late_read ∷ last_read ∷ []))
  state_is_read = law state state_is_renewable ∙ ap Ok state_is_renewed

  pub each_is_read : (j : Journal) → IsRenewable j → journal_of (renewal_text j) ≡ Ok (renewed j)
  each_is_read j is = law j is

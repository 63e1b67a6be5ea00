-- Worked downlinks, by computation; and what the law says of their batch: it tells these facts, and no premise is one that nothing
-- meets.
use Rattle.std.proofs.Common.{◌≡◌, ◌++◌, ℕ, zero, suc, arith, refl, List, [], ◌∷◌, Some, None, codes}
use Rattle.std.specs.Fmt.{digits}
use Rattle.hex.specs.Hex.{encode_with}
use Rattle.radio_airtime.specs.declared.data_rate.DataRate.TheVariants.{Dr0, Dr5}
use Rattle.text_lines.specs.Line.{text_of}
use Rattle.server_core.specs.declared.entry.Line.TheVariants.{Send, Frame, Floor}
use Rattle.serve_journal.specs.declared.entry.Entry.{Entry}
use Rattle.serve_journal.specs.declared.entry.Entry.TheVariants.{Clock, Device, Taken, Sent}
use Rattle.forwarder_sessions.specs.Sessions.{heard_by}
use Rattle.serve_downlinks.specs.declared.fate.Fate.TheVariants.{Barred, Unreachable, Sendable}
use Rattle.serve_downlinks.specs.Downlinks.{downlinks}
use Rattle.serve_downlinks.specs.Fates.{fate_of}
use Rattle.serve_downlinks.specs.Datagram.{token_of, asked_for}
use Rattle.serve_downlinks.specs.Batch.{batch_entries, batch_text}
use Rattle.serve_downlinks.specs.BatchLaw.{AreInOrder, BatchesTellWhatIsSent}
use Rattle.serve_downlinks.proofs.WorkedInputs.{peer, first_gateway, second_gateway, first_device, second_device}
use Rattle.serve_downlinks.proofs.WorkedInputs.{first_session, second_session, known, first, second, first_candidate, second_candidate}

-- a candidate with its frame behind it is a downlink
pub both_found : downlinks {A = ℕ} (Floor 1 5 ∷ Send 1 first_candidate ∷ Frame 1 first.frame ∷ Send 65535 second_candidate
    ∷ Frame 65535 second.frame ∷ [])
    ≡ first ∷ second ∷ []
both_found = refl

-- and one without is none
pub none_found : downlinks {A = ℕ} (Send 1 first_candidate ∷ Floor 1 5 ∷ Frame 1 first.frame ∷ []) ≡ []
none_found = refl

pub sendable : fate_of first (first_gateway ∷ second_gateway ∷ []) ≡ Sendable (peer 2) 32704 14
sendable = refl

-- a session begins behind the copy of uplink 1: that one is barred, and the next is not
pub barred : fate_of first (heard_by 5000 7201000000 second_gateway ∷ []) ≡ Barred
barred = refl

pub not_barred : fate_of (record first { number = 2 }) (heard_by 5000 7201000000 second_gateway ∷ [])
    ≡ Sendable (peer 2) 1390660792 14
not_barred = refl

-- another gateway's session doesn't serve, nor one without a PULL_DATA, nor one of which no packet was heard
pub unknown : fate_of first (first_gateway ∷ []) ≡ Unreachable
unknown = refl

pub never_pulled : fate_of first (record second_gateway { pulled = None } ∷ []) ≡ Unreachable
never_pulled = refl

pub never_heard : fate_of first (record second_gateway { clock = record second_gateway.clock { offset = None } } ∷ []) ≡ Unreachable
never_heard = refl

pub first_batch : batch_entries known (first ∷ [])
    ≡ Clock 2 2200981 601001 ∷ Device 0x26011bda first_session (Some 7) 1 ∷ Sent 2 1001100 868100000 Dr5 12 ∷ []
first_batch = refl

abbrev pub entries : List Entry
entries =
    Clock 1 2200981 601000
    ∷ Clock 2 2200981 601001
    ∷ Device 0x26011bda first_session (Some 7) 1
    ∷ Sent 2 1001100 868100000 Dr5 12
    ∷ Device 0x26011bdb second_session None 5
    ∷ Taken 0x26011bdb
    ∷ Sent 1 2001000 869525000 Dr0 14
    ∷ []

pub both_batch : batch_entries known (first ∷ second ∷ []) ≡ entries
both_batch = refl

module _ (law : BatchesTellWhatIsSent) where
  pub first_told : AreInOrder (Clock 2 2200981 601001) (Device 0x26011bda first_session (Some 7) 1) [] (Sent 2 1001100 868100000 Dr5 12)
      entries
  first_told =
      law known (first ∷ second ∷ []) first second_gateway 0x26011bda (0, first_device) first_session (zero, omega arith, refl) refl
      refl refl refl

  pub first_in_order : entries
      ≡ first_told.before
      ++ (Clock 2 2200981 601001
      ∷ (first_told.between ++ (Device 0x26011bda first_session (Some 7) 1 ∷ (Sent 2 1001100 868100000 Dr5 12 ∷ first_told.behind))))
  first_in_order = first_told.is

  pub second_told : AreInOrder (Clock 1 2200981 601000) (Device 0x26011bdb second_session None 5) (Taken 0x26011bdb ∷ [])
      (Sent 1 2001000 869525000 Dr0 14) entries
  second_told =
      law known (first ∷ second ∷ []) second first_gateway 0x26011bdb (1, second_device) second_session (suc zero, omega arith, refl)
      refl refl refl refl

  pub second_in_order : entries
      ≡ second_told.before
      ++ (Clock 1 2200981 601000
      ∷ (second_told.between
      ++ (Device 0x26011bdb second_session None 5 ∷ (Taken 0x26011bdb ∷ (Sent 1 2001000 869525000 Dr0 14 ∷ second_told.behind)))))
  second_in_order = second_told.is

pub first_text : batch_text (batch_entries known (first ∷ []))
    ≡ text_of (codes "clock 2 2200981 601001" ∷ codes "device 26011bda 5c7efb43 7 1" ∷ codes "sent 2 1001100 868100000 5 12"
    ∷ codes "." ∷ [])
unfolding digits encode_with
first_text = refl

-- of each field
pub first_asked : asked_for 32704 14 first
    ≡ record { tmst = 32704; freq_hz = 868100000; power_dbm = 14; rate = Dr5; frame = first.frame }
first_asked = refl

-- a token has 16 bits
pub tokens : (token_of second ≡ 65535) × (token_of (record second { number = 65536 }) ≡ 0)
tokens = (refl, refl)

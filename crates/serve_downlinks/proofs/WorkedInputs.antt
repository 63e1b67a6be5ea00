-- What the worked facts speak of: two gateways, two devices, and a downlink to each of these.
use Rattle.std.proofs.Common.{ℕ, List, [], ◌∷◌, Option, Some, None, true, false}
use Rattle.radio_airtime.specs.declared.data_rate.DataRate.TheVariants.{Dr0, Dr5}
use Rattle.rx_windows.specs.declared.candidate.Candidate.{Candidate}
use Rattle.rx_windows.specs.declared.candidate.Window.TheVariants.{Rx1, Rx2}
use Rattle.gateway_book.specs.Book.{Book}
use Rattle.server_desk.specs.Register.{Device}
use Rattle.forwarder_sessions.specs.declared.session.Endpoint.{Endpoint}
use Rattle.forwarder_sessions.specs.declared.session.Forwarder.{Forwarder}
use Rattle.forwarder_sessions.specs.Sessions.{Known, opened_session, pulled_by, heard_by, joined_by}
use Rattle.serve_downlinks.specs.Downlinks.{ToSend}
use Rattle.serve_downlinks.specs.Batch.{Knows}

abbrev pub peer : ℕ → Endpoint
peer gateway = record { ip = 10 ∷ 0 ∷ 0 ∷ gateway ∷ []; port = 1700 }

abbrev pub forwarder : ℕ → Forwarder
forwarder gateway =
    record {
      gateway = gateway;
      eui = 0xaa ∷ 0x55 ∷ 0x5a ∷ 0 ∷ 0 ∷ 0 ∷ 0 ∷ gateway ∷ [];
      from = None;
      lead = 400000;
      power_dbm = 14;
    }

-- a gateway that has sent a PULL_DATA, and then told a copy of uplink 1, with this counter at this moment
abbrev pub gateway_at : ℕ → ℕ → ℕ → Known
gateway_at gateway tmst now = joined_by 1 (heard_by tmst now (pulled_by (peer gateway) 500 (opened_session (forwarder gateway))))

abbrev pub first_gateway : Known
first_gateway = gateway_at 1 5000000 1000

abbrev pub second_gateway : Known
second_gateway = gateway_at 2 4294000000 1100

abbrev pub book : ℕ → ℕ → Book
book id floor =
    record { id = id; rules = record { cap = 4096; gap = 45000 }; floor = floor; list = []; booked = 0; cancelled = 0; retired = 0 }

abbrev pub key : List ℕ
key = 1 ∷ 2 ∷ 3 ∷ 4 ∷ 5 ∷ 6 ∷ 7 ∷ 8 ∷ 9 ∷ 10 ∷ 11 ∷ 12 ∷ 13 ∷ 14 ∷ 15 ∷ 16 ∷ []

abbrev pub device : ℕ → Option ℕ → ℕ → Device
device addr up down =
    record {
      setting = record {
        addr = addr;
        nwk = key;
        app = key;
        delay = 1;
        offset = 0;
        rx2_freq = 869525000;
        rx2_rate = Dr0;
        up = None;
        down = 0;
      };
      queue = [];
      up = up;
      down = down;
    }

abbrev pub first_device : Device
first_device = device 0x26011bda (Some 7) 1

abbrev pub second_device : Device
second_device = device 0x26011bdb None 5

abbrev pub first_session : List ℕ
first_session = 0x5c ∷ 0x7e ∷ 0xfb ∷ 0x43 ∷ []

abbrev pub second_session : List ℕ
second_session = 1 ∷ 2 ∷ 3 ∷ 4 ∷ []

abbrev pub known : Knows
known =
    record {
      devices = first_device ∷ second_device ∷ [];
      books = book 1 601000 ∷ book 2 601001 ∷ [];
      forwarders = first_gateway ∷ second_gateway ∷ [];
      sessions = (0x26011bda, first_session) ∷ (0x26011bdb, second_session) ∷ [];
      now = 201001;
    }

abbrev pub first_candidate : Candidate
first_candidate =
    record { gateway = 2; window = Rx1; start = 1001100; freq_hz = 868100000; rate = Dr5; len = 12; carries = false }

-- it carries no payload
abbrev pub first : ToSend
first =
    record {
      number = 1;
      candidate = first_candidate;
      frame = 0x60 ∷ 0xda ∷ 0x1b ∷ 0x01 ∷ 0x26 ∷ 0x20 ∷ 0 ∷ 0 ∷ 0x24 ∷ 0x03 ∷ 0x47 ∷ 0xca ∷ [];
    }

abbrev pub second_candidate : Candidate
second_candidate =
    record { gateway = 1; window = Rx2; start = 2001000; freq_hz = 869525000; rate = Dr0; len = 14; carries = true }

-- it carries one byte, for port 1
abbrev pub second : ToSend
second =
    record {
      number = 65535;
      candidate = second_candidate;
      frame = 0x60 ∷ 0xdb ∷ 0x1b ∷ 0x01 ∷ 0x26 ∷ 0 ∷ 4 ∷ 0 ∷ 1 ∷ 0xaa ∷ 5 ∷ 6 ∷ 7 ∷ 8 ∷ [];
    }

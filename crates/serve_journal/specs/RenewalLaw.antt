use Rattle.std.specs.Prelude.{◌≡◌, ◌≢◌, ◌^◌, ◌<◌, ◌≤◌, length, map, All, AllPairs, Ok}
use Rattle.resv_list.specs.declared.reservation.Reservation.{Reservation}
use Rattle.gateway_book.specs.Book.{Book}
use Rattle.gateway_book.specs.Loading.{IsSavable}
use Rattle.gateway_book.specs.Saved.{saved_of, opened_again}
use Rattle.serve_journal.specs.Journal.{Journal, Mast, Node, most_gateways, most_devices, most_queued}
use Rattle.serve_journal.specs.LineLaws.{AreBytes, IsPayload, IsUp}
use Rattle.serve_journal.specs.Reading.{journal_of}
use Rattle.serve_journal.specs.Renewal.{renewal_text}

-- That a journal which says a state in one batch is read as that state.

-- a gateway whose numbers are of their types, and whose book is its own and may be saved, as every book may
pub record IsRenewableGateway (m : Mast) : Type 0 where
  pub own : m.book.id ≡ m.id
  pub eui : AreBytes 8 m.eui
  pub high : m.high < 2 ^ 64
  pub book : IsSavable (saved_of m.book)

-- a device whose numbers are of their types, for which no more waits than may
pub record IsRenewableDevice (n : Node) : Type 0 where
  pub addr : n.addr < 2 ^ 32
  pub session : AreBytes 4 n.session
  pub up : IsUp n.up
  pub down : n.down ≤ 2 ^ 32
  pub payloads : All IsPayload n.queue
  pub queue_fits : length n.queue ≤ most_queued

-- a state as a server has it: gateways and devices that are told apart, and no more of them than may be
pub record IsRenewable (j : Journal) : Type 0 where
  pub gateways : All IsRenewableGateway j.gateways
  pub gateways_fit : length j.gateways ≤ most_gateways
  pub ids_differ : AllPairs (λ m n. m.id ≢ n.id) j.gateways
  pub euis_differ : AllPairs (λ m n. m.eui ≢ n.eui) j.gateways
  pub devices : All IsRenewableDevice j.devices
  pub devices_fit : length j.devices ≤ most_devices
  pub addrs_differ : AllPairs (λ m n. m.addr ≢ n.addr) j.devices

-- a journal doesn't tell the number of what was sent
abbrev pub unnumbered : Reservation → Reservation
unnumbered r = record r { number = 0 }

-- the book begins anew: it has booked what it keeps, and cancelled and retired nothing
abbrev pub renewed_book : Book → Book
renewed_book b = opened_again (record (saved_of b) { list = map unnumbered b.list })

abbrev pub renewed_gateway : Mast → Mast
renewed_gateway m = record m { book = renewed_book m.book }

-- the state as it is read: the devices and what waits for them are the same
abbrev pub renewed : Journal → Journal
renewed j = record j { gateways = map renewed_gateway j.gateways }

-- the law: the whole text of a state is read as that state
abbrev pub RenewalReadsAsState : Type 0
RenewalReadsAsState = (j : Journal) → IsRenewable j → journal_of (renewal_text j) ≡ Ok (renewed j)

use Rattle.std.specs.Prelude.{◌≡◌, List, [], map, Option}
use Rattle.std.specs.List.{AllZip}
use Rattle.gateway_book.specs.Book.{Book, IsBookList}
use Rattle.uplink_gather.specs.declared.limits.Limits.{Limits}
use Rattle.server_desk.specs.declared.setting.GatewaySetting.{GatewaySetting}
use Rattle.server_desk.specs.Settings.{SettingLists}
use Rattle.server_desk.specs.World.{World, opening, rules_of}
use Rattle.server_core.specs.Steps.{Step}
use Rattle.server_core.specs.Entries.{gateway_of}
use Rattle.server_core.specs.Server.{Seen, IsAt, IsBetweenCalls}

-- A server that is opened, on books that may hold reservations already.

-- its list is one that a book may keep
abbrev pub IsWhole : Book → Type 0
IsWhole b = IsBookList b.rules b.floor b.booked b.list

-- a book of the gateway with this setting
pub record IsBookFor (g : GatewaySetting) (b : Book) : Type 0 where
  pub id : b.id ≡ g.id
  pub rules : b.rules ≡ rules_of g

-- there is a book for each gateway, in their order
abbrev pub AreBooksFor : List GatewaySetting → List Book → Type 0
AreBooksFor gateways books = AllZip IsBookFor gateways books

-- the world of these settings of which nothing was heard, whose gateways are those of the books
abbrev pub resuming : SettingLists → Limits → List Book → World
resuming settings limits books = record (opening settings limits) { gateways = map gateway_of books }

-- it keeps this world and these steps, is ready for an event, and has told nothing
pub record IsOpened {A : Type 0} (w : World) (kept : Option (List Step)) (s : Seen A) : Type 0 where
  pub at : IsAt w s
  pub ready : IsBetweenCalls s
  pub steps : s.steps ≡ kept
  pub outcomes : s.outcomes ≡ []

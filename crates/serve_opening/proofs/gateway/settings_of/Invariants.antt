use Rattle.std.proofs.Common.{◌≡◌, map, take, All}
use Rattle.server_core.specs.Opened.{IsWhole}
use Rattle.serve_opening.specs.Gateways.{setting_of}
use Rattle.serve_opening.proofs.gateway.settings_of.Given as goal

abbrev pub invariant-loop-book : goal.invariant-loop-book
invariant-loop-book g l =
    record { settings : l.gateways.items ≡ map setting_of (take l.book-index l.books); whole : All IsWhole (take l.book-index l.books) }

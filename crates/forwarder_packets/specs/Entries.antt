use Rattle.std.specs.Prelude.{ℕ, ◌+◌, ◌==◌, Bool, true, false, ◌&&◌, ◌||◌, if◌then◌else◌, nat_lt, List, [], ◌∷◌, ◌++◌, map, take, drop, codes}
use Rattle.std.specs.Prelude.{Option, Some, None, is_some, Result, Ok, Err, ℤ, pos, negsuc}
use Rattle.std.specs.Str.{is_utf8, bytes_eq}
use Rattle.json.specs.Json.{Json, Items, no_items, item, document}
use Rattle.json.specs.Find.{get, as_array, as_object}
use Rattle.forwarder_packets.specs.Entry.{Received, entry_of}
use Rattle.forwarder_packets.specs.declared.entry.EntryFault.{EntryFault}
use Rattle.forwarder_packets.specs.declared.entry.EntryFault.TheVariants.{Many, Ghost}
use Rattle.forwarder_packets.specs.declared.entries.PushFault.{PushFault}
use Rattle.forwarder_packets.specs.declared.entries.PushFault.TheVariants.{Json as NoJson}

-- The packets of a PUSH_DATA: what stands behind its head is a JSON object, whose `rxpk` is an array of packets.

-- what becomes of a packet
abbrev pub Read : Type 0
Read = Result Received EntryFault

-- how many packets of a datagram are read
abbrev pub most_packets : ℕ
most_packets = 32

-- the items of an array in order
abbrev pub list_of : Items → List Json
list_of no_items = []
list_of (item j js) = j ∷ list_of js

-- one number is below another
abbrev pub is_less : ℤ → ℤ → Bool
is_less (pos m) (pos n) = nat_lt m n
is_less (pos m) (negsuc n) = false
is_less (negsuc m) (pos n) = true
is_less (negsuc m) (negsuc n) = nat_lt n m

abbrev pub is_as_much : ℤ → ℤ → Bool
is_as_much (pos m) (pos n) = m == n
is_as_much (pos m) (negsuc n) = false
is_as_much (negsuc m) (pos n) = false
is_as_much (negsuc m) (negsuc n) = m == n

-- what stands at a place has the same bytes as the packet at another, and was received better, or as well and stands before it
abbrev pub outdoes : ℕ → Read → ℕ → Received → Bool
outdoes place (Err fault) at p = false
outdoes place (Ok q) at p =
    bytes_eq q.bytes p.bytes && (is_less p.snr q.snr || (is_as_much p.snr q.snr && nat_lt place at))

-- one of these does, of which the first stands at a place
abbrev pub is_outdone : ℕ → List Read → ℕ → Received → Bool
is_outdone place [] at p = false
is_outdone place (r ∷ rs) at p = if outdoes place r at p then true else is_outdone (place + 1) rs at p

-- whether what stands at a place is a ghost: a packet that another one of all outdoes
abbrev pub is_ghost : List Read → ℕ → Read → Bool
is_ghost all at (Err fault) = false
is_ghost all at (Ok p) = is_outdone 0 all at p

-- of each of some packets whether it is a ghost, of which the first stands at a place
abbrev pub ghosts : List Read → ℕ → List Read → List Bool
ghosts all at [] = []
ghosts all at (r ∷ rs) = is_ghost all at r ∷ ghosts all (at + 1) rs

-- a packet that is no ghost
abbrev pub unless_ghost : Bool → Read → Read
unless_ghost true r = Err Ghost
unless_ghost false r = r

abbrev pub unless_ghosts : List Bool → List Read → List Read
unless_ghosts [] rs = rs
unless_ghosts (g ∷ gs) [] = []
unless_ghosts (g ∷ gs) (r ∷ rs) = unless_ghost g r ∷ unless_ghosts gs rs

-- what becomes of the packets that are read
abbrev pub without_ghosts : List Read → List Read
without_ghosts rs = unless_ghosts (ghosts rs 0 rs) rs

abbrev pub too_many : Json → Read
too_many j = Err Many

-- what becomes of each packet of an array, in order
abbrev pub entries_of : List Json → List Read
entries_of js = without_ghosts (map entry_of (take most_packets js)) ++ map too_many (drop most_packets js)

abbrev pub of_array : Option Items → Result (List Read) PushFault
of_array None = Err NoJson
of_array (Some items) = Ok (entries_of (list_of items))

abbrev pub of_rxpk : Option Json → Result (List Read) PushFault
of_rxpk None = Ok []
of_rxpk (Some j) = of_array (as_array j)

abbrev pub of_document : Option Json → Result (List Read) PushFault
of_document None = Err NoJson
of_document (Some j) = if is_some (as_object j) then of_rxpk (get (codes "rxpk") j) else Err NoJson

-- what becomes of the packets of what stands behind the head of a PUSH_DATA
abbrev pub packets_of : List ℕ → Result (List Read) PushFault
packets_of bytes = if is_utf8 bytes then of_document (document bytes) else Err NoJson

-- Threads may share a station where its hasher and its allocator may cross threads: its desk and each of its books stand behind
-- a lock.
use denote.RattleType.{RattleType}
use denote.Param.Send.{IsSend, IsSync, Frees, sendable, view_sync}
use denote.Param.SendFields.{declared_sync}
use Rattle.std.proofs.Crossing.{crosses}
use Rattle.std.proofs.CrossingOver as over
use Rattle.std.specs.declared.alloc.Allocator as Allocator
use Rattle.std.specs.declared.clone.Clone as Clone
use Rattle.std.specs.declared.hash.BuildHasher as BuildHasher
use Rattle.std.specs.declared.hash.Hasher as Hasher
use Rattle.std.specs.declared.sync.ledger.Ledger as Ledger
use Rattle.resv_tree.proofs.Crossing.{roster_send}
use Rattle.gateway_book.proofs.book.GatewayBook.TheSendSync as book
use Rattle.server_office.proofs.office.Office.TheSendSync as office
use Rattle.server_station.specs.contracts.place.Place as Place
use Rattle.server_station.specs.contracts.station.Station as Station

module _ (A : RattleType) (g : Allocator.Ghosts A.Denot) (c : Clone.Ghosts A.Denot)
    (sent : IsSend A) (frees : Frees g g.dealloc_token) where
  -- its number, and its book behind the lock
  place_sync : IsSync (Place.the_row A c g)
  place_sync =
      let roster = roster_send A g sent frees c in
      view_sync _ _ _ _ _
      (declared_sync (Place.TheInside.the_type A c g) (
        search sendable depth 9,
        (search (sendable, crosses, book.the_send) depth 9, tt),
      ))

  module _ (B S H : RattleType) (l : Ledger.Ghosts B.Denot) (b : BuildHasher.Ghosts S.Denot H.Denot)
      (h : Hasher.Ghosts H.Denot) where
    -- its desk with the tally behind one lock, and its places
    pub station_sync : IsSync A → IsSend S → IsSync (Station.the_row B S A H l b h g c)
    station_sync shared hasher =
        let place = place_sync in
        view_sync _ _ _ _ _
        (declared_sync (Station.TheInside.the_type B S A H l b h g c)
        (search (sendable, crosses, office.the_send) depth 9, (search (sendable, over.crosses) depth 9, tt)))

-- What the law on lives says of one life and of two, from the law alone.
use Rattle.std.proofs.Common.{ℕ, ◌≡◌, ◌≤◌, Bool, true, List, [], ◌∷◌, Contains, ap, cond, map, refl, subst, sym}
use Rattle.std.specs.Prelude.{◌≢◌, AllPairs}
use Rattle.std.proofs.lemmas.Bool.{eq-eqb}
use Rattle.radio_bands.specs.Band.{limit_of}
use Rattle.radio_bands.specs.declared.band.Band.{Band}
use Rattle.resv_list.specs.declared.reservation.Reservation.{Reservation}
use Rattle.resv_list.specs.Reservations.{IsByStart, spent}
use Rattle.gateway_book.specs.Disjoint.{most_gap}
use Rattle.gateway_book.specs.Kept.{kept}
use Rattle.gateway_book.specs.Lawful.{AreApart}
use Rattle.gateway_book.specs.Step.{placed, reservation_of}
use Rattle.server_desk.specs.World.{Gateway, ids}
use Rattle.serve_journal.specs.RenewalLaw.{unnumbered}
use Rattle.serve_downlinks.specs.Downlinks.{ToSend}
use Rattle.serve_turns.specs.Life.{Life}
use Rattle.serve_turns.specs.LifeLaw.{EveryServedLifeKeepsDuty, OpensOn, ServedLife, Turn, all_noted, ask_of, behind, noted, turn_downlinks}

module _ (A : Type 0) (law : EveryServedLifeKeepsDuty A) (gap id other : ℕ) (small : gap ≤ most_gap) (l m : Life) (t u v : Turn) where
  abbrev first_life : ServedLife
  first_life = record { opened = l; turns = t ∷ u ∷ []; id = id }

  abbrev second_life : ServedLife
  second_life = record { opened = m; turns = v ∷ []; id = other }

  -- what two turns of a first life book, of what gets into the journal
  abbrev first : List Reservation
  first = all_noted u.is_kept id (turn_downlinks A u (behind A t l)) (all_noted t.is_kept id (turn_downlinks A t l) [])

  pub two_turns_are_apart : OpensOn gap [] first_life → AreApart gap first
  two_turns_are_apart opens = (law gap (first_life ∷ []) small (opens, tt)).lawful.apart

  -- and what a turn of a second life adds, in which the gateway may have another number
  abbrev second : List Reservation
  second = all_noted v.is_kept other (turn_downlinks A v m) first

  pub two_lives_keep_each_hour : OpensOn gap [] first_life → OpensOn gap first second_life → (band : Band) (at : ℕ)
      → spent second band at ≤ limit_of band
  two_lives_keep_each_hour opens goes_on band at =
      (law gap (first_life ∷ second_life ∷ []) small (opens, (goes_on, tt))).lawful.duty band at

-- How a life opens on a journal: with nothing where nothing was sent, or with all that is there.

module _ (gap : ℕ) (life : ServedLife) (gateway : Gateway) (there : Contains life.opened.world.gateways gateway)
    (own : gateway.id ≡ life.id) (apart : AllPairs (λ m n. m ≢ n) (ids life.opened.world)) (wide : gap ≤ gateway.rules.gap)
    (rested : gateway.rules.gap ≤ most_gap) (cancelled : gateway.state.cancelled ≡ 0) where
  pub a_life_opens_on_all_that_is_there : (journal : List Reservation) → IsByStart gateway.state.list
      → map unnumbered gateway.state.list ≡ journal → OpensOn gap journal life
  a_life_opens_on_all_that_is_there journal by_start is =
      record {
        gateway = gateway;
        there = there;
        own = own;
        apart = apart;
        wide = wide;
        rested = rested;
        by_start = by_start;
        keeps = ap (λ l. kept l gateway.state.floor) is;
        cancelled = cancelled;
      }

  pub a_first_life_opens_on_nothing : gateway.state.list ≡ [] → OpensOn gap [] life
  a_first_life_opens_on_nothing none =
      a_life_opens_on_all_that_is_there [] (subst IsByStart (sym none) tt) (ap (map unnumbered) none)

-- a downlink of the gateway that gets into its journal stands there
pub each_kept_is_noted : (d : ToSend) (journal : List Reservation)
    → noted (λ e. true) d.candidate.gateway d journal ≡ placed (reservation_of (ask_of d)) journal
each_kept_is_noted d journal =
    ap (λ t. cond t (placed (reservation_of (ask_of d)) journal) journal) (eq-eqb d.candidate.gateway d.candidate.gateway refl)

-- and so does one behind another
pub two_kept_are_noted : (is_kept : ToSend → Bool) (id : ℕ) (d e : ToSend) (journal : List Reservation)
    → all_noted is_kept id (d ∷ e ∷ []) journal ≡ noted is_kept id e (noted is_kept id d journal)
two_kept_are_noted is_kept id d e journal = refl

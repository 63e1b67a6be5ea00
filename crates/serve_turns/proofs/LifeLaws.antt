-- The turns of a server's life are the deeds of a life of each of its gateways.
use Rattle.std.proofs.Common.{◌≡◌, ◌∙◌, ◌≤◌, Bool, true, false, List, [], ◌∷◌, ℕ, Some, ap, cond, refl, subst, sym}
use Rattle.std.specs.Prelude.{◌≢◌, All, AllPairs, is_some}
use Rattle.std.proofs.lemmas.List.Elements.{All-cons, All-nil}
use Rattle.std.proofs.lemmas.Option.{slice_get-get_or}
use Rattle.resv_list.specs.declared.reservation.Reservation.{Reservation}
use Rattle.gateway_book.specs.Disjoint.{most_gap}
use Rattle.gateway_book.specs.Forgetting.{forgetful}
use Rattle.gateway_book.specs.Kept.{kept}
use Rattle.gateway_book.specs.Orderly.{IsOrderly}
use Rattle.gateway_book.specs.Answer.{Rules}
use Rattle.gateway_book.specs.Step.{State}
use Rattle.server_desk.specs.Passing.{pass_answer}
use Rattle.server_desk.specs.World.{Gateway, World, ids}
use Rattle.serve_journal.specs.Lives.{HasGap, Life as BookLife, Recorded, after_deeds, after_life, after_lives}
use Rattle.serve_journal.proofs.LivesLaws.{every_life_keeps_duty}
use Rattle.serve_turns.specs.Life.{Life}
use Rattle.serve_turns.specs.LifeLaw.{EveryServedLifeKeepsDuty, OpenInTurn, OpensOn, ServedLife, Turn, after_life as after_served_life, after_served, after_turns, all_noted, behind, turn_downlinks}
use Rattle.serve_turns.specs.SendLaw.{before_pass, behind_pass, pass_downlinks}
use Rattle.serve_turns.specs.Turn.{after_came, until_desk}
use Rattle.serve_turns.proofs.GatewayDeeds.{Follows, Leads, Stands, follows_both, follows_same, hear_follows, leads_both, leads_same, pass_leads, queue_follows, reopen_follows, tick_follows}
use Rattle.serve_turns.proofs.TurnWorlds.{came_on, desk_on, ticks_on, turn_world}
use Rattle.serve_turns.proofs.Unnumbered.{bare, bare_state}

module _ (A : Type 0) (id : ℕ) (rules : Rules) (rested : rules.gap ≤ most_gap) (p : ℕ) (names : List ℕ)
    (differ : AllPairs (λ m n. m ≢ n) names) where
  abbrev Led : World → State → List Reservation → List Reservation → Type 0
  Led v s journal after = Leads id rules rested p names differ v s journal after

  abbrev Stood : World → State → Type 0
  Stood w s = Stands id rules rested p names differ w s

  abbrev On : World → World → Type 0
  On w v = Follows id rules rested p names differ w v

  module _ (t : Turn) (l : Life) where
    abbrev came : Life
    came = after_came A t.now t.came l

    abbrev before : Life
    before = before_pass A t.now t.came l

    came_led : On l.world came.world
    came_led = came_on On (follows_same id rules rested p names differ) (follows_both id rules rested p names differ) A
        (hear_follows id rules rested p names differ A) (queue_follows id rules rested p names differ A) t.now t.came l

    before_led : On l.world before.world
    before_led = follows_both id rules rested p names differ l.world came.world before.world came_led
        (ticks_on On (follows_same id rules rested p names differ) (follows_both id rules rested p names differ) A
        (tick_follows id rules rested p names differ A) t.now came.known came)

    turn_by : (due : Bool) (s : State) (journal : List Reservation) → Stood l.world s
        → Led (cond due (behind_pass A t.now t.came l).world came.world) s journal
        (all_noted t.is_kept id (cond due (pass_downlinks A t.now t.came l) []) journal)
    turn_by true s journal h = leads_both id rules rested p names differ before.world (behind_pass A t.now t.came l).world s journal
        journal _ (before_led s journal h)
        (λ u stands. pass_leads id rules rested p names differ t.is_kept A before.world t.now u stands journal)
    turn_by false s journal h = came_led s journal h

    pub turn_led : (s : State) (journal : List Reservation) → Stood l.world s
        → Led (behind A t l).world s journal (all_noted t.is_kept id (turn_downlinks A t l) journal)
    turn_led s journal h =
        let u = until_desk A t.now t.came t.answered l in
        let after = all_noted t.is_kept id (turn_downlinks A t l) journal in
        leads_both id rules rested p names differ u.world (behind A t l).world s journal after after
        (subst (λ w. Led w s journal after) (sym (turn_world A t.now t.came t.answered l))
        (turn_by (is_some (pass_answer came.world.reg t.now)) s journal h))
        (λ v stands. desk_on On (follows_same id rules rested p names differ) (follows_both id rules rested p names differ) A
        (reopen_follows id rules rested p names differ) (queue_follows id rules rested p names differ A) u v after stands)

  -- turn after turn
  abbrev pub behind_all : List Turn → Life → Life
  behind_all [] l = l
  behind_all (t ∷ ts) l = behind_all ts (behind A t l)

  pub turns_led : (ts : List Turn) (l : Life) (s : State) (journal : List Reservation) → Stood l.world s
      → Led (behind_all ts l).world s journal (after_turns A id ts l journal)
  turns_led [] l s journal h = leads_same id rules rested p names differ l.world l.world s journal refl h
  turns_led (t ∷ ts) l s journal h =
      let m = behind A t l in
      let next = all_noted t.is_kept id (turn_downlinks A t l) journal in
      leads_both id rules rested p names differ m.world (behind_all ts m).world s journal next (after_turns A id ts m next)
      (turn_led t l s journal h) (λ u stands. turns_led ts m u next stands)

-- A life of a server is one of each gateway's book.

-- a life of a gateway's book, behind which the journal is the same
record IsLife (gap : ℕ) (journal after : List Reservation) : Type 0 where
  life : BookLife
  rested : HasGap gap life
  same : after_life life journal ≡ after

module _ (A : Type 0) (gap : ℕ) where
  own_life : (life : ServedLife) (journal : List Reservation) (o : OpensOn gap journal life)
      → IsLife gap journal (after_turns A o.gateway.id life.turns life.opened journal)
  own_life served journal o =
      let g = o.gateway in
      let l = served.opened in
      let led = turns_led A g.id g.rules o.rested o.there.0 (ids l.world) o.apart served.turns l g.state journal (record {
        there = slice_get-get_or l.world.gateways o.there.0 g o.there.1 ∙ ap (λ (x : Gateway). Some x) o.there.2;
        named = refl;
        by_start = o.by_start;
      }) in
      let life : BookLife = record { rules = g.rules; floor = g.state.floor; booked = g.state.booked; deeds = led.deeds } in
      record {
        life = life;
        rested = (o.wide, o.rested);
        same = ap (λ (r : Recorded). (after_deeds g.rules led.deeds r).journal) (opens_alike g.state journal o.keeps o.cancelled)
            ∙ ap (λ (r : Recorded). r.journal) led.leads;
      }
    where
      opens_alike : (s : State) (journal : List Reservation) → kept (bare s.list) s.floor ≡ kept journal s.floor → s.cancelled ≡ 0
          → ◌≡◌ {A = Recorded} (record {
            journal = journal;
            book = record { floor = s.floor; list = kept journal s.floor; booked = s.booked; cancelled = 0 };
          })
          (record { journal = journal; book = forgetful (bare_state s) })
      opens_alike s journal keeps none = rw (keeps, none) refl

  served_life : (life : ServedLife) (journal : List Reservation) → OpensOn gap journal life
      → IsLife gap journal (after_served_life A life journal)
  served_life life journal o =
      subst (λ i. IsLife gap journal (after_turns A i life.turns life.opened journal)) o.own (own_life life journal o)

  -- one upon the other
  record AreLives (journal after : List Reservation) : Type 0 where
    lives : List BookLife
    gaps : All (HasGap gap) lives
    same : after_lives lives journal ≡ after

  served_lives : (lives : List ServedLife) (journal : List Reservation) → OpenInTurn A gap lives journal
      → AreLives journal (after_served A lives journal)
  served_lives [] journal o = record { lives = []; gaps = All-nil (HasGap gap); same = refl }
  served_lives (life ∷ lives) journal o =
      let first = served_life life journal o.0 in
      let rest = served_lives lives (after_served_life A life journal) o.1 in
      record {
        lives = first.life ∷ rest.lives;
        gaps = All-cons (HasGap gap) first.life rest.lives first.rested rest.gaps;
        same = ap (after_lives rest.lives) first.same ∙ rest.same;
      }

pub every_served_life_keeps_duty : (A : Type 0) → EveryServedLifeKeepsDuty A
every_served_life_keeps_duty A gap lives small opens =
    let are = served_lives A gap lives [] opens in
    subst (IsOrderly gap) are.same (every_life_keeps_duty gap are.lives small are.gaps)

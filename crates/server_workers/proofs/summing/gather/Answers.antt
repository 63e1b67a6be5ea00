-- Each list fits, since no worker's list outgrows the numbers.
use Rattle.std.proofs.Common.{◌≡◌, ◌+◌, [], ◌∷◌, ◌++◌, map, ap, sym, rules, ◌∙◌, arith, vec_len}
use Rattle.std.specs.Int.{from_bool}
use Rattle.server_workers.specs.Works.{outcomes_airtime}
use Rattle.server_workers.specs.Serving.{begun_count}
use Rattle.std.proofs.lemmas.List.{map-append}
use Rattle.server_workers.specs.Lists.{lists_of}
use Rattle.server_workers.proofs.CrewLemmas.{owed_on, all_owed, all_late, one_at_most, none_on, begun_last}
use Rattle.server_workers.proofs.FilingLemmas.{more_fits, others_fit}
use Rattle.server_workers.proofs.WorkLemmas.{outcomes_airtime-append}
use Rattle.server_workers.proofs.summing.gather.Goals as goal

pub take_in-requires-clause-room : goal.take_in-requires-clause-room
take_in-requires-clause-room g c =
    let e : vec_len c.pop.new.self + 1 ≡ vec_len c.loop-member.crew = omega (arith, c.in-Some.ensures.len) in
    more_fits c.loop-member.all.filed (lists_of c.parted-has_begun.result.1) g.K.Room.room (vec_len c.loop-member.crew)
    (vec_len c.pop.new.self) c.loop-member.invariant.room e c.parted-has_begun.ensures.within

pub loop-member-preserved : goal.loop-member-preserved
loop-member-preserved g c =
    let e : vec_len c.pop.new.self + 1 ≡ vec_len c.loop-member.crew = omega (arith, c.in-Some.ensures.len) in
    let all = c.loop-member.all in
    let own = c.parted-has_begun.result.1 in
    let new = c.take_in.new.self in
    let cut = ap (map (λ m. m.worked)) c.in-Some.ensures.items
    ∙ map-append (λ m. m.worked) c.pop.new.self.items (c.in-Some.member ∷ [])
    ∙ ap (λ w. map (λ m. m.worked) c.pop.new.self.items ++ w ∷ []) (sym c.parted-has_begun.ensures.same) in
    let joined = c.take_in.ensures in
    let parts : new.till.parts ≡ all.till.parts + own.till.parts = ap (λ t. t.parts) joined.till in
    let amount : new.till.amount ≡ all.till.amount + own.till.amount = ap (λ t. t.amount) joined.till in
    let airtime : outcomes_airtime new.filed.outcomes.items
    ≡ outcomes_airtime all.filed.outcomes.items + outcomes_airtime own.outcomes.items =
    ap outcomes_airtime joined.filed.outcomes.items ∙ outcomes_airtime-append all.filed.outcomes.items own.outcomes.items in
    record {
      room = others_fit all.filed (lists_of own) g.K.Room.room (vec_len c.loop-member.crew) (vec_len c.pop.new.self)
          c.loop-member.invariant.room e c.parted-has_begun.ensures.within new.filed joined.filed;
      fits = omega (arith, joined.overrun);
      parts = omega (arith, parts, own.one_part, e, c.loop-member.invariant.parts);
      most = c.loop-member.invariant.most;
      amount = omega (arith, amount, airtime, own.counted, c.loop-member.invariant.amount);
      few = c.loop-member.invariant.few;
      ran = omega (arith, one_at_most c.parted-has_begun.result.0, c.from.ensures, joined.ran, e, c.loop-member.invariant.ran);
      begun =
          omega (
            arith,
            ap begun_count (ap (map (λ m. m.has_begun)) c.in-Some.ensures.items
                ∙ map-append (λ m. m.has_begun) c.pop.new.self.items (c.in-Some.member ∷ [])),
            begun_last (map (λ m. m.has_begun) c.pop.new.self.items) c.in-Some.member.has_begun,
            ap from_bool c.parted-has_begun.ensures.begun,
            c.from.ensures,
            joined.ran,
            c.loop-member.invariant.begun,
          );
      nobody =
          none_on c.parted-has_begun.result.0 all.ran _ _ all.filed.outcomes.items own.outcomes.items new.filed.outcomes.items
          (ap (λ n. n + c.from.result) joined.ran ∙ ap (λ n. all.ran + n) c.from.ensures)
          c.parted-has_begun.ensures.before c.loop-member.invariant.nobody joined.filed.outcomes.items;
      owed = owed_on _ _ all _ own _ _ cut joined.filed joined.overrun c.loop-member.invariant.owed;
    }

pub overflow_add-all : goal.overflow_add-all
overflow_add-all g c =
    let one = one_at_most c.parted-has_begun.result.0 in
    omega (
      arith,
      one,
      c.from.ensures,
      c.take_in.ensures.ran,
      c.in-Some.ensures.len,
      c.loop-member.invariant.ran,
      c.loop-member.invariant.few,
    )

pub returns-clause-filed : goal.returns-clause-filed
returns-clause-filed g c =
    let none : c.loop-member.crew.items ≡ [] = search rules in
    all_owed _ _ c.loop-member.all _ (ap (map (λ m. m.worked)) none) c.loop-member.invariant.owed

pub returns-clause-overrun : goal.returns-clause-overrun
returns-clause-overrun g c =
    let none : c.loop-member.crew.items ≡ [] = search rules in
    all_late _ _ c.loop-member.all _ (ap (map (λ m. m.worked)) none) c.loop-member.invariant.fits c.loop-member.invariant.owed

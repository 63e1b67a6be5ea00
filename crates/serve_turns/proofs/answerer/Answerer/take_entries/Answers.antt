use Rattle.std.proofs.Common.{append_assoc, ap, arith, subst, sym, ◌++◌, ◌∙◌, map}
use Rattle.server_core.proofs.Replays.{none_left}
use Rattle.forwarder_packets.specs.Seen.{received}
use Rattle.serve_turns.specs.Life.{Makes}
use Rattle.serve_turns.specs.Taking.{after_entries}
use Rattle.serve_turns.proofs.Lives.{stays}
use Rattle.serve_turns.proofs.Entries.{entries_next}
use Rattle.serve_turns.proofs.answerer.Answerer.take_entries.Goals as goal

pub loop-entry-init : goal.loop-entry-init
loop-entry-init g c = record { left = search; makes = stays c.args.self.now c.requires.ready }

pub take_entry-requires-clause-ready : goal.take_entry-requires-clause-ready
take_entry-requires-clause-ready g c = c.loop-entry.invariant.makes.ready

pub loop-entry-preserved : goal.loop-entry-preserved
loop-entry-preserved g c =
    let before = c.loop-entry in
    record {
      left = append_assoc before.yielded _ _ ∙ ap (λ rest. before.yielded ++ rest) (sym c.in-Some.ensures.steps.0)
          ∙ before.invariant.left;
      makes = entries_next c.args.now c.args.place before.yielded c.in-Some.entry _ _ _ before.invariant.makes
          c.in_ok-take_entry.ensures;
    }

pub returns : goal.returns
returns g c =
    let all = none_left c.loop-entry.yielded c.loop-entry.entry-iterator.rest.items c.args.entries.items
    (omega (arith, c.loop-entry.entry-iterator.rest.ok.0, c.in-None.ensures.steps.0)) c.loop-entry.invariant.left in
    subst (λ es. Makes (after_entries g.row.A.Denot c.args.now c.args.place (map received es)) c.args.self.now c.loop-entry.self) all
    c.loop-entry.invariant.makes

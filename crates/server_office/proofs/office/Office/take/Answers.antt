use Rattle.std.proofs.Common.{sym, ◌∙◌}
use Rattle.server_desk.proofs.AirtimeLaws.{total-take}
use Rattle.server_desk.specs.Desk.{desk_take}
use Rattle.server_office.proofs.Tallied.{same-total}
use Rattle.server_office.proofs.office.Office.take.Goals as goal

pub invariant_of-self : goal.invariant_of-self
invariant_of-self g c =
    c.self.invariant
    ∙ sym (same-total c.take.result c.self.inside.desk (desk_take c.self.inside.desk c.args.n) c.take.new.self
    (total-take c.self.inside.desk c.args.n) c.take.ensures.step c.take.ensures.refused)

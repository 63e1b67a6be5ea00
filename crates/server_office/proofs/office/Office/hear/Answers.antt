use Rattle.std.proofs.Common.{sym, ◌∙◌}
use Rattle.server_desk.proofs.AirtimeLaws.{total-hear}
use Rattle.server_desk.specs.Desk.{desk_hear}
use Rattle.server_office.proofs.Tallied.{same-total}
use Rattle.server_office.proofs.office.Office.hear.Goals as goal

pub invariant_of-self : goal.invariant_of-self
invariant_of-self g c =
    c.self.invariant
    ∙ sym (same-total c.hear.result c.self.inside.desk (desk_hear c.self.inside.desk c.args.bytes.now c.args.heard c.args.arrived)
    c.hear.new.self (total-hear c.self.inside.desk c.args.bytes.now c.args.heard c.args.arrived) c.hear.ensures.step
    c.hear.ensures.refused)

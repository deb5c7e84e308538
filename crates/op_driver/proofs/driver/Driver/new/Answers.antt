use Rattle.std.proofs.Common.{◌∙◌, ap, ℕ, replicate}
use Rattle.op_driver.proofs.DriveLemmas.{first_drive}
use Rattle.op_driver.proofs.driver.Driver.new.Goals as goal

pub returns-clause-drives : goal.returns-clause-drives
returns-clause-drives g c =
    let zeros = c.in_ok-marks.ensures ∙ ap (λ (n : ℕ). replicate {A = ℕ} n 0) c.ports.ensures in
    first_drive (g.O.Operator.meaning c.args.op) (g.O.Operator.stands c.args.op) c.in_ok-marks.marks.items zeros c.requires.stands (g.met.O.Operator.lawful c.args.op).nothing

use Rattle.std.proofs.Common.{◌∙◌, [], sym, ap, subst, replicate}
use Rattle.cedr_table.specs.Operators.{Meaning}
use Rattle.op_driver.specs.Driving.{Drives}
use Rattle.cedr_node.proofs.First.{first_stands}
use Rattle.cedr_node.proofs.aligned.Aligned.new.Goals as goal

pub returns-clause-stands : goal.returns-clause-stands
returns-clause-stands g c =
    let op = g.O.Operator in
    let e = c.in_ok-driver.ensures in
    let d = c.in_ok-driver.driver in
    let drives : Drives (op.meaning d.op) (op.stands d.op) d.marks.items d.sent (replicate (op.meaning d.op).ports []) [] =
    subst (λ (h : Meaning). Drives (op.meaning d.op) (op.stands d.op) d.marks.items d.sent (replicate h.ports []) []) (sym e.meaning) e.drives in
    first_stands (op.meaning d.op) (op.stands d.op) c.in_ok-ports.ports.items d.marks.items d.sent c.args.levels.now
    (c.requires.count ∙ ap (λ (h : Meaning). h.ports) (sym e.meaning)) c.in_ok-ports.ensures.levels c.in_ok-ports.ensures.stand drives
    (λ echoes tables ms op_stands. (g.met.O.Operator.lawful d.op).echo_bound tables ms echoes op_stands)

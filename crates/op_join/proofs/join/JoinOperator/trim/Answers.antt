use Rattle.op_join.proofs.PortLemmas.{stands_trimmed, holds_trimmed}
use Rattle.op_join.proofs.join.JoinOperator.trim.Goals as goal

pub returns-clause-stands : goal.returns-clause-stands
returns-clause-stands c = λ tables earlier stands rise.
    let join = c.args.self.now in
    let left = c.forget_ended.ensures in
    let right = c.forget_ended-2.ensures in
    stands_trimmed join.tests join.width join.left join.right c.forget_ended.new.self c.forget_ended-2.new.self tables earlier c.args.marks.now c.least_mark-least.result rise c.least_mark-least.ensures stands
    left.kept left.ends left.ordered right.kept right.ends right.ordered

pub returns-clause-held : goal.returns-clause-held
returns-clause-held c = λ tables earlier stands rise.
    let join = c.args.self.now in
    let left = c.forget_ended.ensures in
    let right = c.forget_ended-2.ensures in
    holds_trimmed join.tests join.width join.left join.right c.forget_ended.new.self c.forget_ended-2.new.self tables earlier c.args.marks.now c.least_mark-least.result rise c.least_mark-least.ensures stands
    left.kept left.ends left.ordered right.kept right.ends right.ordered

use Rattle.op_except.proofs.LifeLemmas.{cut_there, noted_cut, noted_gone}
use Rattle.op_except.proofs.lives.Lives.note.Goals as goal

pub returns-in_ok-add-in-Cut : goal.returns-in_ok-add-in-Cut
returns-in_ok-add-in-Cut c = λ were there.
    let took = c.take.ensures were (cut_there c.args.change.now c.in-Cut.row c.in-Cut.end c.args.self.now.by_end c.in-Cut.is there) in
    let came = c.in_ok-add-in-Cut.ensures took.0 in
    (came.0, noted_cut c.args.change.now c.in-Cut.row c.in-Cut.end c.args.self.now.by_end c.take.new.self.by_end c.in-Cut.is took.1 c.add-then-row-end.new.self.by_end c.if-row-end.true came.1)

pub returns-else-row-end : goal.returns-else-row-end
returns-else-row-end c = λ were there.
    let took = c.take.ensures were (cut_there c.args.change.now c.in-Cut.row c.in-Cut.end c.args.self.now.by_end c.in-Cut.is there) in
    (took.0, noted_gone c.args.change.now c.in-Cut.row c.in-Cut.end c.args.self.now.by_end c.take.new.self.by_end c.in-Cut.is took.1 c.if-row-end.false)

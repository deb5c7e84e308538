use Rattle.std.proofs.Common.{◌≡◌, length, rules}
use Rattle.op_join.proofs.PortLemmas.{stands_settled}
use Rattle.op_join.proofs.join.Join.settle.Goals as goal

pub returns-clause-stands : goal.returns-clause-stands
returns-clause-stands c = λ tables marks stands.
    let join = c.args.self.now in
    let empty : length c.args.self.now.left.by_tag.entries ≡ 0 = search rules in
    stands_settled join.tests join.width c.args.width join.left join.right c.in_ok-self.field-0 tables marks empty c.in_ok-self.ensures.was_ordered
    c.in_ok-self.ensures.filed c.in_ok-self.ensures.ends c.in_ok-self.ensures.ordered stands

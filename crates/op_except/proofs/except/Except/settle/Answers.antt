use Rattle.std.proofs.Common.{◌≡◌, length, rules}
use Rattle.op_except.proofs.TrimLemmas.{sides_settled}
use Rattle.op_except.proofs.except.Except.settle.Goals as goal

pub returns-clause-stands : goal.returns-clause-stands
returns-clause-stands c = λ tables marks stands.
    let empty : length c.args.self.now.left.by_tag.entries ≡ 0 = search rules in
    sides_settled c.args.self.now c.args.width c.in_ok-self.field-0 tables marks empty c.in_ok-self.ensures.filed c.in_ok-self.ensures.ends c.in_ok-self.ensures.ordered stands

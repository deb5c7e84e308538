use Rattle.std.proofs.Common.{ℕ, ap, ◌∙◌}
use Rattle.op_except.specs.Parts.{all_excepted, growing_from}
use Rattle.cedr_table.specs.Operators.{least_of}
use Rattle.op_except.proofs.PortAnswers.{open_known}
use Rattle.op_except.proofs.except.ExceptOperator.bound.Goals as goal

pub returns : goal.returns
returns c = λ tables stands.
    c.first_open.ensures stands.parts.lives_are
    ∙ (ap (λ (n : ℕ). growing_from n c.args.self.now.parts.by_end) c.least_mark.ensures
    ∙ open_known c.args.self.now.parts (least_of c.args.marks.now) (all_excepted c.args.self.now.tests tables) stands.parts)

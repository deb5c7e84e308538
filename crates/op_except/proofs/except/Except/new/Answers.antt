use Rattle.op_except.proofs.TrimLemmas.{stands_first}
use Rattle.op_except.proofs.except.Except.new.Goals as goal

pub returns-clause-stands : goal.returns-clause-stands
returns-clause-stands c =
    stands_first _ c.new.ensures.ends c.new.ensures.none c.new.ensures.ordered c.new-2.ensures.ends c.new-2.ensures.none c.new-2.ensures.ordered c.new-3.ensures.lives c.new-3.ensures.none c.new-4.ensures.lives c.new-4.ensures.none

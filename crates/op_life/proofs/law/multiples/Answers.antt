use Rattle.op_life.specs.LifetimeLaws.{multiple_least, multiple_greatest}
use Rattle.op_life.proofs.law.multiples.Goals as goal

pub returns-clause-below : goal.returns-clause-below
returns-clause-below c = multiple_least

pub returns-clause-greatest : goal.returns-clause-greatest
returns-clause-greatest c = multiple_greatest

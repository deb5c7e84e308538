-- The messages that the out edges of the test have.
use Rattle.std.proofs.Common.{List, [], ◌∷◌, arith}
use Rattle.cedr_base.specs.declared.change.Message.{Message}
use Rattle.cedr_base.specs.declared.change.Message.TheVariants as message
use Rattle.cedr_base.specs.Messages.{IsLegal}

-- the marks 1 and 2
abbrev pub two_marks : List Message
two_marks = message.Mark 1 ∷ message.Mark 2 ∷ []

-- they are a legal list
pub two_marks_legal : IsLegal two_marks
two_marks_legal = ((tt, (omega arith, omega arith)), ((tt, (omega arith, omega arith)), tt))

use Rattle.cedr_text.proofs.ReadingLemmas.{long_line}
use Rattle.cedr_text.proofs.read.line_limit.Goals as goal

pub returns-clause-long : goal.returns-clause-long
returns-clause-long c = long_line

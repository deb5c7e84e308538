use Rattle.cedr_guard.proofs.SourceLemmas.{long_line}
use Rattle.cedr_guard.proofs.law.source_limits.Goals as goal

pub returns-clause-line : goal.returns-clause-line
returns-clause-line c = long_line c.line_limit.ensures.long

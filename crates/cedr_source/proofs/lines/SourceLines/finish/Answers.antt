use Rattle.std.proofs.Common.{refl}
use Rattle.cedr_source.proofs.ByLineLemmas.{ended_by_line}
use Rattle.cedr_source.proofs.lines.SourceLines.finish.Goals as goal

pub returns-then-not-self-clause-by_line : goal.returns-then-not-self-clause-by_line
returns-then-not-self-clause-by_line c = ended_by_line c.args.self.now _ c.finish.ensures refl refl refl refl refl c.if-not-self.true

use Rattle.std.proofs.Common.{refl}
use Rattle.cedr_source.proofs.ReadsLemmas.{none_read}
use Rattle.cedr_source.proofs.ByLineLemmas.{none_by_line}
use Rattle.cedr_source.proofs.lines.SourceLines.new.Goals as goal

pub returns-clause-reads : goal.returns-clause-reads
returns-clause-reads c = none_read _ c.args.shape c.new.ensures c.new-2.ensures refl refl refl refl

pub returns-clause-by_line : goal.returns-clause-by_line
returns-clause-by_line c = none_by_line _ c.args.shape c.new.ensures c.new-2.ensures refl refl refl refl

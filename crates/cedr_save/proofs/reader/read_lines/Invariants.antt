use Rattle.std.proofs.Common.{length}
use Rattle.cedr_save.proofs.ReaderLemmas.{IsReadTo}
use Rattle.cedr_save.proofs.reader.read_lines.Given as goal

abbrev pub invariant-loop-line : goal.invariant-loop-line
invariant-loop-line l = IsReadTo l.reader l.nodes l.bytes l.number l.parts

abbrev pub decreases-loop-line : goal.decreases-loop-line
decreases-loop-line l = length l.parts

use Rattle.cedr_table.specs.Counted.{spread}
use Rattle.pat_state.proofs.RenewLemmas.{AreDueBut}
use Rattle.pat_state.proofs.tagged.renewed_due.Given as goal

abbrev pub invariant-loop-row : goal.invariant-loop-row
invariant-loop-row l = AreDueBut l.fn.tags (spread l.row-iterator) l.due

use Rattle.std.proofs.Common.{length}
use Rattle.cedr_align.specs.Moving.{has_ended}
use Rattle.cedr_align.proofs.MoveLemmas.{IsMoving}
use Rattle.cedr_align.proofs.held.Held.release_ended.Given as goal

abbrev pub invariant-loop-row : goal.invariant-loop-row
invariant-loop-row l = IsMoving (has_ended l.ended l.mark) l.initial.self l.self l.initial.released.items l.released.items

abbrev pub decreases-loop-row : goal.decreases-loop-row
decreases-loop-row l = length l.self

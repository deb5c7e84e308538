use Rattle.std.proofs.Common.{length}
use Rattle.std.proofs.Common.{not}
use Rattle.node_laws.specs.Pass.{is_blocked}
use Rattle.cedr_align.proofs.MoveLemmas.{IsMoving}
use Rattle.cedr_align.proofs.held.Held.release_unblocked.Given as goal

abbrev pub invariant-loop-row : goal.invariant-loop-row
invariant-loop-row l = IsMoving (λ r. not (is_blocked l.block l.high r)) l.initial.self l.self l.initial.released.items l.released.items

abbrev pub decreases-loop-row : goal.decreases-loop-row
decreases-loop-row l = length l.self

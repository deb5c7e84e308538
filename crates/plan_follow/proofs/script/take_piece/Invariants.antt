use Rattle.std.proofs.Common.{◌-◌, length}
use Rattle.cedr_script.specs.Cutters.{begun_of}
use Rattle.plan_follow.proofs.PieceLemmas.{IsCutTo}
use Rattle.plan_follow.proofs.script.take_piece.Given as goal

abbrev pub invariant-loop-done : goal.invariant-loop-done
invariant-loop-done l = IsCutTo l.nodes l.shapes l.name l.initial.follower l.follower (begun_of l.initial.cutter) (begun_of l.cutter) l.piece l.done

abbrev pub decreases-loop-done : goal.decreases-loop-done
decreases-loop-done l = length l.piece - l.done

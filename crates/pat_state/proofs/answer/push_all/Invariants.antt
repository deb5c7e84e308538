use Rattle.std.proofs.Common.{◌≡◌, ◌++◌, map}
use Rattle.pat_state.specs.Answers.{answered}
use Rattle.pat_state.proofs.answer.push_all.Given as goal

abbrev pub invariant-loop-row : goal.invariant-loop-row
invariant-loop-row l = l.out.items ≡ l.initial.out.items ++ map (answered l.way) l.yielded

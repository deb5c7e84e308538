use Rattle.cedr_base.specs.Rows.{SameRows}
use Rattle.cedr_expr.specs.Tags.{right_tag}
use Rattle.pat_state.specs.Starts.{all_endless}
use Rattle.pat_state.specs.Tags.{HaveOwnTags}
use Rattle.pat_state.proofs.tied.tagged_right.Given as goal

abbrev pub invariant-loop-row : goal.invariant-loop-row
invariant-loop-row l = record {
  tags : HaveOwnTags (right_tag l.width l.tests) l.tagged.tags;
  rows : SameRows (all_endless l.tagged.tags) (all_endless l.yielded);
}

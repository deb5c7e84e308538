use Rattle.std.proofs.Common.{◌≡◌, ℕ, ◌<◌, List, true}
use Rattle.std.specs.List.Sorted.{IsStrictlySortedBy}
use Rattle.cedr_base.specs.declared.field.Field.{Field}
use Rattle.op_group.specs.Points.{point_cmp, has_point, IsOpenCut}
use Rattle.op_group.specs.State.{cuts_of}
use Rattle.op_group.proofs.bound.first_open.Given as goal

abbrev pub invariant-loop-point : goal.invariant-loop-point
invariant-loop-point l = record {
  sorted : IsStrictlySortedBy point_cmp l.point-iterator;
  part : (t : ℕ) (key : List Field) → has_point l.point-iterator t key ≡ true → has_point l.fn.all.keys t key ≡ true;
  rest : (t : ℕ) (key : List Field) → has_point l.fn.all.keys t key ≡ true → t < l.mark → IsOpenCut (cuts_of l.fn.groups.entries key) t l.mark → has_point l.point-iterator t key ≡ true;
}

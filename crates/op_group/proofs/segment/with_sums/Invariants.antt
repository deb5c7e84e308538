use Rattle.std.proofs.Common.{◌≡◌, ◌++◌, take, map}
use Rattle.std.specs.Int.{w128, cast_signed}
use Rattle.cedr_base.specs.declared.field.Field.TheVariants.{Number}
use Rattle.op_group.proofs.segment.with_sums.Given as goal

abbrev pub invariant-loop-sum : goal.invariant-loop-sum
invariant-loop-sum l = l.written ≡ l.initial.written ++ map (λ n. Number (cast_signed w128 n)) (take l.sum-index l.sums)

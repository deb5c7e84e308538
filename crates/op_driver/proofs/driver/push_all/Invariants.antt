use Rattle.std.proofs.Common.{◌≡◌, ◌++◌, take, length}
use Rattle.change_laws.specs.Repairs.{wrapped}
use Rattle.op_driver.proofs.driver.push_all.Given as goal

abbrev pub invariant-loop-change : goal.invariant-loop-change
invariant-loop-change l = record {
  out : l.out.items ≡ l.initial.out.items ++ wrapped l.yielded;
  kept : take (length l.initial.out.items) l.out.items ≡ l.initial.out.items;
}

use Rattle.std.proofs.Common.{◌≡◌, take}
use Rattle.cedr_expr.proofs.test_list.Tests.copy.Given as goal

abbrev pub invariant-loop-test : goal.invariant-loop-test
invariant-loop-test l = l.tests.items ≡ take l.test-index l.self

use Rattle.std.proofs.Common.{◌≡◌, take}
use Rattle.cedr_expr.specs.Ties.{tied_fields}
use Rattle.cedr_expr.specs.Tags.{fields_mixed}
use Rattle.cedr_expr.proofs.tag.tag_by.Given as goal

abbrev pub invariant-loop-test : goal.invariant-loop-test
invariant-loop-test l = l.hash ≡ fields_mixed 0 (tied_fields l.side l.width l.payload (take l.test-index l.tests))

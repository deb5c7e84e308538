use Rattle.std.proofs.Common.{take}
use Rattle.cedr_base.specs.Rows.{SameRows}
use Rattle.pat_atleast.specs.Finding.{all_found}
use Rattle.pat_atleast.specs.Keeping.{bags_in}
use Rattle.pat_atleast.proofs.kept.Kept.find.Given as goal

abbrev pub invariant-loop-order : goal.invariant-loop-order
invariant-loop-order l = SameRows l.found.items (all_found l.scope l.tests l.row l.port (bags_in l.self) (take l.order-index l.orders))

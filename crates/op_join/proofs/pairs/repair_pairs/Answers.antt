use Rattle.std.proofs.Common.{ap}
use Rattle.std.proofs.lemmas.Result.{on_ok_weaker}
use Rattle.cedr_base.specs.declared.row.Row.{Row}
use Rattle.cedr_expr.specs.Tests.{passes}
use Rattle.op_join.proofs.SkipLemmas.{both_ranges}
use Rattle.op_join.proofs.pairs.repair_pairs.Goals as goal

pub returns-clause-ok : goal.returns-clause-ok
returns-clause-ok c = on_ok_weaker c.repair_range-2.result
    (λ done. both_ranges (passes c.args.tests.now) c.args.side c.args.change.now _ _ c.args.others.now _ _ _ _ _ c.sync.ensures (ap (λ (r : Row). r.end) c.row.ensures) c.in_ok-repair_range.ensures.ok done c.meeting-ending.ensures.rows) c.repair_range-2.ensures.ok

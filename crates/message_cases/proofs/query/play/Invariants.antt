use Rattle.std.proofs.Common.{◌≡◌, length}
use Rattle.cedr_table.specs.Operators.{HaveRows}
use Rattle.cedr_plan.specs.Places.{source_count}
use Rattle.message_cases.proofs.query.play.Given as goal

abbrev pub invariant-loop-line : goal.invariant-loop-line
invariant-loop-line g l = record {
  count : length l.tables.items ≡ source_count l.plan.nodes.items;
  rows : HaveRows l.tables.items;
}

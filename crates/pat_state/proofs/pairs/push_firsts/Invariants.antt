use Rattle.std.proofs.Common.{ℕ, ◌≡◌, ◌≤◌, ◌++◌}
use Rattle.std.specs.List.{flat_map}
use Rattle.cedr_base.specs.declared.time.TheConstants.{FOREVER}
use Rattle.cedr_table.specs.Counted.{spread}
use Rattle.pat_state.specs.Starts.{AreInScope}
use Rattle.cedr_expr.specs.Tests.{passes}
use Rattle.pat_state.specs.Steps.{begun, next_passing}
use Rattle.pat_state.proofs.pairs.push_firsts.Given as goal

abbrev pub invariant-loop-first : goal.invariant-loop-first
invariant-loop-first l = record {
  so_far : l.rows.items ++ flat_map (λ r. next_passing (passes l.tests) (begun l.scope r) l.second) (spread l.first-iterator) ≡ l.initial.rows.items ++ flat_map (λ r. next_passing (passes l.tests) (begun l.scope r) l.second) (spread l.fn.some);
  within : (from before : ℕ) × (before ≤ FOREVER) × AreInScope from before l.first-iterator;
}

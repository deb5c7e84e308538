use Rattle.std.proofs.Common.{ℕ, ◌≡◌, ◌≤◌, ◌++◌}
use Rattle.std.specs.List.{flat_map}
use Rattle.cedr_base.specs.declared.time.TheConstants.{FOREVER}
use Rattle.cedr_table.specs.Counted.{spread}
use Rattle.pat_state.specs.Starts.{AreInScope}
use Rattle.pat_state.specs.Tied.{right_rows}
use Rattle.pat_unless.specs.Steps.{freed}
use Rattle.pat_unless.proofs.terms.Terms.push_all_freed.Given as goal

abbrev pub invariant-loop-row : goal.invariant-loop-row
invariant-loop-row l = record {
  so_far : l.rows.items ++ flat_map (freed l.self.scope l.self.hold l.self.tests (right_rows l.tied) l.blocker) (spread l.row-iterator) ≡ l.initial.rows.items ++ flat_map (freed l.self.scope l.self.hold l.self.tests (right_rows l.tied) l.blocker) (spread l.fn.some);
  within : (from before : ℕ) × (before ≤ FOREVER) × AreInScope from before l.row-iterator;
}

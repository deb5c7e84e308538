-- Of tables that have rows only, so has what these operators make of them.
use Rattle.std.proofs.Common.{ℕ, ◌≤◌}
use Rattle.std.specs.List.{flat_map}
use Rattle.cedr_base.specs.declared.time.TheConstants.{FOREVER}
use Rattle.cedr_base.specs.declared.interval.Interval.{Interval}
use Rattle.cedr_base.specs.Rows.{AreRows}
use Rattle.cedr_table.specs.Operators.{Tables, HaveRows, table_at}
use Rattle.cedr_table.proofs.RowsLemmas.{made_are, images_are}
use Rattle.op_life.specs.Lifetimes.{with_life}

-- where the new interval of a row ends at FOREVER at the latest
pub life_rows : (life : ℕ → ℕ → Interval) → ((begin end : ℕ) → end ≤ FOREVER → (life begin end).end ≤ FOREVER) → (tables : Tables) → HaveRows tables → AreRows (flat_map (with_life life) (table_at tables 0))
life_rows life is_time tables have = images_are (with_life life) (table_at tables 0) (λ x row. made_are (life x.begin x.end) x.payload (is_time x.begin x.end row.ends)) (have.each 0)

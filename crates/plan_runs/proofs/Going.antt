-- A run that goes on, over middle levels, makes the query of what came so far, and reaches as far as that does.
use Rattle.std.proofs.Common.{◌≡◌, ℕ, ◌+◌, ◌<◌, List, [], ◌∷◌, ◌++◌, length, ap, subst, ◌∙◌, arith}
use Rattle.std.specs.Prelude.{map, None, nat_lt}
use Rattle.std.specs.List.{filter}
use Rattle.cedr_base.specs.declared.row.Row.{Row}
use Rattle.cedr_base.specs.Messages.{IsTableOf, mark_of}
use Rattle.cedr_table.specs.Operators.{Tables, table_at, mark_at}
use Rattle.cedr_plan.specs.declared.plan.NodeKind.TheVariants as kind
use Rattle.cedr_plan.specs.declared.plan.PlanNode.{PlanNode}
use Rattle.cedr_plan.specs.Drawn.{node_of}
use Rattle.cedr_plan.specs.Rules.{AreNodes}
use Rattle.cedr_plan.specs.Places.{source_count}
use Rattle.cedr_query.specs.Queries.{query, reaches}
use Rattle.node_laws.specs.Lists.{Lists, list_at, AreTables}
use Rattle.plan_runs.specs.Middle.{AllGoing, AreMiddle, AreMarks}
use Rattle.plan_runs.specs.Now.{Standing, SourcesStand}
use Rattle.plan_runs.specs.Runs.{IsRun}
use Rattle.plan_runs.proofs.NowCases.{middle_now, strong_now, middle_saves, strong_saves}
use Rattle.plan_runs.proofs.NowRuns.{stands_as}
use Rattle.plan_runs.proofs.PlanNodes.{place_within}

module _ (nodes : List PlanNode) (sources : Lists) (tables : Tables) (marks : List ℕ) (all_going : AllGoing (source_count nodes) sources) (are_tables : AreTables sources tables) (are_marks : AreMarks (source_count nodes) sources marks) where
  stand : SourcesStand nodes sources tables marks
  stand = record { going = all_going; tables_are = are_tables; marks_are = are_marks }

-- the tables are those of the query, up to the last middle level
pub going_table : (nodes : List PlanNode) (count : ℕ) (sources : Lists) (tables : Tables) (marks : List ℕ) (ports : List Lists) (given : Lists) → AreNodes [] (map node_of nodes) → IsRun nodes sources ports given → AllGoing (source_count nodes) sources → AreTables sources tables → AreMarks (source_count nodes) sources marks
    → AreMiddle count nodes → (k : ℕ) → k < length nodes → k < count → IsTableOf (list_at given k) (table_at (query tables nodes) k)
going_table nodes count sources tables marks ports given are run all_going are_tables are_marks middle k within early =
    subst (IsTableOf (list_at given k)) (ap (λ (s : Standing). s.table) (middle_now nodes tables marks are count middle k within early))
    (stands_as nodes count sources tables marks ports given are run (stand nodes sources tables marks all_going are_tables are_marks) (middle_saves count nodes middle) k within early).table

-- and the marks are how far it reaches
pub going_mark : (nodes : List PlanNode) (count : ℕ) (sources : Lists) (tables : Tables) (marks : List ℕ) (ports : List Lists) (given : Lists) → AreNodes [] (map node_of nodes) → IsRun nodes sources ports given → AllGoing (source_count nodes) sources → AreTables sources tables → AreMarks (source_count nodes) sources marks
    → AreMiddle count nodes → (k : ℕ) → k < length nodes → k < count → mark_of (list_at given k) ≡ mark_at (reaches tables marks nodes) k
going_mark nodes count sources tables marks ports given are run all_going are_tables are_marks middle k within early =
    (stands_as nodes count sources tables marks ports given are run (stand nodes sources tables marks all_going are_tables are_marks) (middle_saves count nodes middle) k within early).mark_is
    ∙ ap (λ (s : Standing). s.mark) (middle_now nodes tables marks are count middle k within early)

-- a strong output behind them gave the rows that end before that
pub going_output : (nodes : List PlanNode) (sources : Lists) (tables : Tables) (marks : List ℕ) (ports : List Lists) (given : Lists) → AreNodes [] (map node_of nodes) → IsRun nodes sources ports given → AllGoing (source_count nodes) sources → AreTables sources tables → AreMarks (source_count nodes) sources marks
    → (before after : List PlanNode) (n : PlanNode) → nodes ≡ before ++ n ∷ after → AreMiddle (length before) nodes → n.kind ≡ kind.Output → n.level.block ≡ None → n.level.memory ≡ None
    → IsTableOf (list_at given (length before)) (filter (λ (r : Row). nat_lt r.end (mark_at (reaches tables marks nodes) (length before))) (table_at (query tables nodes) (length before)))
going_output nodes sources tables marks ports given are run all_going are_tables are_marks before after n whole middle out block memory =
    subst (IsTableOf (list_at given (length before))) (strong_now nodes tables marks are before after n whole middle out block)
    (stands_as nodes (length before + 1) sources tables marks ports given are run (stand nodes sources tables marks all_going are_tables are_marks) (strong_saves nodes before after n whole middle block memory) (length before) (place_within nodes before after n whole) (omega arith)).table

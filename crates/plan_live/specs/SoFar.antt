-- What the accepted lines of a plan's sources say so far.
use Rattle.std.specs.Prelude.{ℕ, ◌++◌, List, [], ◌∷◌, map, filter, nat_lt, if◌then◌else◌}
use Rattle.cedr_base.specs.declared.row.Row.{Row}
use Rattle.cedr_base.specs.Rows.{in_order}
use Rattle.cedr_guard.specs.History.{history_of}
use Rattle.cedr_guard.specs.Judging.{guarantee_of, AreAccepted}
use Rattle.cedr_plan.specs.declared.plan.PlanNode.{PlanNode}
use Rattle.cedr_query.specs.Queries.{query, reaches}
use Rattle.cedr_plan.specs.Places.{is_source, output_place}
use Rattle.cedr_table.specs.Operators.{Tables, table_at, mark_at}
use Rattle.cedr_text.specs.Texts.{rows_text}
use Rattle.plan_live.specs.Scripts.{Accepted, lines_at}
use Rattle.plan_live.specs.Shown.{reach_text}
use Rattle.plan_runs.specs.Now.{Standing, now}

-- the lines of each node are accepted, one after the other
abbrev pub AreLines : Accepted → Type 0
AreLines lines = (k : ℕ) → AreAccepted (lines_at lines k)

-- the same of the accepted lines at each of some `?`
abbrev pub AllAreLines : List Accepted → Type 0
AllAreLines [] = Unit {0}
AllAreLines (lines ∷ asks) = AreLines lines × AllAreLines asks

-- the lines of the sources, in the order of the plan
abbrev pub source_lines : List PlanNode → Accepted → Accepted
source_lines [] lines = []
source_lines (n ∷ nodes) [] = if is_source n.kind then [] ∷ source_lines nodes [] else source_lines nodes []
source_lines (n ∷ nodes) (l ∷ lines) = if is_source n.kind then l ∷ source_lines nodes lines else source_lines nodes lines

-- the canonical histories of the lines of the sources
abbrev pub histories_so_far : List PlanNode → Accepted → Tables
histories_so_far nodes lines = map history_of (source_lines nodes lines)

-- the greatest guarantees of the lines of the sources
abbrev pub guarantees_so_far : List PlanNode → Accepted → List ℕ
guarantees_so_far nodes lines = map guarantee_of (source_lines nodes lines)

-- the rows of the query over these histories
abbrev pub rows_so_far : List PlanNode → Accepted → List Row
rows_so_far nodes lines = table_at (query (histories_so_far nodes lines) nodes) (output_place nodes)

-- how far the query over these histories reaches, by these guarantees
abbrev pub reach_so_far : List PlanNode → Accepted → ℕ
reach_so_far nodes lines = mark_at (reaches (histories_so_far nodes lines) (guarantees_so_far nodes lines) nodes) (output_place nodes)

-- these rows and this reach as text
abbrev pub text_so_far : List Row → ℕ → List ℕ
text_so_far rows reach = rows_text (in_order rows) ++ reach_text reach

-- the rows that end before a time
abbrev pub ending_before : ℕ → List Row → List Row
ending_before time rows = filter (λ (r : Row). nat_lt r.end time) rows

-- the plan as it stands, over these histories and these guarantees
abbrev pub now_so_far : List PlanNode → Accepted → Standing
now_so_far nodes lines = now (histories_so_far nodes lines) (guarantees_so_far nodes lines) nodes

-- what it shows, as text
abbrev pub text_now : List PlanNode → Accepted → List ℕ
text_now nodes lines = text_so_far (now_so_far nodes lines).table (now_so_far nodes lines).mark

-- the same at each `?`, one after the other
abbrev pub texts_now : List PlanNode → List Accepted → List ℕ
texts_now nodes [] = []
texts_now nodes (lines ∷ asks) = text_now nodes lines ++ texts_now nodes asks

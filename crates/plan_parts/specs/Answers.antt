-- What parts of a plan answer together.
use Rattle.std.specs.Prelude.{ℕ, ◌≡◌, Bool, List, Option}
use Rattle.cedr_base.specs.declared.field.Field.{Field}
use Rattle.cedr_base.specs.declared.row.Row.{Row}
use Rattle.cedr_base.specs.Rows.{in_order}
use Rattle.cedr_plan.specs.declared.plan.PlanNode.{PlanNode}
use Rattle.cedr_plan.specs.Places.{output_place, source_count}
use Rattle.cedr_table.specs.Operators.{Tables}
use Rattle.node_laws.specs.Lists.{Lists, AreTables}
use Rattle.plan_keys.specs.Keys.{shared_query}
use Rattle.plan_runs.specs.Runs.{AllWhole, sources_in}
use Rattle.plan_runs.specs.Without.{Remembers}

-- Where the lists of the sources are whole, these are their tables and no memory is finite, the rows are those that the
-- queries over the parts with these keys have at the output, all together and in canonical order.
abbrev pub AnswersParts : List PlanNode → Lists → List ℕ → List (Option Field → Bool) → List Row → Type 0
AnswersParts nodes lists columns shares rows = (histories : Tables) → AllWhole (source_count nodes) (sources_in nodes lists) → AreTables (sources_in nodes lists) histories → Remembers nodes → rows ≡ in_order (shared_query shares columns histories nodes (output_place nodes))

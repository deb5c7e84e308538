-- What is written of a plan that is answered by parts of its keys.
use Rattle.std.proofs.Common.{◌≡◌, List, [], ◌∷◌, ℕ, Bool, true, false, Option, Some, None, inl, refl, ap, ◌∙◌}
use Rattle.std.specs.Prelude.{◌||◌}
use Rattle.cedr_base.specs.declared.row.Row.{Row}
use Rattle.cedr_base.specs.Rows.{in_order}
use Rattle.cedr_plan.specs.declared.plan.PlanNode.{PlanNode}
use Rattle.cedr_plan.specs.Places.{output_place, source_count}
use Rattle.cedr_query.specs.Queries.{query}
use Rattle.cedr_table.specs.Operators.{Tables, table_at}
use Rattle.cedr_text.specs.Texts.{rows_text}
use Rattle.node_laws.specs.Lists.{AreTables}
use Rattle.plan_answer.specs.Answers.{has_memory, is_finite}
use Rattle.plan_answer.specs.Queries.{AreAcceptedSources, source_nodes}
use Rattle.plan_keys.specs.Keys.{AreSourceTables}
use Rattle.plan_runs.specs.Runs.{AllWhole, sources_in}
use Rattle.plan_runs.specs.Without.{Remembers}
use Rattle.plan_serial.specs.Rounds.{ByLine, all_messages}
use Rattle.cedr_commands.specs.Answers.{GivesPlan}
use Rattle.cedr_commands.specs.declared.command.Job.TheVariants.{Parts}
use Rattle.cedr_commands.proofs.EndingLemmas.{AcceptedLeft}

no_memory : (memory : Option ℕ) (others : Bool) → (is_finite memory || others) ≡ false → (memory ≡ None) × (others ≡ false)
no_memory None others none = (refl, none)
no_memory (Some n) others none = absurd (let x = none in cc)

-- a plan without a finite memory remembers
pub remembers_all : (nodes : List PlanNode) → has_memory nodes ≡ false → Remembers nodes
remembers_all [] none = tt
remembers_all (n ∷ nodes) none = let both = no_memory n.level.memory (has_memory nodes) none in (both.0, remembers_all nodes both.1)

-- the rows that are the query's over whole sources are those of the query over the canonical histories of accepted ones
pub rows_given : (told : List ℕ → List ℕ) (nodes : List PlanNode) (left : ByLine) (number : ℕ) (rows : List Row) → Remembers nodes → AcceptedLeft told nodes (all_messages left)
    → ((histories : Tables) → AreAcceptedSources told (source_nodes nodes) (sources_in nodes (all_messages left)) histories → AreSourceTables nodes histories)
    → ((histories : Tables) → AllWhole (source_count nodes) (sources_in nodes (all_messages left)) → AreTables (sources_in nodes (all_messages left)) histories → AreSourceTables nodes histories → Remembers nodes → rows ≡ in_order (table_at (query histories nodes) (output_place nodes)))
    → GivesPlan (Parts number) told nodes (rows_text rows)
rows_given told nodes left number rows remembers got widths answer = inl (record {
  sources = sources_in nodes (all_messages left);
  histories = got.0;
  accepted = got.1;
  remembers = remembers;
  text_is = ap rows_text (answer got.0 got.2 got.3 (widths got.0 got.1) remembers);
})

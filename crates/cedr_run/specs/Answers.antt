-- What a run on threads writes where nothing stands in its way, by what went over its edges.
use Rattle.std.specs.Prelude.{ℕ, ◌≡◌, List, [], ◌++◌, length, if◌then◌else◌}
use Rattle.cedr_base.specs.Rows.{in_order}
use Rattle.node_laws.specs.Lists.{Lists}
use Rattle.cedr_plan.specs.declared.plan.PlanNode.{PlanNode}
use Rattle.plan_workers.specs.Wents.{AreRan}
use Rattle.cedr_edge.specs.Ends.{Carried}
use Rattle.plan_runs.specs.Runs.{IsRun}
use Rattle.plan_runs.specs.Without.{Remembers, forgot_in}
use Rattle.plan_answer.specs.Answers.{has_memory, answer_text, tail_text}
use Rattle.plan_answer.specs.Queries.{source_nodes, AreAcceptedSources, LeadsTo, given_text, query_rows, rows_without}
use Rattle.plan_edges.specs.Wires.{carried, froms, ports_of}
use Rattle.cedr_worker.specs.declared.ran.Ran.{Ran}
use Rattle.cedr_table.specs.Operators.{Tables}

-- The sources are accepted, and the workers of the plan sent this over its edges, one for each port. That is a run of the plan
-- over the messages of the sources, and the text is that of its rows and lists what was forgotten in it. Where no memory is
-- finite the rows are those of the query over the canonical histories. The turns of the workers did so much.
pub record AnswersRun (told : List ℕ → List ℕ) (nodes : List PlanNode) (edges : List Carried) (ran : List Ran) (text : List ℕ) : Type 0 where
  pub sources : Lists
  pub histories : Tables
  pub accepted : AreAcceptedSources told (source_nodes nodes) sources histories
  pub given : Lists
  pub count : length edges ≡ length (froms nodes)
  pub run : IsRun nodes sources (ports_of nodes (carried edges)) given
  pub remembers : Remembers nodes → rows_without nodes (ports_of nodes (carried edges)) histories ≡ query_rows nodes histories
  pub text_is : text ≡ answer_text (has_memory nodes) nodes (in_order (rows_without nodes (ports_of nodes (carried edges)) histories)) (forgot_in nodes (ports_of nodes (carried edges)))
  pub ran_is : AreRan nodes edges ran

-- The same of the changes of the answer, as the output gave them in that run, and of what was forgotten behind them. They lead to
-- the rows of the answer.
pub record AnswersStream (told : List ℕ → List ℕ) (nodes : List PlanNode) (edges : List Carried) (ran : List Ran) (text : List ℕ) : Type 0 where
  pub sources : Lists
  pub histories : Tables
  pub accepted : AreAcceptedSources told (source_nodes nodes) sources histories
  pub given : Lists
  pub count : length edges ≡ length (froms nodes)
  pub run : IsRun nodes sources (ports_of nodes (carried edges)) given
  pub text_is : text ≡ given_text nodes given ++ (if has_memory nodes then tail_text nodes (forgot_in nodes (ports_of nodes (carried edges))) else [])
  pub leads : LeadsTo nodes histories (ports_of nodes (carried edges)) given
  pub ran_is : AreRan nodes edges ran

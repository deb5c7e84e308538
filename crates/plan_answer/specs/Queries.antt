-- What is written of a plan and its sources.
use Rattle.std.specs.Prelude.{ℕ, ◌≡◌, ◌||◌, Bool, List, [], ◌∷◌, ◌++◌, length, map, filter, None, if◌then◌else◌}
use Rattle.std.specs.List.{flat_map}
use Rattle.cedr_base.specs.declared.row.Row.{Row}
use Rattle.cedr_base.specs.declared.change.Change.{Change}
use Rattle.cedr_base.specs.declared.change.Change.TheVariants.{Add}
use Rattle.cedr_base.specs.declared.change.Message.{Message}
use Rattle.cedr_base.specs.Messages.{changes_of, IsTableOf}
use Rattle.cedr_base.specs.Rows.{in_order}
use Rattle.cedr_guard.specs.Sources.{judged, messages_of, history_of_bytes}
use Rattle.node_laws.specs.Lists.{Lists, list_at}
use Rattle.cedr_plan.specs.declared.plan.PlanNode.{PlanNode}
use Rattle.cedr_plan.specs.Places.{is_source, output_place}
use Rattle.plan_runs.specs.Runs.{IsRun}
use Rattle.cedr_query.specs.Queries.{query}
use Rattle.plan_runs.specs.Without.{Remembers, query_without, forgot_in}
use Rattle.cedr_table.specs.Operators.{Tables, table_at}
use Rattle.cedr_text.specs.declared.event_line.Shape.{Shape}
use Rattle.cedr_text.specs.Texts.{change_text}
use Rattle.plan_answer.specs.Answers.{has_memory, tail_text, answer_text}
use Rattle.plan_answer.specs.Sources.{file_of}
use Rattle.cedr_text.specs.Shapes.{ShapeHasTypes}

-- ---- accepted sources

-- the sources among nodes
abbrev pub source_nodes : List PlanNode → List PlanNode
source_nodes nodes = filter (λ (n : PlanNode). is_source n.kind) nodes

-- the file of a source has no fault, and these are its messages and its canonical history
pub record IsAcceptedSource (told : List ℕ → List ℕ) (node : PlanNode) (ms : List Message) (history : List Row) : Type 0 where
  pub shape : Shape
  pub types : ShapeHasTypes shape node.types.items
  pub faultless : (judged shape (told (file_of node.kind))).fault ≡ None
  pub messages : ms ≡ messages_of shape (told (file_of node.kind))
  pub history_is : history ≡ history_of_bytes shape (told (file_of node.kind))

-- the same of each of some sources, in order
abbrev pub AreAcceptedSources : (List ℕ → List ℕ) → List PlanNode → Lists → Tables → Type 0
AreAcceptedSources told [] [] [] = Unit {0}
AreAcceptedSources told [] [] (t ∷ ts) = ⊥
AreAcceptedSources told [] (l ∷ ls) histories = ⊥
AreAcceptedSources told (n ∷ nodes) [] histories = ⊥
AreAcceptedSources told (n ∷ nodes) (l ∷ ls) [] = ⊥
AreAcceptedSources told (n ∷ nodes) (l ∷ ls) (t ∷ ts) = IsAcceptedSource told n l t × AreAcceptedSources told nodes ls ts

-- ---- the answer

-- the rows of the query over the canonical histories
abbrev pub query_rows : List PlanNode → Tables → List Row
query_rows nodes histories = table_at (query histories nodes) (output_place nodes)

-- and with what each port forgot left out
abbrev pub rows_without : List PlanNode → List Lists → Tables → List Row
rows_without nodes ports histories = table_at (query_without (forgot_in nodes ports) histories nodes) (output_place nodes)

-- The rows of the query over the canonical histories, with what each port forgot left out, in canonical order: where no memory
-- is finite those of the query. After them what was forgotten, where some port has a finite memory or it is asked for. What was forgotten is that of
-- a run of the plan over the messages of the sources.
pub record IsAnswerText (always : Bool) (nodes : List PlanNode) (sources : Lists) (histories : Tables) (text : List ℕ) : Type 0 where
  pub ports : List Lists
  pub given : Lists
  pub run : IsRun nodes sources ports given
  pub remembers : Remembers nodes → rows_without nodes ports histories ≡ query_rows nodes histories
  pub text_is : text ≡ answer_text (always || has_memory nodes) nodes (in_order (rows_without nodes ports histories)) (forgot_in nodes ports)

-- ---- the changes

-- a line for each change, in order
abbrev pub changes_text : List Change → List ℕ
changes_text changes = flat_map change_text changes

-- the changes that the output gave
abbrev pub given_text : List PlanNode → Lists → List ℕ
given_text nodes given = changes_text (changes_of (list_at given (output_place nodes)))

-- The changes that the output gave in a run of the plan over the messages of the sources, and after them what was
-- forgotten, where some port has a finite memory.
pub record IsStreamText (nodes : List PlanNode) (sources : Lists) (text : List ℕ) : Type 0 where
  pub ports : List Lists
  pub given : Lists
  pub run : IsRun nodes sources ports given
  pub text_is : text ≡ given_text nodes given ++ (if has_memory nodes then tail_text nodes (forgot_in nodes ports) else [])

-- the output waits for all that may still come: its block is without limit
abbrev pub IsStrong : List PlanNode → Type 0
IsStrong nodes = (before after : List PlanNode) (output : PlanNode) → nodes ≡ before ++ output ∷ after → length before ≡ output_place nodes → output.level.block ≡ None

-- What the output's changes come to: the sum of their deltas is the rows of the answer, which are those of the query where no
-- memory is finite. Where the output is strong they are
-- one addition for each of these rows, in canonical order, and no retraction.
pub record LeadsTo (nodes : List PlanNode) (histories : Tables) (ports : List Lists) (given : Lists) : Type 0 where
  pub table : IsTableOf (list_at given (output_place nodes)) (rows_without nodes ports histories)
  pub remembers : Remembers nodes → rows_without nodes ports histories ≡ query_rows nodes histories
  pub additions : IsStrong nodes → changes_of (list_at given (output_place nodes)) ≡ map (λ (r : Row). Add r) (in_order (rows_without nodes ports histories))

-- What a stream writes, whatever its status, where the output is strong and no port has a finite memory.
use Rattle.std.specs.Prelude.{ℕ, ◌≡◌, ◌⊎◌, List, [], ◌∷◌, map, Option, Some, None}
use Rattle.std.specs.Io.KnownBytes.{Keeps}
use Rattle.cedr_base.specs.declared.change.Change.TheVariants.{Add}
use Rattle.cedr_base.specs.declared.row.Row.{Row}
use Rattle.cedr_base.specs.Rows.{in_order}
use Rattle.cedr_guard.specs.Sources.{history_of_bytes}
use Rattle.cedr_io.specs.Asked.{AppendsFront}
use Rattle.cedr_plan.specs.declared.plan.PlanNode.{PlanNode}
use Rattle.cedr_query.specs.Queries.{query}
use Rattle.cedr_plan.specs.Places.{output_place}
use Rattle.plan_runs.specs.Without.{Remembers}
use Rattle.plan_answer.specs.Queries.{IsStrong, changes_text, source_nodes}
use Rattle.plan_answer.specs.Sources.{AreTold, file_of, source_files}
use Rattle.cedr_table.specs.Operators.{Tables, table_at}
use Rattle.cedr_text.specs.Shapes.{ShapeHasTypes}
use Rattle.cedr_text.specs.declared.event_line.Shape.{Shape}
use Rattle.cedr_commands.specs.declared.command.Job.{Job}
use Rattle.cedr_commands.specs.declared.command.Job.TheVariants.{Stream}
use Rattle.cedr_commands.specs.Answers.{Contents, OfPlan}
use Rattle.cedr_commands.specs.Commands.{Command}
use Rattle.cedr_commands.specs.Seen.{FilesSeen, SinkSeen}

-- the canonical history of the good lines of a source, those before its first fault
pub record HasGood (told : List ℕ → List ℕ) (node : PlanNode) (history : List Row) : Type 0 where
  pub shape : Shape
  pub types : ShapeHasTypes shape node.types.items
  pub history_is : history ≡ history_of_bytes shape (told (file_of node.kind))

-- the same of each of some sources, in order
abbrev pub AllHaveGood : (List ℕ → List ℕ) → List PlanNode → Tables → Type 0
AllHaveGood told [] [] = Unit {0}
AllHaveGood told [] (t ∷ ts) = ⊥
AllHaveGood told (n ∷ nodes) [] = ⊥
AllHaveGood told (n ∷ nodes) (t ∷ ts) = HasGood told n t × AllHaveGood told nodes ts

-- the lines of one addition for each row of the query over the good lines of the sources, in canonical order
pub record AddsGood (told : List ℕ → List ℕ) (nodes : List PlanNode) (text : List ℕ) : Type 0 where
  pub histories : Tables
  pub good : AllHaveGood told (source_nodes nodes) histories
  pub text_is : text ≡ changes_text (map (λ (r : Row). Add r) (in_order (table_at (query histories nodes) (output_place nodes))))

-- a front of these lines was written
abbrev pub WroteGood : (List ℕ → List ℕ) → List PlanNode → SinkSeen → SinkSeen → Type 0
WroteGood told nodes out out' = (text : List ℕ) × AddsGood told nodes text × AppendsFront out.written out'.written text

-- where the output is strong and no port forgets
abbrev pub WroteStrong : Contents → List PlanNode → SinkSeen → SinkSeen → Type 0
WroteStrong content nodes out out' = IsStrong nodes → Remembers nodes → (told : List ℕ → List ℕ) → AreTold content told (source_files nodes) → WroteGood told nodes out out'

-- nothing was written, or of a plan of these nodes such a front
abbrev pub StreamsPlan : FilesSeen → List ℕ → SinkSeen → SinkSeen → Type 0
StreamsPlan files file out out' = Keeps out.written out'.written ⊎ ((told : List ℕ → List ℕ) → AreTold files.content told (file ∷ []) → OfPlan files.content told file (λ nodes. IsStrong nodes → Remembers nodes → WroteGood told nodes out out'))

-- whatever the status of `stream PLAN` is
abbrev pub StreamsStrong : Option Command → FilesSeen → SinkSeen → SinkSeen → Type 0
StreamsStrong None files out out' = Unit {0}
StreamsStrong (Some command) files out out' = streams command.job where
  streams : Job → Type 0
  streams Stream = StreamsPlan files command.file out out'
  streams job = Unit {0}

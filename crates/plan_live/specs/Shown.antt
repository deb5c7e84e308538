-- What is shown at each `?` of a script.
use Rattle.std.specs.Prelude.{ℕ, ◌≡◌, List, [], ◌∷◌, ◌++◌, codes, take}
use Rattle.cedr_base.specs.declared.row.Row.{Row}
use Rattle.cedr_base.specs.Messages.{IsTableOf, mark_of}
use Rattle.cedr_base.specs.Rows.{in_order}
use Rattle.node_laws.specs.Lists.{Lists, list_at}
use Rattle.cedr_net.specs.Networks.{AllGrow}
use Rattle.cedr_plan.specs.declared.plan.PlanNode.{PlanNode}
use Rattle.cedr_plan.specs.Places.{output_place}
use Rattle.plan_runs.specs.Runs.{lists_at, sources_in, IsRun}
use Rattle.cedr_base.specs.Bytes.{line_feed}
use Rattle.cedr_text.specs.Texts.{rows_text, time_text}
use Rattle.plan_live.specs.Scripts.{Accepted, messages_so_far}

-- `. ` and a time
abbrev pub reach_text : ℕ → List ℕ
reach_text g = codes ". " ++ (time_text g ++ line_feed ∷ [])

-- The rows of what the output gave, and the last mark that came to it, in a run of the plan over the messages of the lines
-- that were accepted so far, which goes on from what the nodes gave before.
pub record IsShown (nodes : List PlanNode) (before : Lists) (lines : Accepted) (given : Lists) (text : List ℕ) : Type 0 where
  pub ports : List Lists
  pub run : IsRun nodes (sources_in nodes (messages_so_far lines)) ports given
  pub goes_on : AllGrow before given
  pub rows : List Row
  pub table : IsTableOf (list_at given (output_place nodes)) rows
  pub text_is : text ≡ rows_text (in_order rows) ++ reach_text (mark_of (list_at (lists_at ports (output_place nodes)) 0))

-- what is shown at each `?`, one after the other
abbrev pub AreShown : List PlanNode → Lists → List Accepted → List ℕ → Type 0
AreShown nodes before [] text = text ≡ []
AreShown nodes before (lines ∷ asks) text = (given : Lists) × (first : List ℕ) × (rest : List ℕ) × IsShown nodes before lines given first × (text ≡ first ++ rest) × AreShown nodes given asks rest

-- and of the first ones alone
pub record AreShownFirst (nodes : List PlanNode) (asks : List Accepted) (text : List ℕ) : Type 0 where
  pub count : ℕ
  pub shown : AreShown nodes [] (take count asks) text

-- A script that is followed, cut, saved at the cut and followed on.
use Rattle.std.specs.Prelude.{ℕ, ◌≡◌, List, [], ◌++◌, None}
use Rattle.cedr_base.specs.declared.change.Message.{Message}
use Rattle.cedr_plan.specs.declared.plan.PlanNode.{PlanNode}
use Rattle.cedr_script.specs.Cutting.{script_answers}
use Rattle.cedr_text.specs.declared.event_line.Shape.{Shape}
use Rattle.node_laws.specs.Lists.{Lists}
use Rattle.plan_follow.specs.Following.{GaveMore, IsStart}
use Rattle.plan_follow.specs.Sifted.{Sifted, sifted, sifted_behind}
use Rattle.plan_live.specs.Resumed.{lines_from, states_so_far, EndsLine}
use Rattle.plan_live.specs.Scripts.{Accepted, no_lines, played}

-- what a script comes to that is followed from its first line on
abbrev pub followed_whole : List PlanNode → List Shape → List ℕ → Sifted
followed_whole nodes shapes script = sifted nodes shapes (sifted_behind (no_lines nodes)) (script_answers script)

-- the lines that spell the states which are saved of a script
abbrev pub lines_saved : List PlanNode → List Shape → List ℕ → Accepted
lines_saved nodes shapes script = lines_from nodes (states_so_far nodes (played nodes shapes script).lines)

-- what a script comes to that is followed behind the states which were saved of another one
abbrev pub followed_on : List PlanNode → List Shape → List ℕ → List ℕ → Sifted
followed_on nodes shapes first more = sifted nodes shapes (sifted_behind (lines_saved nodes shapes first)) (script_answers more)

-- A script may be cut behind its first part: that is empty or ends with a line feed, no line of the script is refused where it is
-- followed, and none is where it is played, as saving plays it. Neither follows from the other: an id that was forgotten is
-- taken again where it is followed alone, and a withdrawn event that is over may be revised where it is played alone.
pub record MayBeCut (nodes : List PlanNode) (shapes : List Shape) (first more : List ℕ) : Type 0 where
  pub ends : EndsLine first
  pub taken : (followed_whole nodes shapes (first ++ more)).refusals ≡ []
  pub accepted : (played nodes shapes (first ++ more)).fault ≡ None

-- what the output gave for a script, for its first part alone, and for the rest behind the states that were saved of that
pub record GaveParts (nodes : List PlanNode) (shapes : List Shape) (first more : List ℕ) (whole front rest : List Message) : Type 0 where
  pub all : GaveMore nodes [] (followed_whole nodes shapes (first ++ more)).sent whole
  pub begun : GaveMore nodes [] (followed_whole nodes shapes first).sent front
  pub start : Lists
  pub saved : IsStart nodes (sifted_behind (lines_saved nodes shapes first)).sent start
  pub goes_on : GaveMore nodes start (followed_on nodes shapes first more).sent rest

use Rattle.std.proofs.Common.{◌≡◌, ◌≢◌, ◌≤◌, ◌+◌, true, [], length}
use Rattle.cedr_guard.specs.declared.refusal.TheConstants.{FILE_LIMIT}
use Rattle.cedr_base.specs.Bytes.{line_feed}
use Rattle.cedr_text.specs.Parts.{parts_of}
use Rattle.plan_live.specs.Scripts.{Accepted}
use Rattle.plan_live.specs.Playing.{GuardsStand, parts_played}
use Rattle.plan_live.proofs.JudgeLemmas.{IsJudgedTo}
use Rattle.plan_live.proofs.judge.judge_lines.Given as goal

abbrev pub invariant-loop-line : goal.invariant-loop-line
invariant-loop-line l = record {
  judged : (before : Accepted) → GuardsStand l.nodes l.initial.guards.items before → IsJudgedTo l.over_limit l.nodes l.shapes l.number l.lines l.guards.items (parts_played l.over_limit l.nodes l.shapes 0 before (parts_of line_feed l.bytes));
  counted : l.number + length l.lines ≤ FILE_LIMIT + 1;
  last : l.over_limit ≡ true → l.lines ≢ [];
}

abbrev pub decreases-loop-line : goal.decreases-loop-line
decreases-loop-line l = length l.lines

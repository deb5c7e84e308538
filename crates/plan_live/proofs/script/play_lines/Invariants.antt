use Rattle.std.proofs.Common.{◌≡◌, ◌≢◌, ◌≤◌, ◌+◌, true, [], length}
use Rattle.cedr_guard.specs.declared.refusal.TheConstants.{FILE_LIMIT}
use Rattle.cedr_base.specs.Bytes.{line_feed}
use Rattle.cedr_text.specs.Parts.{parts_of}
use Rattle.plan_live.specs.Scripts.{Accepted}
use Rattle.plan_live.specs.Playing.{PlaysStand, parts_played}
use Rattle.plan_live.proofs.ScriptLemmas.{IsPlayedTo}
use Rattle.plan_live.proofs.script.play_lines.Given as goal

abbrev pub invariant-loop-line : goal.invariant-loop-line
invariant-loop-line g l = record {
  played : (before : Accepted) → PlaysStand l.plan.nodes.items l.initial.player before [] → IsPlayedTo l.over_limit l.plan.nodes.items l.shapes l.number l.lines l.player (parts_played l.over_limit l.plan.nodes.items l.shapes 0 before (parts_of line_feed l.bytes)) (g.K.Sink.written l.initial.out) (g.K.Sink.written l.out);
  counted : l.number + length l.lines ≤ FILE_LIMIT + 1;
  last : l.over_limit ≡ true → l.lines ≢ [];
  faults : g.K.Sink.faults l.out ≡ g.K.Sink.faults l.initial.out;
}

abbrev pub decreases-loop-line : goal.decreases-loop-line
decreases-loop-line g l = length l.lines

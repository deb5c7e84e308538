use Rattle.std.proofs.Common.{◌≡◌, ◌≢◌, ◌≤◌, ◌+◌, true, [], List, length}
use Rattle.cedr_text.specs.declared.event_line.EventLine.{EventLine}
use Rattle.cedr_base.specs.Bytes.{line_feed}
use Rattle.cedr_text.specs.Parts.{parts_of}
use Rattle.cedr_guard.specs.declared.refusal.TheConstants.{FILE_LIMIT}
use Rattle.cedr_commands.specs.Events.{AreEventsOf, parts_behind}
use Rattle.cedr_commands.proofs.history.judge_lines.Given as goal

abbrev pub invariant-loop-line : goal.invariant-loop-line
invariant-loop-line l = record {
  good : List EventLine;
  events : AreEventsOf l.events good;
  counted : l.number + length l.lines ≤ FILE_LIMIT + 1;
  last : l.over_limit ≡ true → l.lines ≢ [];
  rest : parts_behind l.over_limit l.number good l.lines ≡ parts_behind l.over_limit 0 [] (parts_of line_feed l.bytes);
}

abbrev pub decreases-loop-line : goal.decreases-loop-line
decreases-loop-line l = length l.lines

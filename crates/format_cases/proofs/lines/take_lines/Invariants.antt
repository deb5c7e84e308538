use Rattle.std.proofs.Common.{◌≡◌}
use Rattle.format_cases.proofs.lines.take_lines.Given as goal

abbrev pub invariant-loop : goal.invariant-loop
invariant-loop l = l.lines.finished ≡ l.fn.lines.finished

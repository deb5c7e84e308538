use Rattle.std.proofs.Common.{◌≡◌}
use Rattle.format_cases.proofs.source.ask.Given as goal

abbrev pub invariant-loop : goal.invariant-loop
invariant-loop l = l.lines.lines.finished ≡ l.fn.lines.lines.finished

use Rattle.std.proofs.Common.{◌≡◌, false}
use Rattle.format_cases.proofs.source.feed.Given as goal

abbrev pub invariant-loop : goal.invariant-loop
invariant-loop l = l.lines.lines.finished ≡ false

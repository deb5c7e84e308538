use Rattle.std.proofs.Common.{◌≡◌, replicate}
use Rattle.plan_key_choice.proofs.keep.repeated.Given as goal

abbrev pub invariant-loop : goal.invariant-loop
invariant-loop l = l.ports.items ≡ replicate l.counter l.port

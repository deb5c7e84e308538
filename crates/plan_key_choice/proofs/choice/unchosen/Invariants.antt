use Rattle.std.proofs.Common.{◌≡◌, length}
use Rattle.plan_key_choice.specs.Partial.{AreUnchosen}
use Rattle.plan_key_choice.proofs.choice.unchosen.Given as goal

abbrev pub invariant-loop : goal.invariant-loop
invariant-loop l = record {
  count : length l.choice.items ≡ l.counter;
  unchosen : AreUnchosen l.choice.items;
}

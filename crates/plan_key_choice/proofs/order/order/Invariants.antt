use Rattle.std.proofs.Common.{◌≡◌, ◌+◌, ◌<◌, ◌≤◌, ℕ, All, length, true}
use Rattle.plan_key_choice.specs.Partial.{is_among}
use Rattle.plan_key_choice.proofs.order.order.Given as goal

abbrev pub invariant-loop-k : goal.invariant-loop-k
invariant-loop-k l = record {
  all : (place : ℕ) → place < length l.nodes → length l.nodes ≤ place + l.k → is_among l.order.items place ≡ true;
  inside : All (λ (place : ℕ). place < length l.nodes) l.order.items;
}

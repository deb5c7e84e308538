use Rattle.std.proofs.Common.{◌≡◌, ◌-◌, ◌<◌, ℕ, All, length, true}
use Rattle.plan_key_choice.specs.Partial.{is_among}
use Rattle.plan_key_choice.proofs.order.+push_from.Given as goal

abbrev pub decreases-push_from : goal.decreases-push_from
decreases-push_from l = l.place

abbrev pub invariant-loop-input : goal.invariant-loop-input
invariant-loop-input l = record {
  there : is_among l.order.items l.fn.place ≡ true;
  more : (other : ℕ) → is_among l.fn.order.items other ≡ true → is_among l.order.items other ≡ true;
  inside : All (λ (place : ℕ). place < length l.nodes) l.order.items;
}

abbrev pub decreases-loop-input : goal.decreases-loop-input
decreases-loop-input l = 4 - l.port

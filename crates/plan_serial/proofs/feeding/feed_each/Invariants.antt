use Rattle.std.proofs.Common.{◌≡◌, ◌<◌, List, ℕ, [], true, false}
use Rattle.node_laws.specs.Lists.{Lists}
use Rattle.cedr_plan.specs.declared.plan.PlanNode.{PlanNode}
use Rattle.cedr_net.specs.Networks.{NetStands}
use Rattle.plan_serial.specs.Rounds.{entries_at}
use Rattle.plan_serial.specs.Feeding.{MayBeFed, left_count}
use Rattle.plan_serial.proofs.FeedLemmas.{FedUpTo, taken_up_to}
use Rattle.plan_serial.proofs.feeding.feed_each.Given as goal

abbrev pub invariant-loop-place : goal.invariant-loop-place
invariant-loop-place l = record {
  stands : (nodes : List PlanNode) (ports : List Lists) (given : Lists) → NetStands nodes l.initial.net ports given → MayBeFed nodes given l.initial.remaining.items → FedUpTo nodes l.net ports given l.initial.remaining.items l.remaining.items l.place;
  fed : l.fed ≡ true → left_count l.remaining.items < left_count l.initial.remaining.items;
  none : l.fed ≡ false → (l.remaining.items ≡ l.initial.remaining.items) × ((k : ℕ) → k < l.place → entries_at l.remaining.items k ≡ []);
  taken : l.remaining.items ≡ taken_up_to l.place l.initial.remaining.items;
}

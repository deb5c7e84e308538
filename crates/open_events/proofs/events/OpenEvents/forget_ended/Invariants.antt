use Rattle.std.proofs.Common.{◌≡◌, ℕ, length}
use Rattle.std.specs.Ordering.{nat_cmp}
use Rattle.std.specs.BTreeMap.{get}
use Rattle.open_events.specs.Endings.{still_open}
use Rattle.open_events.proofs.events.OpenEvents.forget_ended.Given as goal

abbrev pub invariant-loop-ending : goal.invariant-loop-ending
invariant-loop-ending l = (q : ℕ) → still_open l.time (get nat_cmp l.self.rows q) ≡ still_open l.time (get nat_cmp l.initial.self.rows q)

abbrev pub decreases-loop-ending : goal.decreases-loop-ending
decreases-loop-ending l = length l.self.ends.keys

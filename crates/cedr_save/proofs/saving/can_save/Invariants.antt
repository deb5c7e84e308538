use Rattle.std.proofs.Common.{◌≡◌, drop}
use Rattle.cedr_save.specs.Saving.{first_unsaved}
use Rattle.cedr_save.proofs.saving.can_save.Given as goal

abbrev pub invariant-loop-place : goal.invariant-loop-place
invariant-loop-place l = first_unsaved 0 l.plan.nodes.items ≡ first_unsaved l.place (drop l.place l.plan.nodes.items)

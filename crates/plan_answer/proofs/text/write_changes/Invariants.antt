use Rattle.std.proofs.Common.{◌≡◌, ◌++◌, take}
use Rattle.plan_answer.specs.Queries.{changes_text}
use Rattle.plan_answer.proofs.text.write_changes.Given as goal

abbrev pub invariant-loop-change : goal.invariant-loop-change
invariant-loop-change l = l.out.items ≡ l.initial.out.items ++ changes_text (take l.change-index l.changes)

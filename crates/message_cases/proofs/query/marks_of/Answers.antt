use Rattle.std.proofs.Common.{List, ℕ, subst, sym}
use Rattle.cedr_table.specs.Operators.{AreTimes}
use Rattle.cedr_query.proofs.QueryLemmas.{times_push}
use Rattle.message_cases.proofs.query.marks_of.Goals as goal

pub loop-word-preserved : goal.loop-word-preserved
loop-word-preserved c = subst (λ (ms : List ℕ). AreTimes ms) (sym c.in_ok-push.ensures.items) (times_push c.loop-word.marks.items c.in_ok-time.field-0 c.loop-word.invariant c.in_ok-time.ensures)

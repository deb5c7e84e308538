use Rattle.std.proofs.Common.{[], List, subst, sym}
use Rattle.cedr_base.specs.declared.row.Row.{Row}
use Rattle.change_laws.specs.Repairs.{AreLegal}
use Rattle.plan_answer.proofs.ListedLemmas.{changes_legal}
use Rattle.plan_answer.proofs.text.rows_of.Goals as goal

pub apply_all-requires : goal.apply_all-requires
apply_all-requires c = subst (λ (rows : List Row). AreLegal rows [] c.args.changes.now) (sym c.new-table.ensures) (changes_legal c.requires.0 c.args.changes.now c.requires.1 c.requires.2)

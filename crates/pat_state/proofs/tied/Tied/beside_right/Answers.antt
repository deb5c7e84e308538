use Rattle.std.proofs.Common.{List, sym, subst}
use Rattle.cedr_base.specs.declared.row.Row.{Row}
use Rattle.cedr_expr.specs.Tags.{left_tag}
use Rattle.pat_state.specs.Tags.{IsTagged}
use Rattle.pat_state.specs.Tied.{left_rows}
use Rattle.pat_state.proofs.BagLemmas.{are_tagged}
use Rattle.pat_state.proofs.tied.Tied.beside_right.Goals as goal

pub returns-clause-rows : goal.returns-clause-rows
returns-clause-rows c = λ weight sought.
    let tied = c.args.self.now in
    let tag = left_tag tied.width c.args.tests.now in
    c.beside_right.ensures.rows (left_rows tied) weight (subst (λ (tags : List Row). IsTagged tag (left_rows tied) tags) (sym c.tags.ensures) (are_tagged tag tied.left.tags c.requires.left_are)) sought

use Rattle.std.proofs.Common.{List, sym, subst}
use Rattle.cedr_base.specs.declared.row.Row.{Row}
use Rattle.cedr_expr.specs.Tags.{right_tag}
use Rattle.pat_state.specs.Tags.{IsTagged}
use Rattle.pat_state.specs.Tied.{right_rows}
use Rattle.pat_state.proofs.BagLemmas.{are_tagged}
use Rattle.pat_state.proofs.tied.Tied.beside_left.Goals as goal

pub returns-clause-rows : goal.returns-clause-rows
returns-clause-rows c = λ weight sought.
    let tied = c.args.self.now in
    let tag = right_tag tied.width c.args.tests.now in
    c.beside_left.ensures.rows (right_rows tied) weight (subst (λ (tags : List Row). IsTagged tag (right_rows tied) tags) (sym c.tags.ensures) (are_tagged tag tied.right.tags c.requires.right_are)) sought

use Rattle.std.proofs.Common.{List, subst}
use Rattle.std.proofs.lemmas.Bool.{ltb-true}
use Rattle.cedr_base.specs.declared.row.Row.{Row}
use Rattle.pat_state.specs.Keys.{LackTag}
use Rattle.pat_state.proofs.GroupLemmas.{first_above}
use Rattle.pat_state.proofs.by_tag.ByTag.lacks_zero.Goals as goal

pub returns-in-Some : goal.returns-in-Some
returns-in-Some c = λ above.
    subst (λ (rows : List Row). LackTag 0 rows) c.self.view_is (first_above c.in-Some.row.now c.self.inside.rows c.in-Some.ensures.some (ltb-true 0 c.in-Some.row.now.end above))

use Rattle.std.proofs.Common.{◌++◌, List, replicate, sym, subst}
use Rattle.cedr_base.specs.declared.row.Row.{Row}
use Rattle.cedr_base.specs.Rows.{SameRows}
use Rattle.pat_state.specs.Tags.{marked}
use Rattle.pat_state.proofs.TagLemmas.{all_gone}
use Rattle.pat_state.proofs.by_tag.ByTag.remove_copies.Goals as goal

pub returns-clause-left : goal.returns-clause-left
returns-clause-left c = λ count rest none same.
    let row = marked c.args.tag c.args.row in
    all_gone row count c.remove.result c.self.inside.rows c.remove.new.self rest c.remove.ensures.count c.remove.ensures.removed none
    (subst (λ (rows : List Row). SameRows rows (replicate count row ++ rest)) (sym c.self.view_is) same)

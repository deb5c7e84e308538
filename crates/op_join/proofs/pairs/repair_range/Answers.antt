use Rattle.std.proofs.Common.{ℕ, ◌++◌, List, sym, ap, ◌∙◌}
use Rattle.std.proofs.lemmas.List.{append-nil}
use Rattle.cedr_base.specs.declared.row.Row.{Row}
use Rattle.cedr_expr.specs.Tests.{passes}
use Rattle.cedr_table.specs.Counted.{spread}
use Rattle.op_join.specs.Pairs.{all_changes}
use Rattle.op_join.proofs.pairs.repair_range.Goals as goal

pub returns-clause-ok : goal.returns-clause-ok
returns-clause-ok c =
    let out = c.loop-other.out.items in
    sym (append-nil out)
    ∙ (ap (λ (rest : List (Row × ℕ)). out ++ all_changes (passes c.args.tests.now) c.args.side c.args.change.now (spread rest)) (sym c.in-None.ensures.steps.0)
    ∙ c.loop-other.invariant.0)

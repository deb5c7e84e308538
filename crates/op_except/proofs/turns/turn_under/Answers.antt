use Rattle.std.proofs.Common.{◌≡◌, [], List, rules, sym, subst}
use Rattle.cedr_base.specs.declared.row.Row.{Row}
use Rattle.filed_rows.specs.Filed.{under, right_partners}
use Rattle.op_except.proofs.TurnedLemmas.{CanAll, all_none}
use Rattle.op_except.proofs.turns.turn_under.Goals as goal

pub returns-in-None-clause-ok : goal.returns-in-None-clause-ok
returns-in-None-clause-ok c =
    let none : under c.args.left.now.entries c.args.tag ≡ [] = search rules in
    subst (λ (rows : List Row). CanAll c.args.tests.now c.args.change.now (right_partners c.args.right.now.entries c.args.tag) rows c.args.out.now.items c.args.out.now.items) (sym none)
    (all_none c.args.tests.now c.args.change.now (right_partners c.args.right.now.entries c.args.tag) c.args.out.now.items)

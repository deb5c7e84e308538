use Rattle.std.proofs.Common.{◌∷◌, [], sym, subst, take}
use Rattle.std.proofs.lemmas.List.{get_or_default}
use Rattle.op_group.specs.Bags.{ComesTo, field_lives, columns_but}
use Rattle.op_group.proofs.BagLemmas.{comes_both, next_lives, nothing_comes}
use Rattle.op_group.proofs.bags.add_fields.Goals as goal

pub loop-column-init : goal.loop-column-init
loop-column-init c = nothing_comes c.args.living.now

pub loop-column-preserved : goal.loop-column-preserved
loop-column-preserved c =
    subst (λ ls. ComesTo c.args.living.now c.add_field_unless.new.living ls) (sym (next_lives c.args.but.now c.args.columns.now c.loop-column.column-index _ c.loop-column-test.true (get_or_default c.args.columns.now c.loop-column.column-index 0 _ c.loop-column-test.true) (record c.args.row.now { end = c.args.end })))
    (comes_both c.args.living.now c.loop-column.living c.add_field_unless.new.living (field_lives (columns_but c.args.but.now (take c.loop-column.column-index c.args.columns.now)) (record c.args.row.now { end = c.args.end })) (field_lives (columns_but c.args.but.now (_ ∷ [])) (record c.args.row.now { end = c.args.end })) c.loop-column.invariant c.in_ok-add_field_unless.ensures)

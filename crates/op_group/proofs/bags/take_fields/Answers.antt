use Rattle.std.proofs.Common.{◌∷◌, [], sym, subst, take}
use Rattle.std.proofs.lemmas.List.{get_or_default}
use Rattle.op_group.specs.Bags.{GoesFrom, field_lives, columns_but}
use Rattle.op_group.proofs.BagLemmas.{goes_both, next_lives, nothing_goes}
use Rattle.op_group.proofs.bags.take_fields.Goals as goal

pub loop-column-init : goal.loop-column-init
loop-column-init c = nothing_goes c.args.living.now

pub loop-column-preserved : goal.loop-column-preserved
loop-column-preserved c =
    subst (λ ls. GoesFrom c.args.living.now c.take_field_unless.new.living ls) (sym (next_lives c.args.but.now c.args.columns.now c.loop-column.column-index _ c.loop-column-test.true (get_or_default c.args.columns.now c.loop-column.column-index 0 _ c.loop-column-test.true) c.args.row.now))
    (goes_both c.args.living.now c.loop-column.living c.take_field_unless.new.living (field_lives (columns_but c.args.but.now (take c.loop-column.column-index c.args.columns.now)) c.args.row.now) (field_lives (columns_but c.args.but.now (_ ∷ [])) c.args.row.now) c.loop-column.invariant c.in_ok-take_field_unless.ensures)

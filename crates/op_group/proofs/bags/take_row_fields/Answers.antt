use Rattle.std.proofs.Common.{◌∙◌, [], ap, sym, subst}
use Rattle.std.proofs.lemmas.Result.{on_ok_weaker}
use Rattle.op_group.specs.Bags.{GoesFrom, field_lives, columns_but}
use Rattle.op_group.proofs.BagLemmas.{goes_both, lives_append}
use Rattle.op_group.proofs.bags.take_row_fields.Goals as goal

pub returns : goal.returns
returns c = on_ok_weaker c.take_fields-2.result
    (λ two.
    let columns = ap (λ least. columns_but least c.columns.result.now) c.columns-least.ensures ∙ ap (columns_but c.args.asked.now.least) c.columns.ensures in
    let first = subst (λ least. GoesFrom c.args.living.now c.take_fields.new.living (field_lives (columns_but [] least) c.args.row.now)) c.columns-least.ensures c.in_ok-take_fields.ensures in
    subst (λ ls. GoesFrom c.args.living.now c.take_fields-2.new.living ls) (sym (lives_append (columns_but [] c.args.asked.now.least) (columns_but c.args.asked.now.least c.args.asked.now.greatest) c.args.row.now))
    (goes_both c.args.living.now c.take_fields.new.living c.take_fields-2.new.living (field_lives (columns_but [] c.args.asked.now.least) c.args.row.now) (field_lives (columns_but c.args.asked.now.least c.args.asked.now.greatest) c.args.row.now)
    first (subst (λ cs. GoesFrom c.take_fields.new.living c.take_fields-2.new.living (field_lives cs c.args.row.now)) columns two)))
    c.take_fields-2.ensures

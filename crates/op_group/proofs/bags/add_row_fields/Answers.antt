use Rattle.std.proofs.Common.{◌∙◌, [], ap, sym, subst}
use Rattle.std.proofs.lemmas.Result.{on_ok_weaker}
use Rattle.op_group.specs.Bags.{ComesTo, field_lives, columns_but}
use Rattle.op_group.proofs.BagLemmas.{comes_both, lives_append}
use Rattle.op_group.proofs.bags.add_row_fields.Goals as goal

pub returns : goal.returns
returns c = on_ok_weaker c.add_fields-2.result
    (λ two.
    let columns = ap (λ least. columns_but least c.columns.result.now) c.columns-least.ensures ∙ ap (columns_but c.args.asked.now.least) c.columns.ensures in
    let first = subst (λ least. ComesTo c.args.living.now c.add_fields.new.living (field_lives (columns_but [] least) (record c.args.row.now { end = c.args.end }))) c.columns-least.ensures c.in_ok-add_fields.ensures in
    subst (λ ls. ComesTo c.args.living.now c.add_fields-2.new.living ls) (sym (lives_append (columns_but [] c.args.asked.now.least) (columns_but c.args.asked.now.least c.args.asked.now.greatest) (record c.args.row.now { end = c.args.end })))
    (comes_both c.args.living.now c.add_fields.new.living c.add_fields-2.new.living (field_lives (columns_but [] c.args.asked.now.least) (record c.args.row.now { end = c.args.end })) (field_lives (columns_but c.args.asked.now.least c.args.asked.now.greatest) (record c.args.row.now { end = c.args.end }))
    first (subst (λ cs. ComesTo c.add_fields.new.living c.add_fields-2.new.living (field_lives cs (record c.args.row.now { end = c.args.end }))) columns two)))
    c.add_fields-2.ensures

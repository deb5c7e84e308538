use Rattle.std.proofs.Common.{List, ◌++◌, ◌∙◌, ap, sym}
use Rattle.cedr_base.specs.declared.row.Row.{Row}
use Rattle.cedr_text.specs.Texts.{rows_text}
use Rattle.plan_serial.proofs.answer.write_table.Goals as goal

pub returns : goal.returns
returns c = λ nodes ports given h.
    let first = c.args.out.now.items in
    let are = c.in_ok-rows.ensures nodes ports given h in
    (c.in_ok-rows.rows.items, are.table, c.in_ok-write_rows.ensures.ok ∙ ap (λ (rows : List Row). first ++ rows_text rows) (c.as_slice.ensures.value ∙ sym are.ordered))

use Rattle.std.proofs.Common.{List, subst, sym, arith}
use Rattle.cedr_base.specs.declared.row.Row.{Row}
use Rattle.cedr_base.specs.Rows.{AreRows}
use Rattle.cedr_query.proofs.Feeding.{read_is}
use Rattle.message_cases.proofs.QueryLemmas.{has_row_more, have_rows_set}
use Rattle.message_cases.proofs.query.put.Goals as goal

pub returns-clause-rows : goal.returns-clause-rows
returns-clause-rows c =
    let tables = c.args.tables.now.items in
    let source = c.args.source in
    let rows = c.index_mut.result.now in
    let is = read_is tables source rows (omega (arith, c.if-source-len.false, c.len.ensures)) c.index_mut.ensures.value in
    let were = subst (λ (own : List Row). AreRows own) (sym is) (c.requires.rows.each source) in
    have_rows_set tables c.insert.new.self source c.requires.rows (has_row_more rows c.insert.new.self c.args.row c.in_ok-insert.ensures.ok c.requires.row were)

use Rattle.std.proofs.Common.{◌∙◌, sym, subst, ℕ, List, Bool, arith}
use Rattle.std.specs.Prelude.{if◌then◌else◌}
use Rattle.cedr_base.specs.Rows.{AreRows, SameRows}
use Rattle.cedr_table.specs.Operators.{AreTimes, table_at}
use Rattle.cedr_table.proofs.RowsLemmas.{same_are}
use Rattle.cedr_query.specs.Queries.{input_tables}
use Rattle.cedr_plan.specs.Places.{source_count}
use Rattle.op_node.specs.Meanings.{meaning_of}
use Rattle.cedr_query.proofs.Feeding.{read_is, same_tables_itself}
use Rattle.cedr_query.proofs.QueryLemmas.{zeros_are_times, same_inputs}
use Rattle.cedr_query.proofs.query.find_table.Goals as goal

pub returns-then-is_source-clause-rows : goal.returns-then-is_source-clause-rows
returns-then-is_source-clause-rows c =
    let t = c.index-sources-count_sources.result in
    let fewer = c.requires.source (sym c.is_source.ensures ∙ c.if-is_source.true) in
    let at = read_is c.args.sources.now c.count_sources.result t (omega (arith, fewer, c.count_sources.ensures)) c.index-sources-count_sources.is in
    same_are c.in_ok-copied.copied t c.in_ok-copied.ensures (subst AreRows (sym at) (c.requires.source_rows.each c.count_sources.result))

pub ask_node-requires-clause-times : goal.ask_node-requires-clause-times
ask_node-requires-clause-times c = subst (λ (ms : List ℕ). AreTimes ms) (sym (c.as_slice.ensures.value ∙ c.in_ok-marks.ensures)) (zeros_are_times c.len.result)

pub returns-clause-same : goal.returns-clause-same
returns-clause-same c = λ others same.
    let node = c.args.node.now in
    let isnt = sym c.is_source.ensures ∙ c.if-is_source.false in
    let a = c.in_ok-answer.ensures (input_tables others node) (same_inputs c.args.tables.now others node.inputs.items same) in
    subst (λ (b : Bool). SameRows c.in_ok-answer.answer.rows (if b then table_at c.args.sources.now (source_count c.args.before.now) else (meaning_of node).result (input_tables others node))) (sym isnt) a.result

pub returns-clause-rows : goal.returns-clause-rows
returns-clause-rows c = (c.in_ok-answer.ensures (input_tables c.args.tables.now c.args.node.now) (same_tables_itself (input_tables c.args.tables.now c.args.node.now))).are_rows

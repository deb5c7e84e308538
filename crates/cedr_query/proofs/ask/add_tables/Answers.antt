use Rattle.std.proofs.Common.{◌≡◌, ℕ, ◌<◌, ◌+◌, ◌++◌, List, get_or, length, ap, ◌∙◌, subst, sym, arith}
use Rattle.std.specs.Prelude.{replicate}
use Rattle.std.proofs.lemmas.List.Elements.{All-get_or}
use Rattle.cedr_base.specs.declared.row.Row.{Row}
use Rattle.cedr_base.specs.Rows.{in_order, AreRows}
use Rattle.cedr_table.specs.Operators.{Tables, Meaning, table_at, with_table, HaveRows}
use Rattle.cedr_query.proofs.Feeding.{FedTo, fed_next, order_has_rows, works_fed, read_is}
use Rattle.cedr_query.proofs.ask.add_tables.Goals as goal

rows_are : (tables : Tables) (inputs : List ℕ) (port : ℕ) (table rows : List Row) → get_or inputs port 0 < length tables → table ≡ get_or tables (get_or inputs port 0) table → rows ≡ in_order table → rows ≡ in_order (table_at tables (get_or inputs port 0))
rows_are tables inputs port table rows within is order = order ∙ ap in_order (read_is tables (get_or inputs port 0) table within is)

read_rows : (tables : Tables) (place : ℕ) (rows : List Row) → HaveRows tables → rows ≡ in_order (table_at tables place) → AreRows rows
read_rows tables place rows are is = subst AreRows (sym is) (order_has_rows (table_at tables place) (are.each place))

pub add_rows-requires-clause-rows : goal.add_rows-requires-clause-rows
add_rows-requires-clause-rows g c =
    let within = All-get_or (λ (place : ℕ). place < length c.args.tables.now) c.args.inputs.now c.loop-port.port 0 (omega arith) c.requires.inputs in
    read_rows c.args.tables.now (get_or c.args.inputs.now c.loop-port.port 0) c.as_slice.result.now c.requires.rows
    (rows_are c.args.tables.now c.args.inputs.now c.loop-port.port c.index-tables-input.result c.as_slice.result.now within c.index-tables-input.is (c.as_slice.ensures.value ∙ c.in_ok-rows.ensures))

pub loop-port-preserved : goal.loop-port-preserved
loop-port-preserved g c =
    let within = All-get_or (λ (place : ℕ). place < length c.args.tables.now) c.args.inputs.now c.loop-port.port 0 (omega arith) c.requires.inputs in
    let is = rows_are c.args.tables.now c.args.inputs.now c.loop-port.port c.index-tables-input.result c.as_slice.result.now within c.index-tables-input.is (c.as_slice.ensures.value ∙ c.in_ok-rows.ensures) in
    let sized = (g.met.O.Operator.lawful c.loop-port.op).sized c.loop-port.invariant.fed.0 (replicate (g.O.Operator.meaning c.loop-port.op).ports 0) c.loop-port.invariant.fed.1.0.stands_for in
    let ports = ap (λ (m : Meaning). m.ports) c.loop-port.invariant.meaning in
    record {
      fed = (
        with_table c.loop-port.invariant.fed.0 c.loop-port.port (table_at c.loop-port.invariant.fed.0 c.loop-port.port ++ c.as_slice.result.now),
        (
          c.in_ok-add_rows.ensures.works c.loop-port.invariant.fed.0 c.loop-port.invariant.fed.1.0,
          subst (λ (rows : List Row). FedTo c.args.tables.now c.args.inputs.now (c.loop-port.port + 1) (with_table c.loop-port.invariant.fed.0 c.loop-port.port (table_at c.loop-port.invariant.fed.0 c.loop-port.port ++ rows))) (sym is)
              (fed_next c.args.tables.now c.args.inputs.now c.loop-port.port c.loop-port.invariant.fed.0 (omega (arith, sized.0, ports, c.requires.ports)) c.loop-port.invariant.fed.1.1),
        ),
      );
      meaning = c.in_ok-add_rows.ensures.meaning ∙ c.loop-port.invariant.meaning;
    }

pub returns-clause-works : goal.returns-clause-works
returns-clause-works g c = λ others same.
    works_fed (g.O.Operator.meaning c.loop-port.op) (g.O.Operator.stands c.loop-port.op) c.args.tables.now c.args.inputs.now c.loop-port.port c.loop-port.invariant.fed.0 others c.loop-port.made (g.met.O.Operator.lawful c.loop-port.op)
    (c.requires.ports ∙ sym (ap (λ (m : Meaning). m.ports) c.loop-port.invariant.meaning)) (omega arith) c.loop-port.invariant.fed.1.1 c.loop-port.invariant.fed.1.0 same

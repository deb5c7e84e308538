use Rattle.std.proofs.Common.{◌<◌, refl, ◌∙◌, subst, sym, arith}
use Rattle.std.specs.Prelude.{replicate}
use Rattle.cedr_base.specs.Rows.{IsRow}
use Rattle.cedr_table.specs.Operators.{Tables, Meaning}
use Rattle.cedr_query.specs.Asked.{MadeOfTables}
use Rattle.cedr_query.proofs.Feeding.{with_first, with_none, with_next, with_last, at_has_row}
use Rattle.cedr_query.proofs.ask.add_rows.Goals as goal

pub loop-row-init : goal.loop-row-init
loop-row-init g c = record {
  works = λ tables works. subst (λ (ts : Tables). MadeOfTables (g.O.Operator.meaning c.args.op.now) (g.O.Operator.stands c.args.op.now) ts c.args.made.now) (sym (with_none tables c.args.port c.args.rows.now)) works;
  meaning = refl;
}

pub add_row-requires-clause-row : goal.add_row-requires-clause-row
add_row-requires-clause-row g c = subst IsRow (sym c.row-item.is) (at_has_row c.args.rows.now c.loop-row.row-index c.row-item.result (omega arith) c.requires.rows)

pub add_row-requires-clause-port : goal.add_row-requires-clause-port
add_row-requires-clause-port g c = subst (λ (m : Meaning). c.args.port < m.ports) (sym c.loop-row.invariant.meaning) c.requires.port

pub add_row-requires-clause-works : goal.add_row-requires-clause-works
add_row-requires-clause-works g c = (with_first c.requires.works.0 c.args.port c.loop-row.row-index c.args.rows.now, c.loop-row.invariant.works c.requires.works.0 c.requires.works.1)

pub loop-row-preserved : goal.loop-row-preserved
loop-row-preserved g c = record {
  works = λ tables works.
      let sized = (g.met.O.Operator.lawful c.args.op.now).sized tables (replicate (g.O.Operator.meaning c.args.op.now).ports 0) works.stands_for in
      subst (λ (ts : Tables). MadeOfTables (g.O.Operator.meaning c.add_row.new.op) (g.O.Operator.stands c.add_row.new.op) ts c.add_row.new.made)
      (with_next tables c.args.port c.loop-row.row-index c.args.rows.now c.row-item.result (omega (arith, sized.0, c.requires.port)) (omega arith) c.row-item.is)
      (c.in_ok-add_row.ensures.works (with_first tables c.args.port c.loop-row.row-index c.args.rows.now) (c.loop-row.invariant.works tables works));
  meaning = c.in_ok-add_row.ensures.meaning ∙ c.loop-row.invariant.meaning;
}

pub returns-clause-works : goal.returns-clause-works
returns-clause-works g c = λ tables works.
    subst (λ (ts : Tables). MadeOfTables (g.O.Operator.meaning c.loop-row.op) (g.O.Operator.stands c.loop-row.op) ts c.loop-row.made)
    (with_last tables c.args.port c.loop-row.row-index c.args.rows.now (omega arith))
    (c.loop-row.invariant.works tables works)

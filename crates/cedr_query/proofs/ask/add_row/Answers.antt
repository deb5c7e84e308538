use Rattle.std.proofs.lemmas.Result.{on_ok_weaker}
use Rattle.cedr_query.proofs.Feeding.{add_legal, add_works}
use Rattle.cedr_query.proofs.ask.add_row.Goals as goal

pub apply_all-requires : goal.apply_all-requires
apply_all-requires g c =
    add_legal (g.O.Operator.meaning c.args.op.now) (g.O.Operator.stands c.args.op.now) (g.met.O.Operator.lawful c.args.op.now) c.requires.works.0 c.args.made.now c.requires.works.1 c.args.port c.requires.port c.args.row.now c.in_ok-copy.field-0 c.requires.row c.in_ok-copy.ensures
    c.new-answers.result.items c.apply.new.out.items c.as_slice.result.now c.new-answers.ensures.items c.as_slice.ensures.value c.in_ok-apply.ensures.repairs

pub returns-clause-works : goal.returns-clause-works
returns-clause-works g c = on_ok_weaker c.apply_all.result (λ leads tables works.
    add_works (g.O.Operator.meaning c.args.op.now) (g.O.Operator.stands c.args.op.now) (g.met.O.Operator.lawful c.args.op.now) tables c.args.made.now works c.args.port c.requires.port c.args.row.now c.in_ok-copy.field-0 c.requires.row c.in_ok-copy.ensures
    (g.O.Operator.meaning c.apply.new.self) (g.O.Operator.stands c.apply.new.self) c.apply_all.new.table
    c.new-answers.result.items c.apply.new.out.items c.as_slice.result.now c.new-answers.ensures.items c.as_slice.ensures.value c.in_ok-apply.ensures.repairs c.in_ok-apply.ensures.stands c.in_ok-apply.ensures.meaning leads) c.apply_all.ensures

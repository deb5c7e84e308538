use Rattle.std.proofs.Common.{◌∷◌, []}
use Rattle.std.proofs.lemmas.Result.{on_ok_weaker}
use Rattle.pat_state.proofs.EndlessLemmas.{stands_still, left_adds, left_withdraws}
use Rattle.pat_state.specs.Tied.{left_rows, right_rows}
use Rattle.pat_unless.proofs.RepairLemmas.{row_comes, row_goes, row_blocks, row_frees, row_stays, rows_stand, blockers_stand, has_rows, has_blockers}
use Rattle.pat_unless.proofs.unless.UnlessOperator.apply.Goals as goal

pub answer_row-requires-then-port-eq0-2-clause-there : goal.answer_row-requires-then-port-eq0-2-clause-there
answer_row-requires-then-port-eq0-2-clause-there c =
    has_rows c.args.self.now.terms.scope (left_rows c.args.self.now.tied) (right_rows c.args.self.now.tied) c.requires.0 c.requires.1 c.args.port c.args.change c.in-Cut.row c.in-Cut.end c.if-port-eq0-2.true c.requires.2.kept.range.scope_is.least c.in-Cut.is c.if-row-end.false c.requires.2.kept c.requires.3

pub free-requires-clause-there : goal.free-requires-clause-there
free-requires-clause-there c =
    has_blockers c.args.self.now.terms.scope (left_rows c.args.self.now.tied) (right_rows c.args.self.now.tied) c.requires.0 c.requires.1 c.args.port c.args.change c.in-Cut.row c.in-Cut.end c.if-port-eq0-2.false c.requires.2.kept.range.scope_is.least c.in-Cut.is c.if-row-end.false c.requires.2.kept c.requires.3

pub returns-then-row-end-clause-stands : goal.returns-then-row-end-clause-stands
returns-then-row-end-clause-stands c = λ tables marks after stands can moved.
    record {
      kept = stands_still c.args.self.now.terms.scope ((left_rows c.args.self.now.tied) ∷ (right_rows c.args.self.now.tied) ∷ []) tables marks c.args.port stands.kept c.args.change can c.in-Cut.row c.in-Cut.end after c.in-Cut.is c.if-row-end.true moved;
      tags = stands.tags;
    }

pub returns-then-row-end-clause-repairs : goal.returns-then-row-end-clause-repairs
returns-then-row-end-clause-repairs c = λ tables marks after stands can moved.
    row_stays c.args.self.now.terms.scope c.args.self.now.terms.hold c.args.self.now.terms.tests tables marks c.args.port c.args.change c.in-Cut.row c.in-Cut.end after c.args.out.now.items c.in-Cut.is c.if-row-end.true can moved

pub returns-then-port-eq0-clause-stands : goal.returns-then-port-eq0-clause-stands
returns-then-port-eq0-clause-stands c = on_ok_weaker c.answer_row.result
    (λ answered tables marks after stands can moved. record {
      kept = rows_stand c.args.self.now.terms c.answer_row.new.self.terms (left_rows c.args.self.now.tied) (left_rows c.answer_row.new.self.tied) (right_rows c.args.self.now.tied) (right_rows c.answer_row.new.self.tied) tables marks c.args.port c.args.change after c.if-port-eq0.true c.answer_row.ensures.terms answered.0 answered.1 stands.kept (left_adds c.args.self.now.terms.scope ((left_rows c.args.self.now.tied) ∷ (right_rows c.args.self.now.tied) ∷ []) tables marks c.args.port stands.kept c.args.change can c.in-Add.row c.in-Add.is) moved;
      tags = answered.3;
    })
    c.answer_row.ensures.ok

pub returns-then-port-eq0-clause-repairs : goal.returns-then-port-eq0-clause-repairs
returns-then-port-eq0-clause-repairs c = on_ok_weaker c.answer_row.result
    (λ answered tables marks after stands can moved. row_comes c.args.self.now.terms.scope c.args.self.now.terms.hold c.args.self.now.terms.tests (left_rows c.args.self.now.tied) (right_rows c.args.self.now.tied) tables marks c.args.port c.args.change c.in-Add.row after c.args.out.now.items c.answer_row.new.out.items c.if-port-eq0.true c.in-Add.is stands.kept answered.2 can moved)
    c.answer_row.ensures.ok

pub returns-in-Add-clause-stands : goal.returns-in-Add-clause-stands
returns-in-Add-clause-stands c = on_ok_weaker c.block.result
    (λ answered tables marks after stands can moved. record {
      kept = blockers_stand c.args.self.now.terms c.block.new.self.terms (left_rows c.args.self.now.tied) (left_rows c.block.new.self.tied) (right_rows c.args.self.now.tied) (right_rows c.block.new.self.tied) tables marks c.args.port c.args.change after c.if-port-eq0.false c.block.ensures.terms answered.0 answered.1 stands.kept (left_adds c.args.self.now.terms.scope ((left_rows c.args.self.now.tied) ∷ (right_rows c.args.self.now.tied) ∷ []) tables marks c.args.port stands.kept c.args.change can c.in-Add.row c.in-Add.is) can moved;
      tags = answered.3;
    })
    c.block.ensures.ok

pub returns-in-Add-clause-repairs : goal.returns-in-Add-clause-repairs
returns-in-Add-clause-repairs c = on_ok_weaker c.block.result
    (λ answered tables marks after stands can moved. row_blocks c.args.self.now.terms.scope c.args.self.now.terms.hold c.args.self.now.terms.tests (left_rows c.args.self.now.tied) (right_rows c.args.self.now.tied) tables marks c.args.port c.args.change c.in-Add.row after c.args.out.now.items c.block.new.out.items c.if-port-eq0.false c.in-Add.is stands.kept answered.2 can moved)
    c.block.ensures.ok

pub returns-then-port-eq0-2-clause-stands : goal.returns-then-port-eq0-2-clause-stands
returns-then-port-eq0-2-clause-stands c = on_ok_weaker c.answer_row-then-port-eq0-2.result
    (λ answered tables marks after stands can moved. record {
      kept = rows_stand c.args.self.now.terms c.answer_row-then-port-eq0-2.new.self.terms (left_rows c.args.self.now.tied) (left_rows c.answer_row-then-port-eq0-2.new.self.tied) (right_rows c.args.self.now.tied) (right_rows c.answer_row-then-port-eq0-2.new.self.tied) tables marks c.args.port c.args.change after c.if-port-eq0-2.true c.answer_row-then-port-eq0-2.ensures.terms answered.0 answered.1 stands.kept (left_withdraws c.args.self.now.terms.scope ((left_rows c.args.self.now.tied) ∷ (right_rows c.args.self.now.tied) ∷ []) tables marks c.args.port stands.kept c.args.change can c.in-Cut.row c.in-Cut.end stands.kept.range.scope_is.least c.in-Cut.is c.if-row-end.false) moved;
      tags = answered.3;
    })
    c.answer_row-then-port-eq0-2.ensures.ok

pub returns-then-port-eq0-2-clause-repairs : goal.returns-then-port-eq0-2-clause-repairs
returns-then-port-eq0-2-clause-repairs c = on_ok_weaker c.answer_row-then-port-eq0-2.result
    (λ answered tables marks after stands can moved. row_goes c.args.self.now.terms.scope c.args.self.now.terms.hold c.args.self.now.terms.tests (left_rows c.args.self.now.tied) (right_rows c.args.self.now.tied) tables marks c.args.port c.args.change c.in-Cut.row c.in-Cut.end after c.args.out.now.items c.answer_row-then-port-eq0-2.new.out.items c.if-port-eq0-2.true c.in-Cut.is c.if-row-end.false stands.kept answered.2 can moved)
    c.answer_row-then-port-eq0-2.ensures.ok

pub returns-clause-stands : goal.returns-clause-stands
returns-clause-stands c = on_ok_weaker c.free.result
    (λ answered tables marks after stands can moved. record {
      kept = blockers_stand c.args.self.now.terms c.free.new.self.terms (left_rows c.args.self.now.tied) (left_rows c.free.new.self.tied) (right_rows c.args.self.now.tied) (right_rows c.free.new.self.tied) tables marks c.args.port c.args.change after c.if-port-eq0-2.false c.free.ensures.terms answered.0 answered.1 stands.kept (left_withdraws c.args.self.now.terms.scope ((left_rows c.args.self.now.tied) ∷ (right_rows c.args.self.now.tied) ∷ []) tables marks c.args.port stands.kept c.args.change can c.in-Cut.row c.in-Cut.end stands.kept.range.scope_is.least c.in-Cut.is c.if-row-end.false) can moved;
      tags = answered.3;
    })
    c.free.ensures.ok

pub returns-clause-repairs : goal.returns-clause-repairs
returns-clause-repairs c = on_ok_weaker c.free.result
    (λ answered tables marks after stands can moved. row_frees c.args.self.now.terms.scope c.args.self.now.terms.hold c.args.self.now.terms.tests (left_rows c.args.self.now.tied) (right_rows c.args.self.now.tied) (right_rows c.free.new.self.tied) tables marks c.args.port c.args.change c.in-Cut.row c.in-Cut.end after c.args.out.now.items c.free.new.out.items c.if-port-eq0-2.false c.in-Cut.is c.if-row-end.false stands.kept answered.1 answered.2 can moved)
    c.free.ensures.ok

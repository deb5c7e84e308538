use Rattle.std.proofs.Common.{◌∷◌, [], ◌∙◌, sym}
use Rattle.std.proofs.lemmas.Result.{on_ok_weaker}
use Rattle.op_row.specs.UnionLaws.{union_repairs}
use Rattle.op_row.proofs.union.UnionOperator.apply.Goals as goal

pub returns-clause-repairs : goal.returns-clause-repairs
returns-clause-repairs c = on_ok_weaker c.hand_on.result
    (λ e tables marks after stands can moved. record {
      changes = c.args.change ∷ [];
      appended = e;
      repair = union_repairs tables marks c.args._port c.args.change after (stands.mark ∙ sym stands.table) can moved;
    })
    c.hand_on.ensures.ok

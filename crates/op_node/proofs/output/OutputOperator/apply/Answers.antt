use Rattle.std.proofs.Common.{◌∷◌, []}
use Rattle.std.proofs.lemmas.Result.{on_ok_weaker}
use Rattle.op_node.specs.OutputLaws.{output_repairs}
use Rattle.op_node.proofs.output.OutputOperator.apply.Goals as goal

pub returns-clause-repairs : goal.returns-clause-repairs
returns-clause-repairs c = on_ok_weaker c.hand_on.result
    (λ e tables marks after stands can moved. record {
      changes = c.args.change ∷ [];
      appended = e;
      repair = output_repairs tables marks c.args._port c.args.change after stands.table can moved;
    })
    c.hand_on.ensures.ok

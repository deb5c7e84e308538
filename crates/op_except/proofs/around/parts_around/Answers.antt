use Rattle.std.proofs.lemmas.Result.{IfOk-weaker}
use Rattle.filed_rows.specs.Filed.{right_partners}
use Rattle.op_except.proofs.AroundLemmas.{around_is}
use Rattle.op_except.proofs.around.parts_around.Goals as goal

pub returns : goal.returns
returns c = IfOk-weaker c.free_parts.result _ _
    (λ found same are.
    around_is c.args.tests.now c.args.from c.args.to (right_partners c.args.right.now.entries c.args.tag) c.args.row.now c.in_ok-part.part c.narrow_beside.new.part c.new-busy.result c.gather_beside.new.busy found.items c.in_ok-part.ensures c.new-busy.ensures c.narrow_beside.ensures are (c.in_ok-gather_beside.ensures are) same)
    c.free_parts.ensures

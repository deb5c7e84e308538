use Rattle.std.proofs.Common.{◌∙◌, ap}
use Rattle.op_node.specs.Readings.{NodeOperator}
use Rattle.cedr_node.specs.declared.aligned.Aligned.{Aligned}
use Rattle.cedr_node.proofs.node.Node.ended.Goals as goal

pub returns : goal.returns
returns c = λ lists given stands. c.ended.ensures lists (ap (λ (a : Aligned NodeOperator). a.waiting) c.deref.ensures ∙ stands.between.waiting_is)

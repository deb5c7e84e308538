use Rattle.std.proofs.Common.{◌∙◌, sym, arith}
use Rattle.cedr_base.proofs.CodeOrder.{shorter_first}
use Rattle.cedr_base.proofs.code_order.compare_bytes.Goals as goal

pub returns : goal.returns
returns c = c.cmp-2.ensures ∙ sym (shorter_first c.args.one.now c.args.other.now c.loop-i.i (omega arith)) ∙ c.loop-i.invariant

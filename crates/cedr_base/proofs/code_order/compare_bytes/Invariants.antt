use Rattle.std.proofs.Common.{◌≡◌, drop}
use Rattle.cedr_base.specs.Order.{text_cmp}
use Rattle.cedr_base.proofs.code_order.compare_bytes.Given as goal

-- what is left of one compares with what is left of the other as all of it with all
abbrev pub invariant-loop-i : goal.invariant-loop-i
invariant-loop-i l = text_cmp (drop l.i l.one) (drop l.i l.other) ≡ text_cmp l.one l.other

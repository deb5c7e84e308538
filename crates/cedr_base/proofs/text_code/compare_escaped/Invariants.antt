use Rattle.std.proofs.Common.{◌≡◌, ◌++◌, ◌∷◌, [], drop}
use Rattle.cedr_base.specs.Order.{text_cmp}
use Rattle.cedr_base.specs.FieldCodes.{escaped}
use Rattle.cedr_base.proofs.text_code.compare_escaped.Given as goal

-- what is left of the code compares with what is left of the text as all of it with all
abbrev pub invariant-loop-byte : goal.invariant-loop-byte
invariant-loop-byte l = text_cmp l.rest (escaped (drop l.byte-index l.text) ++ 0 ∷ []) ≡ text_cmp l.initial.rest (escaped l.text ++ 0 ∷ [])

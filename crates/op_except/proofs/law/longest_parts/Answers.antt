use Rattle.cedr_base.specs.Rows.{one_if_same}
use Rattle.op_except.specs.PartLaws.{parts_same}
use Rattle.op_except.proofs.PartLemmas.{parts_within}
use Rattle.op_except.proofs.LongestLemmas.{parts_free, parts_once, parts_apart, all_covered}
use Rattle.op_except.proofs.law.longest_parts.Goals as goal

pub returns-clause-same : goal.returns-clause-same
returns-clause-same c = λ a others turned same. record { each = λ r. parts_same (one_if_same r) a others turned same }

pub returns-clause-once : goal.returns-clause-once
returns-clause-once c = parts_once

pub returns-clause-within : goal.returns-clause-within
returns-clause-within c = λ a x others there. let h = parts_within a x others there in (h.from, h.lives, h.by, h.same)

pub returns-clause-free : goal.returns-clause-free
returns-clause-free c = parts_free

pub returns-clause-apart : goal.returns-clause-apart
returns-clause-apart c = parts_apart

pub returns-clause-covers : goal.returns-clause-covers
returns-clause-covers c = λ a others begin end lives from by free. let h = all_covered a others begin end lives from by free in (h.part, h.there, h.from, h.by)

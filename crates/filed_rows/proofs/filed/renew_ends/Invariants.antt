use Rattle.filed_rows.proofs.RenewLemmas.{AreFiledBut}
use Rattle.filed_rows.proofs.filed.renew_ends.Given as goal

abbrev pub invariant-loop-tag : goal.invariant-loop-tag
invariant-loop-tag l = AreFiledBut l.fn.by_tag.entries l.tag-iterator l.ends

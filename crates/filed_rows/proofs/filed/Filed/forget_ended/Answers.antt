use Rattle.filed_rows.proofs.EndLemmas.{none_ends}
use Rattle.filed_rows.proofs.filed.Filed.forget_ended.Goals as goal

pub returns-else-time-lt-FOREVER-clause-ends : goal.returns-else-time-lt-FOREVER-clause-ends
returns-else-time-lt-FOREVER-clause-ends c = none_ends c.args.self.now.by_tag.entries c.forget_all.new.by_tag.entries c.clear.new.self c.args.time c.if-time-lt-FOREVER.false c.forget_all.ensures.kept c.forget_all.ensures.in_use

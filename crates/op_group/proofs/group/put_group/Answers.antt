use Rattle.op_group.proofs.Answered.{empty_put, nil_from_length}
use Rattle.op_group.proofs.group.put_group.Goals as goal

pub returns-then-is_empty-clause-cuts : goal.returns-then-is_empty-clause-cuts
returns-then-is_empty-clause-cuts c = λ other. empty_put c.args.groups.now.entries c.args.key other c.args.cuts.entries (nil_from_length c.args.cuts.entries (c.is_empty.ensures.0 c.if-is_empty.true)) c.requires

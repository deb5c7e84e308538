use Rattle.cedr_parts.proofs.command.on_parts.Goals as goal

pub returns-in-Ok-Some-clause-ends : goal.returns-in-Ok-Some-clause-ends
returns-in-Ok-Some-clause-ends g c = c.answer_divided.ensures.ends c.args.count

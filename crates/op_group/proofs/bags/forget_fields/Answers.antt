use Rattle.op_group.proofs.FieldLemmas.{settled_without, none_live}
use Rattle.op_group.proofs.bags.forget_fields.Goals as goal

pub returns-then-forget_in-clause-settles : goal.returns-then-forget_in-clause-settles
returns-then-forget_in-clause-settles c = settled_without c.args.at c.args.key.now c.args.bags.now c.forget_in.new.bags c.remove_bag.new.bags c.forget_in.ensures.settles (c.forget_in.ensures.empty c.if-forget_in.true) c.remove_bag.ensures.passed c.remove_bag.ensures.sorted c.remove_bag.ensures.others

pub returns-then-forget_in-clause-live : goal.returns-then-forget_in-clause-live
returns-then-forget_in-clause-live c = none_live c.args.key.now c.forget_in.new.bags c.remove_bag.new.bags c.remove_bag.ensures.others

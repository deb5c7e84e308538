use Rattle.std.proofs.Common.{sym, subst}
use Rattle.op_group.specs.Bags.{BagKeeps}
use Rattle.op_group.proofs.FieldLemmas.{none_kept}
use Rattle.op_group.proofs.bags.put_bag.Goals as goal

pub returns-then-is_empty-clause-keeps : goal.returns-then-is_empty-clause-keeps
returns-then-is_empty-clause-keeps c = λ lives keeps low. subst (λ o. BagKeeps o c.args.bags.now.passed lives) (sym c.requires) (none_kept c.args.living c.args.bags.now.passed lives (c.is_empty.ensures.0 c.if-is_empty.true) keeps low)

use Rattle.std.proofs.Common.{sym, subst, arith}
use Rattle.cedr_living.specs.Bags.{AllEnd}
use Rattle.cedr_living.specs.BagLaws.{empty_keeps}
use Rattle.op_group.specs.Bags.{BagKeeps}
use Rattle.op_group.proofs.bags.take_bag.Goals as goal

pub returns-in-None-clause-keeps : goal.returns-in-None-clause-keeps
returns-in-None-clause-keeps c = λ lives kept.
    let all = subst (λ o. BagKeeps o c.args.bags.now.passed lives) (sym c.in-None.ensures.value) kept in (
      empty_keeps c.new.result lives c.new.ensures.empty (subst (λ t. AllEnd t lives) (sym c.new.ensures.from) all),
      let from = c.new.ensures.from in omega arith,
    )

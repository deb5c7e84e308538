use Rattle.cedr_base.specs.declared.change.Message.TheVariants as message
use Rattle.cedr_worker.specs.Operators.{with_break}
use Rattle.cedr_worker.proofs.TryLemmas.{last_pending}
use Rattle.cedr_worker.proofs.working.break_off.Goals as goal

pub returns-clause-pending : goal.returns-clause-pending
returns-clause-pending c k d less some =
    let lost = c.requires.1.lost c.if-not-lacked.false in
    let given = with_break c.args.broke lost.given in
    last_pending c.args.outlets.now c.close.new.self given message.Broken c.close.ensures.bare lost.all (c.close.ensures.given given lost.all) k d less

use Rattle.change_laws.proofs.Legal.{legal-push}
use Rattle.worker_tests.proofs.feeding.feed.Goals as goal

pub put-requires : goal.put-requires
put-requires g c = legal-push c.args.feeder.now.out.sent c.in_ok-message.message c.count.ensures.legal (c.may_come.ensures c.if-not-may_come.false c.args.feeder.now.out.sent c.requires)

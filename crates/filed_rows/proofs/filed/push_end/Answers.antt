use Rattle.std.proofs.lemmas.Result.{on_ok_weaker}
use Rattle.filed_rows.proofs.EndLemmas.{came_there, stays_there}
use Rattle.filed_rows.proofs.filed.push_end.Goals as goal

pub returns-then-end-lt-FOREVER-clause-there : goal.returns-then-end-lt-FOREVER-clause-there
returns-then-end-lt-FOREVER-clause-there c = on_ok_weaker c.push.result (λ came finite. came_there (c.args.end, c.args.tag) c.args.ends.now c.push.new.self came) c.push.ensures.ok

pub returns-then-end-lt-FOREVER-clause-others : goal.returns-then-end-lt-FOREVER-clause-others
returns-then-end-lt-FOREVER-clause-others c = on_ok_weaker c.push.result (λ came due there. stays_there (c.args.end, c.args.tag) due c.args.ends.now c.push.new.self came there) c.push.ensures.ok

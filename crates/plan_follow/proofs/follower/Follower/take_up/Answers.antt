use Rattle.std.proofs.lemmas.Result.{on_ok_weaker}
use Rattle.plan_follow.proofs.FollowerLemmas.{came_on}
use Rattle.plan_follow.proofs.follower.Follower.take_up.Goals as goal

pub returns : goal.returns
returns c = on_ok_weaker c.gather.result (λ gathers nodes s now start gone ahead.
    came_on nodes c.args.name.now c.args.self.now c.note.new.self c.gather.new.self s now start gone c.args.fault ahead c.in_ok-note.ensures gathers)
    c.gather.ensures

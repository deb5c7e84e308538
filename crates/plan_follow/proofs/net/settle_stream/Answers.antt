use Rattle.plan_follow.proofs.net.settle_stream.Goals as goal

pub settle-requires : goal.settle-requires
settle-requires c = λ usable. c.requires

use Rattle.plan_live.proofs.player.settle.Goals as goal

pub settle-requires : goal.settle-requires
settle-requires c = λ usable. c.requires

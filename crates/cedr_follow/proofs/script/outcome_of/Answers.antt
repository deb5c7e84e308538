use Rattle.std.proofs.Common.{Ok, Bool, refl, sym, subst}
use Rattle.cedr_commands.specs.declared.outcome.Outcome.TheVariants as outcome
use Rattle.cedr_follow.proofs.script.outcome_of.Goals as goal
use Rattle.cedr_follow.specs.FollowEnds.{GoesAs}

pub returns-in-Ok-true : goal.returns-in-Ok-true
returns-in-Ok-true c = rw c.in-Ok-true.is (subst (λ (faulty : Bool). GoesAs (Ok faulty) (outcome.Events c.new.result)) (sym c.in-Ok-true.field-0-test) (c.new.result, refl, c.new.ensures.items))

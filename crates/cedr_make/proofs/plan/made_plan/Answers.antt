use Rattle.cedr_make.proofs.BuiltInLemmas.{sound_where}
use Rattle.cedr_make.proofs.plan.made_plan.Goals as goal

pub returns-clause-sound : goal.returns-clause-sound
returns-clause-sound c = sound_where _ c.in_ok-nodes.ensures

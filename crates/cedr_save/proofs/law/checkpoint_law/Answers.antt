use Rattle.std.proofs.Common.{refl}
use Rattle.cedr_save.specs.Checkpoints.{plan_sources}
use Rattle.cedr_save.proofs.GoOnLemmas.{refused_apart}
use Rattle.cedr_save.proofs.OneState.{one_state}
use Rattle.cedr_save.proofs.law.checkpoint_law.Goals as goal

pub returns-clause-limit : goal.returns-clause-limit
returns-clause-limit c = refl

pub returns-clause-one : goal.returns-clause-one
returns-clause-one c = one_state

pub returns-clause-apart : goal.returns-clause-apart
returns-clause-apart c = λ nodes states bytes line refused is. refused_apart (plan_sources nodes) states bytes line refused is

use Rattle.plan_runs.proofs.PartialApproach.{partial_approaches}
use Rattle.plan_runs.proofs.PartialOutput.{output_adds, output_ascends}
use Rattle.plan_runs.proofs.laws.partial_agreement.Goals as goal

pub returns-clause-agrees : goal.returns-clause-agrees
returns-clause-agrees c = partial_approaches

pub returns-clause-strong : goal.returns-clause-strong
returns-clause-strong c = λ nodes sources tables ports given are run remembers begin before after n whole out strong. output_adds nodes sources ports given are run before after n whole out tables remembers begin strong

pub returns-clause-ascends : goal.returns-clause-ascends
returns-clause-ascends c = λ nodes sources ports given are run legal before after n whole out strong. output_ascends nodes sources ports given are run before after n whole out legal strong

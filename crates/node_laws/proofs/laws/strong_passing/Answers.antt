use Rattle.node_laws.proofs.Strong.{strong_goes}
use Rattle.node_laws.proofs.laws.strong_passing.Goals as goal

pub returns-clause-no_cut : goal.returns-clause-no_cut
returns-clause-no_cut c = λ level ms strong legal. (strong_goes level strong ms legal).no_cut

pub returns-clause-ascend : goal.returns-clause-ascend
returns-clause-ascend c = λ level ms strong legal. (strong_goes level strong ms legal).ascend
